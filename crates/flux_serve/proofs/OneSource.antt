-- What the one source of a served program gives.
use Rattle.std.proofs.Common.{◌≡◌, ℕ, List, [], ◌∷◌, Option, Some, None, refl, sym, ◌∙◌, subst}
use Rattle.std.specs.List.{slice_get, AllByRecursion}
use Rattle.flux_values.specs.Meanings.{LibraryMeaning}
use Rattle.flux_values.specs.declared.values.Kind.{Kind}
use Rattle.flux_values.specs.declared.values.Kind.TheVariants.{Int, Text}
use Rattle.flux_values.specs.declared.meanings.Role.{Role}
use Rattle.flux_values.specs.declared.meanings.Sig.{Sig}
use Rattle.flux_library.specs.Libraries.{GivesText, IsLawfulSig, IsLawfulNode, IsLawful}
use Rattle.flux_model.specs.declared.programs.Program.{Program}
use Rattle.flux_model.specs.declared.programs.SourceLine.{SourceLine}
use Rattle.flux_model.specs.declared.programs.SourceNo.{SourceNo}
use Rattle.flux_model.specs.declared.programs.Body.{Body}
use Rattle.flux_model.specs.declared.programs.Body.TheVariants.{Concrete}
use Rattle.flux_model.specs.declared.items.Item.{Item}
use Rattle.flux_model.specs.Items.{AreValues, IsItemOf, IsItemFor}
use Rattle.flux_model.specs.Kinds.{NodeKinds}
use Rattle.flux_model.specs.Soundness.{IsLike, IsBodyLike, IsSound}
use Rattle.flux_doors.specs.declared.framing.Framing.{Framing}
use Rattle.flux_doors.specs.declared.framing.Framing.TheVariants.{Head, Line}
use Rattle.flux_batches.specs.Links.{IsLinkItem}
use Rattle.flux_sources.specs.Sources.{role_of, IsServed}

gives_text : (framing : Framing) (outs : List Kind) → GivesText (role_of framing) outs → outs ≡ Int ∷ Text ∷ []
gives_text Head outs gives = gives
gives_text Line outs gives = gives

body_like : (meaning : LibraryMeaning) (own : NodeKinds) (body : Body) (name : List ℕ) → IsBodyLike meaning own body → body ≡ Concrete name → IsLike (meaning.node name) own
body_like meaning own body name like is =
    let P : Body → Type 0 = λ b. IsBodyLike meaning own b in subst P is like

-- a number and a text
pub source_outs : (meaning : LibraryMeaning) (p : Program) (kinds : ℕ → NodeKinds) (framing : Framing) → IsLawful meaning → IsSound meaning p kinds → (s : IsServed meaning p framing)
    → (let line = s.line in let own = kinds line.node.0 in own.outs ≡ Int ∷ Text ∷ [])
source_outs meaning p kinds framing lawful sound s =
    let line = s.line in
    let own = kinds line.node.0 in
    let sig = s.sig in
    let are = sound.kinds_are in
    let L : Option Sig → Type 0 = λ found. IsLike found own in
    let named = s.named in let node = named.node in
    let like = subst L s.known (body_like meaning own node.body s.name (are.like line.node.0 node named.at) named.concrete) in
    let N : Option Sig → Type 0 = λ found. IsLawfulNode found (meaning.call s.name) in
    let law : IsLawfulSig sig (meaning.call s.name) = subst N s.known (lawful.nodes s.name) in
    let G : Role → Type 0 = λ role. GivesText role sig.outs in
    like.1 ∙ gives_text framing sig.outs (subst G s.role law.source)

link_item_fits : (p : Program) (kinds : ℕ → NodeKinds) (line : SourceLine) → p.sources ≡ line ∷ [] → (let own = kinds line.node.0 in own.outs ≡ Int ∷ Text ∷ []) → (item : Item) → IsLinkItem item → IsItemFor p kinds item
link_item_fits p kinds line one outs item is =
    let V : List Kind → Type 0 = λ ks. AreValues ks item.values in
    let S : List SourceLine → Type 0 = λ lines. IsItemOf kinds (slice_get lines 0) item.values in
    let N : SourceNo → Type 0 = λ number. IsItemOf kinds (slice_get p.sources number.0) item.values in
    subst N (sym is.0) (subst S (sym one) (subst V (sym outs) is.1))

-- the items of links fit it
pub link_items_fit : (p : Program) (kinds : ℕ → NodeKinds) (line : SourceLine) → p.sources ≡ line ∷ [] → (let own = kinds line.node.0 in own.outs ≡ Int ∷ Text ∷ []) → (items : List Item) → AllByRecursion IsLinkItem items → AllByRecursion (IsItemFor p kinds) items
link_items_fit p kinds line one outs [] all = tt
link_items_fit p kinds line one outs (item ∷ items) all = (link_item_fits p kinds line one outs item all.0, link_items_fit p kinds line one outs items all.1)
