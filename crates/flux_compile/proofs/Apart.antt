-- The nodes that items come from, and those to which flows come.
use Rattle.std.proofs.Common.{◌≡◌, ℕ, inl, inr, List, [], ◌∷◌, map, slice_get, Option, Some, None, refl, sym, ap, subst}
use Rattle.std.specs.Prelude.{IfSome}
use Rattle.std.specs.List.{Contains, AllByRecursion, fold}
use Rattle.flux_values.specs.declared.meanings.Role.TheVariants.{Plain}
use Rattle.flux_values.specs.declared.meanings.Sig.{Sig}
use Rattle.flux_values.specs.Meanings.{LibraryMeaning}
use Rattle.flux_model.specs.declared.programs.SourceLine.{SourceLine}
use Rattle.flux_model.specs.declared.programs.Node.{Node}
use Rattle.flux_model.specs.declared.programs.Body.{Body}
use Rattle.flux_model.specs.declared.programs.Body.TheVariants.{Concrete, Abstract}
use Rattle.flux_model.specs.declared.programs.Program.{Program}
use Rattle.flux_model.specs.Leading.{leads_to, numbers_of, leads_in}
use Rattle.flux_model.specs.Children.{IsIn}
use Rattle.flux_model.specs.Visits.{IsKnown, with_number, with_all}
use Rattle.flux_model.specs.Kinds.{NodeKinds}
use Rattle.flux_model.specs.Soundness.{IsPlain, IsPlainBody, IsSourceNode, IsSourceBody, IsSourceSig, IsSound}
use Rattle.flux_model.proofs.Visiting.{all_new, all_or}
use Rattle.flux_model.proofs.RisingHolds.{contains_cases, contains_none, contains_first, contains_later}
use Rattle.flux_compile.specs.Sources.{AreApart}
use Rattle.flux_compile.specs.steps.Segments.{origins_of}

-- what all have, each has
pub all_in : {X : Type 0} (P : X → Type 0) (xs : List X) (x : X) → AllByRecursion P xs → Contains xs x → P x
all_in P [] x all c = absurd (contains_none x c)
all_in P (y ∷ xs) x (own, all) c = elim (contains_cases y xs x c) [
  | inl same ↦ subst P (sym same) own
  | inr later ↦ all_in P xs x all later
]

-- a source's own node is one of them
own_in : (lines : List SourceLine) (line : SourceLine) → Contains lines line → IsIn line.node.0 (map (λ line. line.node) lines)
own_in [] line c = absurd (contains_none line c)
own_in (first ∷ lines) line c = elim (contains_cases first lines line c) [
  | inl same ↦ inl (ap (λ (l : SourceLine). l.node.0) same)
  | inr later ↦ inr (own_in lines line later)
]

-- they are visited one after the other
origins_visited : (known : List ℕ) (lines : List SourceLine)
    → fold (λ (known : List ℕ) (line : SourceLine). with_number known line.node.0) known lines
    ≡ with_all known (map (λ line. line.node) lines)
origins_visited known [] = refl
origins_visited known (line ∷ lines) = origins_visited (with_number known line.node.0) lines

pub own_known : (lines : List SourceLine) (line : SourceLine) → Contains lines line → IsKnown line.node.0 (origins_of lines)
own_known lines line c = rw (origins_visited [] lines) (all_new line.node.0 [] (map (λ line. line.node) lines) (own_in lines line c))

-- a source line whose own node has a number
pub record HasLine (lines : List SourceLine) (number : ℕ) : Type 0 where
  pub line : SourceLine
  pub among : Contains lines line
  pub own : number ≡ line.node.0

line_of : (lines : List SourceLine) (number : ℕ) → IsIn number (map (λ line. line.node) lines) → HasLine lines number
line_of [] number is = absurd is
line_of (first ∷ lines) number (inl same) = record { line = first; among = contains_first first lines; own = same }
line_of (first ∷ lines) number (inr is) =
    let later = line_of lines number is in
    record { line = later.line; among = contains_later first lines later.line later.among; own = later.own }

-- what is known to be such a node is the own node of some source
known_line : (lines : List SourceLine) (number : ℕ) → IsKnown number (origins_of lines) → HasLine lines number
known_line lines number known = elim (all_or number [] (map (λ line. line.node) lines) (rw (origins_visited [] lines) at known)) [
  | inl none ↦ absurd cc
  | inr is ↦ line_of lines number is
]

module _ (p : Program) (apart : AreApart p) where
  -- no node leads to such a node
  pub apart_led : (from next : ℕ) → IsIn next (leads_in p.nodes from) → IsKnown next (origins_of p.sources) → ⊥
  apart_led from next is known =
      let has = known_line p.sources next known in
      apart.led has.line from has.among (subst (λ (n : ℕ). IsIn n (leads_in p.nodes from)) has.own is)

  -- it is no source's target
  pub apart_target : (line : SourceLine) → Contains p.sources line → IsKnown line.target.0 (origins_of p.sources) → ⊥
  apart_target line among known =
      let has = known_line p.sources line.target.0 known in
      apart.targets has.line line has.among among (sym has.own)

-- ---- in sound programs

-- no node is both one that items come from, and one to which flows may come
plain_sig : (found : Option Sig) → IsSourceSig found → IfSome found (λ sig. sig.role ≡ Plain) → ⊥
plain_sig None source plain = source
plain_sig (Some sig) source plain = source plain

plain_body : (meaning : LibraryMeaning) (body : Body) → IsSourceBody meaning body → IsPlainBody meaning body → ⊥
plain_body meaning (Concrete name) source plain = plain_sig (meaning.node name) source plain
plain_body meaning (Abstract cases) source plain = source

plain_node : (meaning : LibraryMeaning) (found : Option Node) → IsSourceNode meaning found → IsPlain meaning found → ⊥
plain_node meaning None source plain = source
plain_node meaning (Some node) source plain = plain_body meaning node.body source plain

-- so no flow reaches a source's own node
pub sound_apart : (meaning : LibraryMeaning) (p : Program) (kinds : ℕ → NodeKinds) → IsSound meaning p kinds → AreApart p
sound_apart meaning p kinds sound = record { targets = targets; led = led }
  where
    origin : (line : SourceLine) → Contains p.sources line → IsSourceNode meaning (slice_get p.nodes line.node.0)
    origin line c = all_in (λ (l : SourceLine). IsSourceNode meaning (slice_get p.nodes l.node.0)) p.sources line sound.origins c

    targets : (line other : SourceLine) → Contains p.sources line → Contains p.sources other → line.node.0 ≡ other.target.0 → ⊥
    targets line other c d same =
        let plain = all_in (λ (l : SourceLine). IsPlain meaning (slice_get p.nodes l.target.0)) p.sources other sound.targets d in
        plain_node meaning (slice_get p.nodes line.node.0) (origin line c)
        (subst (λ (n : ℕ). IsPlain meaning (slice_get p.nodes n)) (sym same) plain)

    led : (line : SourceLine) (number : ℕ) → Contains p.sources line → IsIn line.node.0 (leads_in p.nodes number) → ⊥
    led line number c is = by (slice_get p.nodes number) refl is
      where
        by : (found : Option Node) → slice_get p.nodes number ≡ found → IsIn line.node.0 (numbers_of leads_to found) → ⊥
        by None at is = is
        by (Some node) at is =
            plain_node meaning (slice_get p.nodes line.node.0) (origin line c) (sound.members number node at line.node.0 is)
