-- Calls that come next are of nodes that the library has, on what these take.
use Rattle.std.proofs.Common.{◌≡◌, ℕ, List, [], ◌∷◌, length, Option, Some, None, refl, sym, ap, subst, ◌∙◌}
use Rattle.std.specs.List.{slice_get, AllByRecursion, Contains}
use Rattle.std.specs.Option.{is_some}
use Rattle.std.specs.Prelude.{IsSome, IfSome}
use Rattle.std.proofs.lemmas.List.{length-map}
use Rattle.flux_values.specs.declared.values.Value.{Value}
use Rattle.flux_values.specs.declared.meanings.Sig.{Sig}
use Rattle.flux_values.specs.declared.meanings.CellUse.{CellUse}
use Rattle.flux_values.specs.Cells.{CellMap}
use Rattle.flux_values.specs.Meanings.{LibraryMeaning}
use Rattle.flux_library.specs.Libraries.{IsLawful, IsCallable}
use Rattle.flux_model.specs.declared.programs.Hold.{Hold}
use Rattle.flux_model.specs.declared.programs.Node.{Node}
use Rattle.flux_model.specs.declared.programs.NodeNo.{NodeNo}
use Rattle.flux_model.specs.declared.programs.Program.{Program}
use Rattle.flux_model.specs.declared.programs.Body.{Body}
use Rattle.flux_model.specs.declared.programs.Body.TheVariants.{Concrete, Abstract}
use Rattle.flux_model.specs.Items.{IsItemFor}
use Rattle.flux_model.specs.Kinds.{NodeKinds}
use Rattle.flux_model.specs.Locks.{declared}
use Rattle.flux_model.specs.Soundness.{IsProtected, AreCellsProtected, IsSound}
use Rattle.flow_model.specs.declared.journals.Entry.{Entry}
use Rattle.flow_model.specs.Setup.{Setup}
use Rattle.flow_model.specs.CellsAfter.{cell_key, cells_after}
use Rattle.flow_model.specs.Answers.{cell_at, cells_for}
use Rattle.flow_model.specs.Events.{CallIsNext}
use Rattle.flow_model.specs.Legal.{IsLegal}
use Rattle.flux_laws.specs.Calls.{FitsSig, FitsFound, FitsBody, FitsNode, cells_of_body, cells_of_node, cells_read}
use Rattle.flux_laws.proofs.FittingCalls.{next_calls_fit}
use Rattle.flux_laws.proofs.Members.{in-from_contains}
use Rattle.flow_state.specs.declared.inputs.Inputs.{Inputs}
use Rattle.flow_state.specs.Calls.{node_name, body_name, library_name, IsReadyBy, IsReady, IsNextCall}
use Rattle.flow_state.specs.steps.Reads.{IsKnown}

-- ---- nodes

-- a call that fits is of a known node
pub record HasFit (meaning : LibraryMeaning) (p : Program) (node : ℕ) (args : List Value) : Type 0 where
  pub known : IsKnown meaning p node
  pub fits : FitsSig known.sig args

pub fits-known : (meaning : LibraryMeaning) (p : Program) (node : ℕ) (args : List Value)
    → FitsNode meaning (slice_get p.nodes node) args → HasFit meaning p node args
fits-known meaning p node args fits = by (slice_get p.nodes node) refl fits
  where
    in_sig : (found : Node) → slice_get p.nodes node ≡ Some found → (name : List ℕ) → found.body ≡ Concrete name
        → (sig : Option Sig) → meaning.node name ≡ sig → FitsFound sig args → HasFit meaning p node args
    in_sig found at name is None there fits = absurd fits
    in_sig found at name is (Some sig) there fits = record {
      known =
          record { found = found; is_found = at; name = name; is_name = is; sig = sig; is_sig = there };
      fits = fits;
    }

    in_body : (found : Node) → slice_get p.nodes node ≡ Some found → (body : Body) → found.body ≡ body
        → FitsBody meaning body args → HasFit meaning p node args
    in_body found at (Concrete name) is fits = in_sig found at name is (meaning.node name) refl fits
    in_body found at (Abstract cases) is fits = absurd fits

    by : (o : Option Node) → slice_get p.nodes node ≡ o → FitsNode meaning o args → HasFit meaning p node args
    by None at fits = absurd fits
    by (Some found) at fits = in_body found at found.body refl fits

-- the cells that a known node reads
pub cells_read-known : (setup : Setup) (flow node : ℕ) (entries : List Entry)
    (known : IsKnown setup.meaning setup.program node)
    → cells_read setup flow node entries ≡ cells_for setup flow node (cells_after setup entries) (Some known.sig)
cells_read-known setup flow node entries known =
    let found = known.found in
    ap (cells_of_node setup flow node entries) known.is_found
    ∙ ap (cells_of_body setup flow node entries) known.is_name
    ∙ ap (cells_for setup flow node (cells_after setup entries)) known.is_sig

-- a known node of a sound program that declares no constraint uses no cell
guarded-sig : (p : Program) (node : ℕ) (uses : List CellUse) → AllByRecursion (IsProtected p node) uses
    → declared p node ≡ [] → uses ≡ []
guarded-sig p node [] all none = refl
guarded-sig p node (use_ ∷ uses) (own, all) none = absurd (in-from_contains [] own.hold
    (subst (λ (holds : List Hold). Contains holds own.hold) none own.declares))

pub known-guarded : (meaning : LibraryMeaning) (p : Program) (kinds : ℕ → NodeKinds) → IsSound meaning p kinds
    → (node : ℕ) (known : IsKnown meaning p node) → declared p node ≡ []
    → (let sig = known.sig in sig.cells ≡ [])
known-guarded meaning p kinds sound node known none =
    let sig = known.sig in
    let protected : AreCellsProtected meaning p node (Concrete known.name) =
    subst (λ (b : Body). AreCellsProtected meaning p node b) known.is_name
    (sound.protected node known.found known.is_found) in
    guarded-sig p node sig.cells (subst (λ (o : Option Sig). IfSome o
    (λ s. AllByRecursion (IsProtected p node) s.cells)) known.is_sig protected) none

pub known-some : (meaning : LibraryMeaning) (p : Program) (node : ℕ) → IsKnown meaning p node
    → IsSome (slice_get p.nodes node)
known-some meaning p node known = ap is_some known.is_found

pub library_name-known : (meaning : LibraryMeaning) (p : Program) (node : NodeNo) (known : IsKnown meaning p node.0)
    → library_name p node ≡ Some known.name
library_name-known meaning p node known = ap node_name known.is_found ∙ ap body_name known.is_name

-- ---- calls that come next

module _ (setup : Setup) (kinds : ℕ → NodeKinds) (lawful : IsLawful setup.meaning)
    (sound : IsSound setup.meaning setup.program kinds)
    (fit : AllByRecursion (IsItemFor setup.program kinds) setup.items) (entries : List Entry)
    (legal : IsLegal setup entries) (flow : ℕ) where
  pub fit-of : (node : NodeNo) (args : List Value) → CallIsNext setup entries flow node args
      → HasFit setup.meaning setup.program node.0 args
  fit-of node args call = fits-known setup.meaning setup.program node.0 args
      (next_calls_fit setup kinds entries sound lawful fit legal flow node args call)

  -- the library may be called on what comes next
  pub ready-of : (inputs : Inputs) → IsNextCall setup entries flow inputs → IsReady setup.meaning setup.program inputs
  ready-of inputs call =
      let fits_ = fit-of inputs.node inputs.args call.next in
      let known = fits_.known in
      let sig = known.sig in
      let fits = fits_.fits in
      let have = fits.kinds in
      let read : inputs.cells ≡ cells_for setup flow inputs.node.0 (cells_after setup entries) (Some sig) =
      call.cells_ ∙ cells_read-known setup flow inputs.node.0 entries known in
      let count : length inputs.cells ≡ length sig.cells = ap (λ (cs : List CellMap). length cs) read
      ∙ length-map sig.cells (λ (cell : CellUse). cell_at (cells_after setup entries)
      (cell_key setup flow inputs.node.0 cell.name)) in
      let callable : IsCallable (Some sig) inputs.args inputs.cells =
      record { role = fits.role; kinds = have.have; cells_ = count } in
      subst (λ (name : Option (List ℕ)). IsReadyBy setup.meaning name inputs)
      (sym (library_name-known setup.meaning setup.program inputs.node known))
      (subst (λ (s : Option Sig). IsCallable s inputs.args inputs.cells) (sym known.is_sig) callable)
