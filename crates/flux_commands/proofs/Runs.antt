-- From items to what is printed of their run.
use Rattle.std.proofs.Common.{◌≡◌, ◌≤◌, ◌⊎◌, inl, inr, ℕ, zero, suc, List, [], ◌∷◌, map, length, Some, Result, Ok, Err, IfOk, IfErr, ◌∙◌, refl, ap, sym, subst, arith}
use Rattle.std.specs.List.{slice_get, slice_index, sum_by}
use Rattle.std.proofs.lemmas.List.Sums.{sum_by-cons}
use Rattle.std.specs.Result.{IsErrAnd}
use Rattle.flux_values.specs.Meanings.{LibraryMeaning}
use Rattle.flux_model.specs.declared.programs.Program.{Program}
use Rattle.flow_model.specs.declared.journals.Entry.{Entry}
use Rattle.flow_model.specs.CellsAfter.{cells_after}
use Rattle.flow_model.specs.Keys.{Cells}
use Rattle.flow_model.specs.Setup.{Setup}
use Rattle.flow_state.specs.States.{setup_by}
use Rattle.flow_core.specs.States.{CoreState, setup_in}
use Rattle.flux_model.specs.declared.items.Item.{Item}
use Rattle.flow_model.specs.declared.journals.Journal.{Journal}
use Rattle.flux_model.specs.Kinds.{NodeKinds}
use Rattle.flux_model.specs.Locks.{Holds}
use Rattle.flux_model.specs.Soundness.{IsSound}
use Rattle.flux_items.specs.declared.rules.ItemRules.{ItemRules}
use Rattle.flux_items.specs.declared.rules.ItemFault.{ItemFault}
use Rattle.flux_items.specs.declared.rules.ItemFault.TheVariants as items_
use Rattle.flux_items.specs.Items.{AreItemsOf}
use Rattle.flux_items.specs.Faults.{IsFaultOf}
use Rattle.flux_laws.specs.Growth.{line_size, item_size}
use Rattle.flux_laws.specs.Hoisted.{locks_of}
use Rattle.flux_model.specs.declared.programs.SourceLine.{SourceLine}
use Rattle.flux_model.specs.Sizes.{source_size}
use Rattle.flux_cli.specs.declared.values.Runtime.{Runtime}
use Rattle.flux_commands.specs.BuiltIn.{BuiltInLibrary, meaning_in}
use Rattle.flux_commands.specs.declared.running.Wanted.{Wanted}
use Rattle.flux_runs.specs.Setups.{setup_of}
use Rattle.flux_runs.specs.Opening.{CanRun, AreSmall}
use Rattle.flux_runs.specs.Printed.{printed_by}
use Rattle.flux_commands.specs.Items.{rules_of}
use Rattle.flux_commands.specs.Driving.{IsDriven, DrivesTo}
use Rattle.flux_commands.specs.steps.Running.{IsRun, AreRefused}
use Rattle.flux_commands.specs.declared.refusals.Refusal.{Refusal}
use Rattle.flux_commands.specs.Refusals.{of_items}
use Rattle.flux_commands.proofs.Passed.{passed}
use Rattle.flux_commands.proofs.Fitting.{items_fit}

-- ---- runs

-- what was driven from nothing is a true run, and this is printed of it
pub run_of : {E : Type 0} (meaning : LibraryMeaning) (p q : Program) (items : List Item) (wanted : Wanted) (flows : ℕ) (own : Setup) (journal : Journal) (cells : Cells) (result : Result (List ℕ) E) → q ≡ p → flows ≡ length items
    → own ≡ setup_of p (locks_of p) items meaning → IsDriven own wanted.runtime journal.entries → cells ≡ cells_after own journal.entries
    → IfOk result (λ text. text ≡ printed_by wanted.printing q flows journal cells) → IfOk result (IsRun meaning p items wanted)
run_of meaning p q items wanted flows own journal cells (Ok text) same many setup driven closing is =
    let there = subst (λ (s : Setup). IsDriven s wanted.runtime journal.entries) setup driven in
    let after : cells ≡ cells_after (setup_of p (locks_of p) items meaning) journal.entries = closing ∙ ap (λ (s : Setup). cells_after s journal.entries) setup in
    record {
      journal = journal;
      true_run = record { locks = locks_of p; legal = there.legal; whole = there.whole; order = there.order };
      is = is ∙ (λ i. printed_by wanted.printing (same i) (many i) journal (after i));
    }
run_of meaning p q items wanted flows own journal cells (Err e) same many setup driven closing is = tt

pub can_run : (meaning : LibraryMeaning) (p : Program) (kinds : ℕ → NodeKinds) (locks : Holds) (items : List Item) (text : List ℕ) → IsSound meaning p kinds → AreItemsOf (rules_of p kinds locks) items text → CanRun meaning p items
can_run meaning p kinds locks items text sound are = record {
  kinds = kinds;
  sound = sound;
  fit = items_fit p kinds locks items text are;
  few = let within = are.within in within.few;
}

-- ---- the items are small enough to be simulated

-- a source's size, where the sizes are those of a program's sources
line_size_of : (setup : Setup) (f : SourceLine → ℕ) → ((line : SourceLine) → f line ≡ source_size setup.locks setup.program line)
    → (lines : List SourceLine) (place : ℕ) → slice_index (map f lines) place ≡ line_size setup (slice_get lines place)
line_size_of setup f same [] place = refl
line_size_of setup f same (line ∷ lines) zero = same line
line_size_of setup f same (line ∷ lines) (suc place) = line_size_of setup f same lines place

sum_same : (f g : Item → ℕ) (items : List Item) → ((item : Item) → f item ≡ g item) → sum_by f items ≡ sum_by g items
sum_same f g [] same = refl
sum_same f g (item ∷ items) same =
    let here = sum_by-cons f item items in
    let there = sum_by-cons g item items in
    let own = same item in
    let more = sum_same f g items same in
    omega (arith, here, there, own, more)

pub are_small : (meaning : LibraryMeaning) (p : Program) (kinds : ℕ → NodeKinds) (locks : Holds) (items : List Item) (text : List ℕ) → locks ≡ locks_of p
    → AreItemsOf (rules_of p kinds locks) items text → AreSmall meaning p items
are_small meaning p kinds locks items text same are =
    let within = are.within in
    let setup = setup_of p (locks_of p) items meaning in
    let small : sum_by (λ (item : Item). slice_index (map (source_size locks p) p.sources) item.source.0) items ≤ 4194304 = within.small in
    let each = sum_same (λ (item : Item). slice_index (map (source_size locks p) p.sources) item.source.0) (λ (item : Item). item_size setup (Some item)) items
    (λ item. line_size_of setup (source_size locks p) (λ line. ap (λ (l : Holds). source_size l p line) same) p.sources item.source.0) in
    record { total = omega (arith, each, small) }

-- ---- items that were refused

of_items_refused : (rules : ItemRules) (text : List ℕ) (fault : ItemFault) → (fault ≡ items_.Memory) ⊎ IsFaultOf rules fault text → AreRefused rules text (of_items fault)
of_items_refused rules text (items_.BadItem line) (inl e) = absurd cc
of_items_refused rules text (items_.UnknownSource line) (inl e) = absurd cc
of_items_refused rules text (items_.ItemTypes line) (inl e) = absurd cc
of_items_refused rules text (items_.TooMany line) (inl e) = absurd cc
of_items_refused rules text items_.Memory cause = tt
of_items_refused rules text (items_.BadItem line) (inr is) = is
of_items_refused rules text (items_.UnknownSource line) (inr is) = is
of_items_refused rules text (items_.ItemTypes line) (inr is) = is
of_items_refused rules text (items_.TooMany line) (inr is) = is

pub cause_refused : {X : Type 0} (rules : ItemRules) (text : List ℕ) (fault : ItemFault) (result : Result X Refusal) → IsErrAnd result (λ e. e ≡ of_items fault) → (fault ≡ items_.Memory) ⊎ IsFaultOf rules fault text
    → IfErr result (AreRefused rules text)
cause_refused rules text fault result is cause = passed (AreRefused rules text) (of_items fault) result is (of_items_refused rules text fault cause)

-- the cells at the end of a core that was driven
pub cells_driven : (runtime : Runtime) (old new : CoreState BuiltInLibrary) (journal : Journal) (cells : Cells) → DrivesTo meaning_in runtime old new → journal.entries ≡ new.entries
    → cells ≡ cells_after (setup_in meaning_in new) new.entries → cells ≡ cells_after (setup_in meaning_in old) journal.entries
cells_driven runtime old new journal cells to is closing =
    subst (λ (s : Setup). cells ≡ cells_after s journal.entries) (ap (setup_by meaning_in) to.setup_)
    (subst (λ (es : List Entry). cells ≡ cells_after (setup_in meaning_in new) es) (sym is) closing)
