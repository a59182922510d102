-- The calls of a legal journal are right.
use Rattle.std.proofs.Common.{◌≡◌, ◌<◌, ℕ, List, [], ◌∷◌, ◌++◌, length, Option, Some, None, IsSome, refl, sym, subst, ◌∙◌, append_assoc}
use Rattle.std.specs.List.{AllByRecursion, slice_get}
use Rattle.flux_library.specs.Libraries.{IsLawful}
use Rattle.flux_model.specs.declared.programs.SourceLine.{SourceLine}
use Rattle.flux_model.specs.declared.items.Item.{Item}
use Rattle.flux_model.specs.Kinds.{NodeKinds}
use Rattle.flux_model.specs.Items.{IsItemFor, IsItemOf}
use Rattle.flux_model.specs.Soundness.{IsSound}
use Rattle.flow_model.specs.declared.journals.Entry.{Entry}
use Rattle.flow_model.specs.declared.journals.Event.TheVariants.{Call}
use Rattle.flow_model.specs.Setup.{Setup, item_of}
use Rattle.flow_model.specs.Legal.{IsLegal}
use Rattle.flux_laws.proofs.Members.{all-get, all-behind, get-within}
use Rattle.flux_laws.proofs.Fronts.{fronts_are_legal}
use Rattle.flux_laws.proofs.LastMoves.{entries_are_moves}
use Rattle.flux_laws.proofs.FittingCalls.{next_calls_fit}
use Rattle.flux_swarms.specs.InTheCell.{HasLine, AreCallsFit, LegalCallsAreRight}

module _ (setup : Setup) (kinds : ℕ → NodeKinds)
    (items : AllByRecursion (IsItemFor setup.program kinds) setup.items) where
  -- a flow with an item has a source line
  has_line : (flow : ℕ) (item : Item) → slice_get setup.items flow ≡ Some item
      → HasLine setup.program (item_of setup flow)
  has_line flow item at = subst (HasLine setup.program) (sym at)
      (by (slice_get setup.program.sources item.source.0)
      (all-get (IsItemFor setup.program kinds) setup.items flow item items at))
    where
      by : (line : Option SourceLine) → IsItemOf kinds line item.values → IsSome line
      by None is = absurd is
      by (Some line) is = refl

  calls_fit : (entries : List Entry) → IsSound setup.meaning setup.program kinds → IsLawful setup.meaning
      → IsLegal setup entries → AreCallsFit setup entries
  calls_fit entries sound lawful legal before after flow made stands =
      let entry : Entry = record { flow = flow; event = Call made } in
      let whole : IsLegal setup ((before ++ entry ∷ []) ++ after) =
      subst (IsLegal setup) (stands ∙ sym (append_assoc before (entry ∷ []) after)) legal in
      let front = fronts_are_legal setup (before ++ entry ∷ []) after whole in
      let move = entries_are_moves setup before flow (Call made) front in
      let own = all-behind (λ (e : Entry). e.flow.0 < length setup.items) before (entry ∷ after)
      (subst (AllByRecursion (λ (e : Entry). e.flow.0 < length setup.items)) stands legal.flows) in
      let (item, at) = get-within setup.items flow.0 own.0 in (
        has_line flow.0 item at,
        next_calls_fit setup kinds before sound lawful items
            (fronts_are_legal setup before (entry ∷ []) front) flow.0 made.node made.args move.next,
      )

pub legal_calls_are_right : LegalCallsAreRight
legal_calls_are_right setup kinds entries sound lawful items empty legal = record {
  empty = empty;
  fit = calls_fit setup kinds items entries sound lawful legal;
  answers = legal.answers;
}
