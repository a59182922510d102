use Rattle.std.proofs.Common.{◌≡◌, refl, sym, ap, ◌∙◌}
use Rattle.flow_model.specs.declared.journals.Event.TheVariants as events
use Rattle.flux_plan.specs.Machine.{values_at}
use Rattle.flow_state.specs.declared.coming.Coming.TheVariants as comings
use Rattle.flow_state.proofs.Asked.{event-is_next, call-is_next, ended-is, take-event, take-is_next, drop-event, comes}
use Rattle.flow_state.proofs.fields.Fields.coming.Goals as goal

pub returns-in-Take : goal.returns-in-Take
returns-in-Take g c =
    comes g.L.Meaning.meaning c.args.self.now c.requires.fields c.args.flow c.requires.flow _ c.in-Take.ensures
    (comings.Take c.key.result c.in-Take.mode)
    (take-is_next g.L.Meaning.meaning c.args.self.now c.requires.fields c.args.flow c.requires.flow _ c.in-Take.ensures
    c.in-Take.class c.in-Take.mode refl c.key.result c.key.ensures)
    (λ event e. sym (take-event g.L.Meaning.meaning c.args.self.now c.requires.fields c.args.flow c.requires.flow _
    c.in-Take.ensures c.in-Take.class c.in-Take.mode refl c.key.result c.key.ensures) ∙ e)
    (λ node e. absurd cc) (λ e. absurd cc)

pub returns-in-Enter : goal.returns-in-Enter
returns-in-Enter g c =
    comes g.L.Meaning.meaning c.args.self.now c.requires.fields c.args.flow c.requires.flow _ c.in-Enter.ensures
    (comings.Enter c.in-Enter.node)
    (event-is_next g.L.Meaning.meaning c.args.self.now c.requires.fields c.args.flow c.requires.flow _
    c.in-Enter.ensures (events.Enter c.in-Enter.node) refl)
    (λ event e. e) (λ node e. absurd cc) (λ e. absurd cc)

pub returns-in-Choose : goal.returns-in-Choose
returns-in-Choose g c =
    comes g.L.Meaning.meaning c.args.self.now c.requires.fields c.args.flow c.requires.flow _ c.in-Choose.ensures
    (comings.Choose c.in-Choose.number)
    (event-is_next g.L.Meaning.meaning c.args.self.now c.requires.fields c.args.flow c.requires.flow _
    c.in-Choose.ensures (events.Choose c.in-Choose.number) refl)
    (λ event e. e) (λ node e. absurd cc) (λ e. absurd cc)

pub returns-in-Call : goal.returns-in-Call
returns-in-Call g c =
    comes g.L.Meaning.meaning c.args.self.now c.requires.fields c.args.flow c.requires.flow _ c.in-Call.ensures
    (comings.Call c.in-Call.node) (
      values_at c.in-Call.ensures.place.local,
      call-is_next g.L.Meaning.meaning c.args.self.now c.requires.fields
          c.args.flow c.requires.flow _ c.in-Call.ensures c.in-Call.node refl,
    )
    (λ event e. absurd cc) (λ node e. let same : c.in-Call.node ≡ node = cc in ap comings.Call same) (λ e. absurd cc)

pub returns-in-Exit : goal.returns-in-Exit
returns-in-Exit g c =
    comes g.L.Meaning.meaning c.args.self.now c.requires.fields c.args.flow c.requires.flow _ c.in-Exit.ensures
    (comings.Exit c.in-Exit.node c.in-Exit.outcome)
    (event-is_next g.L.Meaning.meaning c.args.self.now c.requires.fields c.args.flow c.requires.flow _
    c.in-Exit.ensures (events.Exit c.in-Exit.node c.in-Exit.outcome) refl)
    (λ event e. e) (λ node e. absurd cc) (λ e. absurd cc)

pub returns-in-Drop : goal.returns-in-Drop
returns-in-Drop g c =
    comes g.L.Meaning.meaning c.args.self.now c.requires.fields c.args.flow c.requires.flow _ c.in-Drop.ensures
    (comings.Drop c.key-in-Drop.result)
    (event-is_next g.L.Meaning.meaning c.args.self.now c.requires.fields c.args.flow c.requires.flow _
    c.in-Drop.ensures (events.Drop c.key-in-Drop.result)
    (drop-event g.L.Meaning.meaning c.args.self.now c.requires.fields c.args.flow c.requires.flow _ c.in-Drop.ensures
    c.in-Drop.class refl c.key-in-Drop.result c.key-in-Drop.ensures))
    (λ event e. sym (drop-event g.L.Meaning.meaning c.args.self.now c.requires.fields c.args.flow c.requires.flow _
    c.in-Drop.ensures c.in-Drop.class refl c.key-in-Drop.result c.key-in-Drop.ensures) ∙ e)
    (λ node e. absurd cc) (λ e. absurd cc)

pub returns-in-End : goal.returns-in-End
returns-in-End g c =
    comes g.L.Meaning.meaning c.args.self.now c.requires.fields c.args.flow c.requires.flow _ c.in-End.ensures
    (comings.End c.in-End.outcome)
    (event-is_next g.L.Meaning.meaning c.args.self.now c.requires.fields c.args.flow c.requires.flow _
    c.in-End.ensures (events.End c.in-End.outcome) refl)
    (λ event e. e) (λ node e. absurd cc) (λ e. absurd cc)

pub returns-in-Ended : goal.returns-in-Ended
returns-in-Ended g c =
    comes g.L.Meaning.meaning c.args.self.now c.requires.fields c.args.flow c.requires.flow _ c.in-Ended.ensures
    comings.Ended
    (ended-is g.L.Meaning.meaning c.args.self.now c.requires.fields c.args.flow c.requires.flow _ c.in-Ended.ensures
    refl)
    (λ event e. absurd cc) (λ node e. absurd cc) (λ e. refl)
