use Rattle.std.proofs.Common.{◌≡◌, ◌∙◌, [], sym, subst, ap, refl, Some, None}
use Rattle.std.specs.List.{position}
use Rattle.flux_table.specs.Locks.{StandsNowhere}
use Rattle.flux_table.specs.Changes.{line_without}
use Rattle.flux_table.specs.Lines.{IsKept}
use Rattle.flux_table.proofs.Standing.{is_of, left_there, left_nowhere}
use Rattle.flux_table.proofs.Orderly.{without_nowhere}
use Rattle.flux_table.proofs.lines.Line.leave.Goals as goal
use Rattle.flux_table.proofs.lines.Line.leave.Goals.{then-is_empty-via-then-is_empty, then-is_empty-via-else-is_empty+then-not-take_out}

-- where it stood in neither set
nowhere : (c : goal.Then-not-take_out) → StandsNowhere c.self.inside.order c.args.flow.0
nowhere c = (c.if-not-take_out.ensures.stands c.self.inside.order c.self.invariant).0 refl

pub invariant_of-self : goal.invariant_of-self
invariant_of-self c =
    subst (λ l. IsKept l c.take_out.new.readers c.take_out.new.writers) (sym (without_nowhere c.self.inside.order c.args.flow.0 (nowhere c)))
    (c.take_out.ensures.kept c.self.inside.order c.self.invariant)

pub returns-then-is_empty : goal.returns-then-is_empty
returns-then-is_empty c =
    let line = c.self.inside.order in let flow = c.args.flow.0 in
    elim c.then-is_empty.branch [
      | then-is_empty-via-then-is_empty w ↦
          let none : c.args.self.now ≡ [] = sym c.self.view_is ∙ w.if-is_empty.ensures.0 refl in
          rw w.self-is (none ∙ ap (λ l. line_without l flow) (sym none))
      | then-is_empty-via-else-is_empty+then-not-take_out w ↦
          rw w.self-is (without_nowhere line flow ((w.if-not-take_out.ensures.stands line c.self.invariant).0 refl) ∙ ap (λ l. line_without l flow) c.self.view_is)
    ]

removed : (c : goal.After-remove) → c.remove.new.self ≡ line_without c.self.inside.order c.args.flow.0
removed c =
    let place = subst (λ l. Some c.in-Some.place ≡ position (is_of c.args.flow.0) l) c.as_slice.ensures c.in-Some.ensures in
    c.remove.ensures ∙ left_there c.self.inside.order c.args.flow.0 c.in-Some.place place

unmoved : (c : goal.In_default) → c.self.inside.order ≡ line_without c.self.inside.order c.args.flow.0
unmoved c =
    left_nowhere c.self.inside.order c.args.flow.0 (subst (λ l. None ≡ position (is_of c.args.flow.0) l) c.as_slice.ensures c.in_default.ensures)

pub invariant_of-self-in-Some : goal.invariant_of-self-in-Some
invariant_of-self-in-Some c =
    subst (λ l. IsKept l c.take_out.new.readers c.take_out.new.writers) (sym (removed c)) (c.take_out.ensures.kept c.self.inside.order c.self.invariant)

pub invariant_of-self-in_default : goal.invariant_of-self-in_default
invariant_of-self-in_default c =
    subst (λ l. IsKept l c.take_out.new.readers c.take_out.new.writers) (sym (unmoved c)) (c.take_out.ensures.kept c.self.inside.order c.self.invariant)

pub returns-in-Some : goal.returns-in-Some
returns-in-Some c = removed c ∙ ap (λ l. line_without l c.args.flow.0) c.self.view_is

pub returns-in_default : goal.returns-in_default
returns-in_default c = unmoved c ∙ ap (λ l. line_without l c.args.flow.0) c.self.view_is
