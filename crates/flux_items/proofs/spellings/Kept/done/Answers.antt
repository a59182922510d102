use Rattle.std.proofs.Common.{sym, subst, ◌∙◌}
use Rattle.flux_items.specs.steps.Values.{IsKept}
use Rattle.flux_items.proofs.Valued.{other_kinds, fewer_kinds}
use Rattle.flux_items.proofs.spellings.Kept.done.Goals as goal
use Rattle.flux_items.proofs.spellings.Kept.done.Goals.{else-self-via-then-self+else-len-self, else-self-via-else-self}

pub returns-else-self : goal.returns-else-self
returns-else-self c = λ all text keeps close. elim c.else-self.branch [
  | else-self-via-then-self+else-len-self w ↦
      fewer_kinds c.args.self.kinds.now all c.args.self.values text (λ e. w.if-len-self.false (w.len.ensures ∙ e))
      (subst (IsKept c.args.self.kinds.now all c.args.self.values) w.if-self.true keeps) close
  | else-self-via-else-self w ↦
      other_kinds c.args.self.kinds.now all c.args.self.values text (subst (IsKept c.args.self.kinds.now all c.args.self.values) w.if-self.false keeps) close
]
