use Rattle.std.proofs.Common.{◌≡◌, sym, subst, None}
use Rattle.flux_table.specs.Locks.{held_by, StandsNowhere}
use Rattle.flux_table.proofs.Orderly.{orderly_push}
use Rattle.flux_table.proofs.locks.Lock.wait.Goals as goal

pub push-requires : goal.push-requires
push-requires c = subst (λ s. StandsNowhere s.line c.args.flow.0) (sym c.self.view_is) c.requires.stands

pub invariant_of-self : goal.invariant_of-self
invariant_of-self c =
    orderly_push (held_by c.self.inside.holders.entries) c.self.inside.line c.push.new.self (record { flow = c.args.flow; mode = c.args.mode }) c.push.result c.self.invariant
    (subst (λ s. held_by s.holders c.args.flow.0 ≡ None) (sym c.self.view_is) c.requires.free)
    (subst (λ s. StandsNowhere s.line c.args.flow.0) (sym c.self.view_is) c.requires.stands) c.push.ensures.ok c.push.ensures.err
