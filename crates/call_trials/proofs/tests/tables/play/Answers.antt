use Rattle.std.proofs.Common.{subst, sym}
use Rattle.std.proofs.lemmas.Result.{on_ok_weaker}
use Rattle.std.specs.List.{Contains}
use Rattle.call_trials.specs.Stood.{HaveStood}
use Rattle.call_trials.proofs.tests.tables.play.Goals as goal

pub must_take-requires : goal.must_take-requires
must_take-requires g c = subst (HaveStood c.args.table.now) (sym c.deref.ensures.value) c.requires

pub must_take-requires-in-Busy : goal.must_take-requires-in-Busy
must_take-requires-in-Busy g c = subst (HaveStood c.args.table.now) (sym c.deref-in-Busy.ensures.value) c.requires

pub returns-in-Got : goal.returns-in-Got
returns-in-Got g c = on_ok_weaker c.must_take.result (subst (HaveStood c.must_take.new.table) c.deref.ensures.value)
    c.must_take.ensures

pub returns-in-Busy : goal.returns-in-Busy
returns-in-Busy g c =
    on_ok_weaker c.must_take-in-Busy.result (subst (HaveStood c.must_take-in-Busy.new.table)
    c.deref-in-Busy.ensures.value) c.must_take-in-Busy.ensures

pub returns-in-Release : goal.returns-in-Release
returns-in-Release g c = λ key waiter is. c.requires key waiter
    (subst (λ lines. Contains (lines key) waiter) c.must_release.ensures is)
