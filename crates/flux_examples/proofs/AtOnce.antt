-- Why a call is made at once, and why a flow is blocked.
use Rattle.std.proofs.Common.{[], ◌∷◌, refl}
use Rattle.flux_values.specs.declared.answers.Mode.TheVariants.{Writer}
use Rattle.flow_model.specs.declared.journals.Event.TheVariants.{Take}
use Rattle.flow_model.specs.Waits.{WaitsFor}
use Rattle.flux_examples.proofs.Waiting.{may_wait}
use Rattle.flux_examples.specs.Small.{both_write, a, by}
use Rattle.flux_examples.specs.AtOnce.{its_call, CallIsMade, BegunCallIsNotMade, HeldIsBlocked, HeldIsNotFree}

pub call_made : CallIsMade
call_made = (
  its_call,
  record {
    idle = refl;
    may = record { next = record { all = refl; stops = refl }; right = refl };
    new_ = refl;
  },
)

pub begun_not_made : BegunCallIsNotMade
begun_not_made new (made, makes) = let idle = makes.idle in cc

blocked : WaitsFor both_write (by 0 (Take a Writer) ∷ []) 1 may_wait.blocker
blocked = record { key = a; mode = Writer; next = may_wait.next; blocked = may_wait.blocked }

pub held_blocked : HeldIsBlocked
held_blocked = (
  refl,
  record {
    next = may_wait.next;
    blocked = (may_wait.blocker, blocked);
    stands = λ e. absurd cc;
    nowhere = λ e. may_wait.once;
  },
)

pub held_not_free : HeldIsNotFree
held_not_free is = is.1 (may_wait.blocker, blocked)
