-- What a put tells of its pass.
use Rattle.std.proofs.Common.{◌≡◌, ℕ, Option, Some, None, ap, subst}
use Rattle.flow_queue.specs.States.{QueueState, PassState}
use Rattle.flow_queue.specs.Calls.{PutsBack}
use Rattle.flow_queue.specs.declared.views.View.{View}
use Rattle.flow_queue.specs.declared.views.View.TheVariants.{Opening, Working}
use Rattle.flow_queue.specs.Rule.{moves_of, puts_of, takes_of, PutsNumber}

-- a pass as it is seen
abbrev pub seen : QueueState → Option ℕ → View → PassState
seen queue held view = record {
  queue = queue;
  held = held;
  moves = moves_of view;
  puts = puts_of view;
  takes = takes_of view;
}

pub puts-back : (queue : QueueState) (held : Option ℕ) (number : ℕ) (old new : View) → held ≡ Some number
    → old ≡ Working queue.flows held (moves_of old) (puts_of old) (takes_of old) → PutsNumber old number new
    → PutsBack (seen queue held old) (seen queue None new)
puts-back queue held number old new is known puts =
    let told = subst (λ view. PutsNumber view number new) known puts in record {
      number = number;
      held = is;
      place = told.0;
      later = told.1;
      behind = told.2;
      new_ = ap (seen queue None) told.3;
    }
