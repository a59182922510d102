-- What the queue's calls do.
use Rattle.std.specs.Prelude.{◌≡◌, ℕ, ◌+◌, ◌<◌, ◌≤◌, [], ◌∷◌, ◌++◌, Option, Some, None}
use Rattle.crossbeam_queue.specs.Fifo.{Held}
use Rattle.flux_model.specs.declared.items.FlowNo.{FlowNo}
use Rattle.flow_queue.specs.States.{QueueState, PassState}
use Rattle.flow_queue.specs.Rule.{IsBehind, HasMoment}
use Rattle.flow_queue.specs.declared.views.View.TheVariants.{Working}

-- a queue with so many numbers, and its first pass
pub record IsFirstPass (flows : ℕ) (queue : QueueState) (pass : PassState) : Type 0 where
  pub flows_ : queue.flows ≡ flows
  pub pass_ : pass ≡ record { queue = queue; held = None; moves = 0; puts = []; takes = [] }

-- the number that the pass held is put, at a place after the first numbers and all that it put before
pub record PutsBack (old new : PassState) : Type 0 where
  pub number : ℕ
  pub held : old.held ≡ Some number
  pub place : ℕ
  pub later : let queue = old.queue in queue.flows ≤ place
  pub behind : IsBehind place old.puts
  pub new_ : new ≡ record old {
    held = None;
    moves = old.moves + 1;
    puts = old.puts ++ record { place = place; number = number } ∷ [];
  }

-- a number is taken, at a place after all that the pass took before, and is held
pub record TakesFront (old : PassState) (flow : FlowNo) (new : PassState) : Type 0 where
  pub below : let queue = old.queue in flow.0 < queue.flows
  pub place : ℕ
  pub behind : IsBehind place old.takes
  pub new_ : new ≡ record old {
    held = Some flow.0;
    moves = old.moves + 1;
    takes = old.takes ++ record { place = place; number = flow.0 } ∷ [];
  }

-- nothing is taken, and the pass is as it was: the rule lets a queue hold nothing while a pass is so
pub record WasEmpty (old new : PassState) : Type 0 where
  pub moment : let queue = old.queue in
      Held 0 (HasMoment (Working queue.flows old.held old.moves old.puts old.takes))
  pub same : new ≡ old

-- two passes of one
pub record AreSplit (old left right : PassState) : Type 0 where
  pub left_ : left ≡ record old { moves = old.moves + 1 }
  pub right_ : right ≡ record { queue = old.queue; held = None; moves = old.moves + 1; puts = []; takes = [] }
