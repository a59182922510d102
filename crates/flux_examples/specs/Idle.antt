-- When all live flows without a begun call are blocked: small cores.
use Rattle.std.specs.Prelude.{false, List, [], ◌∷◌, Option, Some, None}
use Rattle.flux_values.specs.declared.answers.Mode.TheVariants.{Writer}
use Rattle.flux_values.specs.Meanings.{LibraryMeaning}
use Rattle.flow_model.specs.declared.journals.Event.TheVariants.{Take, Enter}
use Rattle.flow_state.specs.declared.inputs.Inputs.{Inputs}
use Rattle.flow_core.specs.States.{CoreState}
use Rattle.flow_waits.specs.Idle.{AllAreBlocked}
use Rattle.flux_examples.specs.Small.{int, no, both_write, a, by}

-- two flows whose nodes both write `a`: the first one has taken it and entered its node, and the flows have begun these calls
abbrev pub holding : List (Option Inputs) → CoreState LibraryMeaning
holding begun = let both = both_write in record {
  setup = record {
    program = both.program;
    plans = [];
    items = both.items;
    opening = [];
    library = both.meaning;
  };
  entries = by 0 (Take a Writer) ∷ by 0 (Enter (no 0)) ∷ [];
  begun = begun;
  halted = false;
}

-- while the first one's call is run elsewhere, all others are blocked: the second one waits for the key
abbrev pub OthersAreBlocked : Type 0
OthersAreBlocked = AllAreBlocked (λ library. library)
    (holding (Some (record { node = no 0; args = int 1 ∷ []; cells = [] }) ∷ None ∷ []))

-- before it has begun its call, it can go on itself
abbrev pub HolderCanGoOn : Type 0
HolderCanGoOn = AllAreBlocked (λ library. library) (holding (None ∷ None ∷ [])) → ⊥
