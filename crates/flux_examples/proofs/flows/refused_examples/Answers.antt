use Rattle.std.proofs.Common.{ap}
use Rattle.flow_model.specs.declared.journals.Key.{Key}
use Rattle.flux_examples.proofs.Held.{takes_apart, sections_apart, overlaps_apart}
use Rattle.flux_examples.proofs.Waiting.{own_take, only_blocked, once, not_passed, cycle_found}
use Rattle.flux_examples.proofs.Legality.{answers_refused, begun_not_whole}
use Rattle.flux_examples.proofs.Orders.{first_begins, turns_last, listed_first, lowest_first}
use Rattle.flux_examples.proofs.Idle.{holder_goes_on}
use Rattle.flux_examples.proofs.AtOnce.{begun_not_made, held_not_free}
use Rattle.flux_examples.proofs.flows.refused_examples.Goals as goal

pub returns : goal.returns
returns c = record {
  takes = takes_apart;
  sections = sections_apart;
  overlaps = overlaps_apart;
  own_take = own_take;
  blocked = only_blocked;
  once = once;
  kept = not_passed;
  cycles = cycle_found;
  answers = answers_refused;
  begun = begun_not_whole;
  round = first_begins;
  turns = turns_last;
  listed = listed_first;
  lowest = lowest_first;
  holder = holder_goes_on;
  made = λ value same. cc;
  lost = λ same. cc;
  made_twice = begun_not_made;
  free = held_not_free;
  number_lost = λ same. let none = ap (λ (key : Key). key.id) same in cc;
  number_made = λ same. let none = ap (λ (key : Key). key.id) same in cc;
  left_out = ((λ same. cc), λ same. cc);
  twice = λ same. cc;
  moved = λ same. cc;
}
