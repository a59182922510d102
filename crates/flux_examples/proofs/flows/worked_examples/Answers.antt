use Rattle.std.proofs.Common.{refl}
use Rattle.flux_examples.proofs.Held.{may_follow, sections_follow, keys_differ}
use Rattle.flux_examples.proofs.Waiting.{may_wait}
use Rattle.flux_examples.proofs.Legality.{failed_whole}
use Rattle.flux_examples.proofs.Rounds.{goes_round}
use Rattle.flux_examples.proofs.Idle.{others_blocked}
use Rattle.flux_examples.proofs.AtOnce.{call_made, held_blocked}
use Rattle.std.specs.FinMap.{gets}
use Rattle.flux_examples.proofs.flows.worked_examples.Goals as goal

pub returns : goal.returns
returns c = record {
  handler_follows_drops = refl;
  first_case_is_taken = (refl, refl, refl);
  handlers_go_by_code = (refl, refl);
  stops_before_call = refl;
  readers_share = (refl, refl, refl);
  cells_follow_puts = (simp gets, simp gets);
  failures_pass_outward = refl;
  keys_go_by_session = ((λ same. keys_differ same), refl);
  takes_may_follow = may_follow;
  sections_may_follow = sections_follow;
  may_wait = may_wait;
  failed_is_whole = failed_whole;
  goes_round = goes_round;
  others_blocked = others_blocked;
  carried = (refl, refl);
  made_at_once = call_made;
  begun_waits = (refl, refl);
  held_is_blocked = held_blocked;
  keys_kept = (refl, refl, refl);
  joined = (refl, refl, refl);
}
