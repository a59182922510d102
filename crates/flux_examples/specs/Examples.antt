-- All examples: those that fit a definition, and those that it refuses.
use Rattle.flux_examples.specs.Walks.{HandlerFollowsDrops, FirstCaseIsTaken, HandlersGoByCode, StopsBeforeCall, FailuresPassOutward}
use Rattle.flux_examples.specs.Held.{ReadersShare, CellsFollowPuts, KeysGoBySession, TakesAreKeptApart, SectionsAreKeptApart, OverlapsAreKeptApart, TakesMayFollow, SectionsMayFollow}
use Rattle.flux_examples.specs.Waiting.{MayWaitWhereHeld, WaitsForItsOwnTake, WaitsOnlyWhereBlocked, WaitsOnce, IsNotPassedBy, CyclesAreFound}
use Rattle.flux_examples.specs.Orders.{OneFlowGoesRound, RoundBeginsWithTheFirst, TurnsLast, ListedComeFirst, LowestComesFirst}
use Rattle.flux_examples.specs.Idle.{OthersAreBlocked, HolderCanGoOn}
use Rattle.flux_examples.specs.Legality.{FailedIsWhole, OthersAnswersAreRefused, BegunIsNotWhole}
use Rattle.flux_examples.specs.Shared.{AnswersAreCarried, NoValueIsMade, NoValueIsLost}
use Rattle.flux_examples.specs.AtOnce.{CallIsMade, BegunCallWaits, BegunCallIsNotMade, HeldIsBlocked, HeldIsNotFree}
use Rattle.flux_examples.specs.KeptKeys.{KeysAreKept, NoNumberIsLost, NoNumberIsMade}
use Rattle.flux_examples.specs.Paging.{PagesAreJoined, NoPageIsLost, NoPageIsTwice, NoPageIsMoved}

pub record Examples : Type 0 where
  pub handler_follows_drops : HandlerFollowsDrops
  pub first_case_is_taken : FirstCaseIsTaken
  pub handlers_go_by_code : HandlersGoByCode
  pub stops_before_call : StopsBeforeCall
  pub failures_pass_outward : FailuresPassOutward
  pub readers_share : ReadersShare
  pub cells_follow_puts : CellsFollowPuts
  pub keys_go_by_session : KeysGoBySession
  pub takes_may_follow : TakesMayFollow
  pub sections_may_follow : SectionsMayFollow
  pub may_wait : MayWaitWhereHeld
  pub failed_is_whole : FailedIsWhole
  pub goes_round : OneFlowGoesRound
  pub others_blocked : OthersAreBlocked
  pub carried : AnswersAreCarried
  pub made_at_once : CallIsMade
  pub begun_waits : BegunCallWaits
  pub held_is_blocked : HeldIsBlocked
  pub keys_kept : KeysAreKept
  pub joined : PagesAreJoined

pub record Refused : Type 0 where
  pub takes : TakesAreKeptApart
  pub sections : SectionsAreKeptApart
  pub overlaps : OverlapsAreKeptApart
  pub own_take : WaitsForItsOwnTake
  pub blocked : WaitsOnlyWhereBlocked
  pub once : WaitsOnce
  pub kept : IsNotPassedBy
  pub cycles : CyclesAreFound
  pub answers : OthersAnswersAreRefused
  pub begun : BegunIsNotWhole
  pub round : RoundBeginsWithTheFirst
  pub turns : TurnsLast
  pub listed : ListedComeFirst
  pub lowest : LowestComesFirst
  pub holder : HolderCanGoOn
  pub made : NoValueIsMade
  pub lost : NoValueIsLost
  pub made_twice : BegunCallIsNotMade
  pub free : HeldIsNotFree
  pub number_lost : NoNumberIsLost
  pub number_made : NoNumberIsMade
  pub left_out : NoPageIsLost
  pub twice : NoPageIsTwice
  pub moved : NoPageIsMoved
