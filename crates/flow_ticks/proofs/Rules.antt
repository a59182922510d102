-- What comes by the rule is one.
use Rattle.std.proofs.Common.{◌≡◌, ◌+◌, ℕ, List, [], ◌∷◌, map, refl, sym, ap, subst, ◌∙◌, arith}
use Rattle.std.specs.List.{AllByRecursion}
use Rattle.flow_model.specs.declared.journals.Entry.{Entry}
use Rattle.flow_model.specs.Setup.{Setup}
use Rattle.flow_model.specs.Legal.{IsLegal, IsWhole}
use Rattle.flux_laws.specs.Growth.{IsNoWait}
use Rattle.flow_orders.specs.declared.runs.Run.{Run}
use Rattle.flow_orders.specs.Costs.{cost_of}
use Rattle.flow_orders.specs.Ticks.{Timed, timed, last_tick}
use Rattle.flow_orders.specs.Runs.{CallEnd, end_of, ends_in}
use Rattle.flow_ticks.specs.Laws.{ComesByTheRule, RuleIsOne}
use Rattle.flow_ticks.proofs.Cuts.{bare, bare-timed, ticks-timed, rising-timed}
use Rattle.flow_ticks.proofs.One.{IsSimulated}
use Rattle.flow_ticks.proofs.Once.{one-journal}

simulated : (setup : Setup) (costs : List ℕ) (processors : ℕ) (entries : List Entry) (at : List ℕ) (runs : List Run) (ticks : ℕ) → ComesByTheRule setup costs processors entries at runs ticks → IsSimulated setup costs processors (timed at entries) runs
simulated setup costs processors entries at runs ticks comes =
    let rule = comes.rule in
    let same = sym (bare-timed at entries rule.each) in
    record {
      legal = subst (IsLegal setup) same comes.legal;
      whole = subst (IsWhole setup) same comes.whole;
      rising = rising-timed at entries rule.rising;
      turns = rule.turns;
      calls = rule.runs_;
      few = rule.few;
      settled = rule.settled;
      no_wait = subst (AllByRecursion IsNoWait) same rule.no_wait;
    }

-- runs that end alike are the same
same-runs : (costs : List ℕ) (runs others : List Run) → map end_of runs ≡ map end_of others → AllByRecursion (λ run. run.stop ≡ run.start + cost_of costs run.node) runs
    → AllByRecursion (λ run. run.stop ≡ run.start + cost_of costs run.node) others → runs ≡ others
same-runs costs [] [] same last their = refl
same-runs costs [] (other ∷ others) same last their = absurd cc
same-runs costs (run ∷ runs) [] same last their = absurd cc
same-runs costs (run ∷ runs) (other ∷ others) same last their =
    let head : end_of run ≡ end_of other = cc in
    let rest : map end_of runs ≡ map end_of others = cc in
    let node = ap (λ (e : CallEnd). e.node) head in
    let stop : run.stop ≡ other.stop = ap (λ (e : CallEnd). e.tick) head in
    let cost : cost_of costs run.node ≡ cost_of costs other.node = ap (cost_of costs) node in
    let own = last.0 in
    let theirs = their.0 in
    let start : run.start ≡ other.start = omega (arith, stop, cost, own, theirs) in
    let more = same-runs costs runs others rest last.1 their.1 in
    λ i. record { flow = (let e : CallEnd = head i in e.flow); node = node i; start = start i; stop = stop i } ∷ more i

pub rule_is_one : RuleIsOne
rule_is_one setup costs processors entries others at times runs their ticks last costly comes they =
    let rule = comes.rule in
    let other = they.rule in
    let journal = one-journal setup costs processors costly (timed at entries) (timed times others) runs their
    (simulated setup costs processors entries at runs ticks comes) (simulated setup costs processors others times their last they) in
    let times_same : at ≡ times = sym (ticks-timed at entries rule.each) ∙ ap (λ (j : Timed). map (λ one. one.0) j) journal ∙ ticks-timed times others other.each in
    let calls = rule.runs_ in
    let their_calls = other.runs_ in
    record {
      entries_ = sym (bare-timed at entries rule.each) ∙ ap bare journal ∙ bare-timed times others other.each;
      at_ = times_same;
      runs_ = same-runs costs runs their (calls.calls ∙ ap ends_in journal ∙ sym their_calls.calls) calls.last their_calls.last;
      ticks_ = rule.last ∙ ap last_tick times_same ∙ sym other.last;
    }
