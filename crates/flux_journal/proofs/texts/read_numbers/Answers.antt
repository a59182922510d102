use Rattle.flux_journal.proofs.Keying.{if_none}
use Rattle.flux_journal.proofs.Journaled.{head_no_word, head_no_cut, head_no_events, head_no_flows, head_no_number, head_is}
use Rattle.flux_journal.proofs.texts.read_numbers.Goals as goal

pub returns-in_err-counts-clause-none : goal.returns-in_err-counts-clause-none
returns-in_err-counts-clause-none c = if_none c.from_residual.result (head_no_word c.args.line.now c.in_err-counts.ensures.none)

pub returns-in_err-front-clause-none : goal.returns-in_err-front-clause-none
returns-in_err-front-clause-none c = if_none c.from_residual-in_err-front.result (head_no_cut c.args.line.now c.in_ok-counts.counts.now c.in_ok-counts.ensures.found c.in_err-front.ensures.none)

pub returns-in_err-back-clause-none : goal.returns-in_err-back-clause-none
returns-in_err-back-clause-none c =
    if_none c.from_residual-in_err-back.result (head_no_events c.args.line.now c.in_ok-counts.counts.now c.in_ok-front.front.now c.in_ok-front.rest.now c.in_ok-counts.ensures.found c.in_ok-front.ensures.found c.in_err-back.ensures.none)

pub returns-in_err-flows-clause-none : goal.returns-in_err-flows-clause-none
returns-in_err-flows-clause-none c =
    if_none c.from_residual-in_err-flows.result (head_no_flows c.args.line.now c.in_ok-counts.counts.now c.in_ok-front.front.now c.in_ok-front.rest.now c.from.result c.from.ensures c.in_ok-counts.ensures.found c.in_ok-front.ensures.found c.in_err-flows.ensures.none)

pub returns-in_err-events-clause-none : goal.returns-in_err-events-clause-none
returns-in_err-events-clause-none c =
    if_none c.from_residual-in_err-events.result (head_no_number c.args.line.now c.in_ok-counts.counts.now c.in_ok-front.front.now c.in_ok-front.rest.now c.in_ok-back.back.now c.in_ok-counts.ensures.found c.in_ok-front.ensures.found c.in_ok-back.ensures.found c.in_err-events.ensures.none)

pub returns-clause-found : goal.returns-clause-found
returns-clause-found c =
    head_is c.args.line.now c.in_ok-counts.counts.now c.in_ok-front.front.now c.in_ok-front.rest.now c.in_ok-back.back.now c.from.result c.in_ok-flows.flows c.in_ok-events.events c.from.ensures c.in_ok-counts.ensures.found c.in_ok-front.ensures.found c.in_ok-back.ensures.found c.in_ok-flows.ensures.found c.in_ok-events.ensures.found
