use Rattle.std.proofs.Common.{List, [], sym, subst, ◌∙◌}
use Rattle.flux_batches.specs.declared.reading.ReadLink.{ReadLink}
use Rattle.flux_batches.specs.Links.{WereRead}
use Rattle.flux_batches.proofs.ReadLemmas.{request-all}
use Rattle.flux_batches.proofs.reading.read_links.Goals as goal

pub returns-clause-request : goal.returns-clause-request
returns-clause-request g c =
    let see = g.K.Link.seen in
    let P : List (ReadLink g.row.K.Denot) → Type 0 = λ them. WereRead see c.args.framing c.args.links.items them [] in
    let there = c.make_contiguous.ensures in
    let long = c.read_each.auto.request in
    subst P (sym (there.writes_back c.read_each.new.request (long ∙ there.len)))
    (request-all see c.args.framing c.args.links.items c.make_contiguous.result.now c.read_each.new.request
    (there.value ∙ c.in_ok-request.ensures.request) long c.read_each.ensures)
