use Rattle.std.proofs.Common.{◌≤◌, ◌∙◌, ℤ, FitsSigned, length, ap, sym, subst, arith}
use Rattle.std.specs.Int.{w64}
use Rattle.std.specs.FinMap.{get}
use Rattle.std.proofs.lemmas.Int.{to_z-of_z}
use Rattle.bencoding.specs.Trees.{Tree, spelling}
use Rattle.nodes_tracker.specs.Calls.{swarm_name, completions_name}
use Rattle.nodes_tracker.specs.Replies.{scrape_reply}
use Rattle.nodes_tracker.specs.laws.Sizes.{scrape_short}
use Rattle.nodes_tracker.specs.laws.Members.{held_fits, kept_in}
use Rattle.nodes_tracker.proofs.calls.scrape.Goals as goal

pub scrape_reply-requires : goal.scrape_reply-requires
scrape_reply-requires c =
    let few = (kept_in (get c.args.cell.now (swarm_name c.args.hash.now))).few in
    omega (arith, few, ap length (c.deref.ensures.value ∙ c.in_ok-swarm.ensures))

pub printed-requires : goal.printed-requires
printed-requires c =
    let few = (kept_in (get c.args.cell.now (swarm_name c.args.hash.now))).few in
    let short : length c.deref.result.now ≤ 1001 =
    omega (arith, few, ap length (c.deref.ensures.value ∙ c.in_ok-swarm.ensures)) in
    let fits = subst (FitsSigned w64) (sym c.in_ok-completions.ensures)
    (held_fits (get c.args.cell.now (completions_name c.args.hash.now))) in
    let le = scrape_short c.args.hash.now c.deref.result.now c.in_ok-completions.completions c.if-hash-ne20.false short
    fits in
    let same = to_z-of_z w64 c.in_ok-completions.completions fits in
    let le_ = subst (λ (z : ℤ). length (spelling (scrape_reply c.args.hash.now c.deref.result.now z)) ≤ 233) (sym same)
    le in
    subst (λ (t : Tree). length (spelling t) ≤ 65536) (sym c.in_ok-reply.ensures) (omega (arith, le_))
