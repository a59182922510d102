use Rattle.std.proofs.Common.{is_some, ◌∙◌}
use Rattle.flux_library.specs.Sessions.{first_as_u64}
use Rattle.nodes_counter.specs.Counters as counters
use Rattle.nodes_web.specs.Webs as webs
use Rattle.nodes_cache.specs.Cachings as cachings
use Rattle.nodes_all.specs.Alls.{all_meaning}
use Rattle.nodes_joined.specs.Joined.{joined}
use Rattle.nodes_all.proofs.Same.{same_ways}
use Rattle.nodes_all.proofs.all.AllLibrary.id.Goals as goal

pub returns : goal.returns
unfolding all_meaning joined
returns c =
    let name = c.args._name.now in
    c.first_as_u64.ensures
    ∙ same_ways (is_some (counters.session_kinds name)) (is_some (webs.session_kinds name))
    (is_some (cachings.session_kinds name)) first_as_u64 c.args.args.now
