use Rattle.std.proofs.Common.{refl, ◌∙◌}
use Rattle.flux_hoist.proofs.plans.plan_along.Goals as goal

pub returns : goal.returns
returns g c =
    c.in_ok-append_sources.ensures
    ∙ (rw (c.in_ok-append_nodes.ensures, c.new-out.ensures, c.as_slice-2.ensures, c.as_slice-3.ensures, c.as_slice-4.ensures, c.in_ok-sizes.ensures, c.as_slice.ensures) refl)
