use Rattle.std.proofs.Common.{◌≡◌, Some, ◌∙◌}
use Rattle.flux_cli.specs.Asking.{asked}
use Rattle.flux_commands.proofs.services.read_service.Goals as goal

pub unreachable-requires : goal.unreachable-requires
unreachable-requires c = (rw c.in_default.is at c.in_ok-wanted.ensures.none) c.requires.0 c.requires.1

pub returns-clause-only : goal.returns-clause-only
returns-clause-only c = λ other spelled.
    let found : Some (asked c.in-Some.wanted) ≡ Some other = (rw c.in-Some.is at c.in_ok-wanted.ensures.command) other spelled in
    let same : asked c.in-Some.wanted ≡ other = cc in
    c.in-Some-service_of.ensures.some ∙ same
