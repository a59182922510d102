use Rattle.std.proofs.Common.{◌≡◌, true, false}
use Rattle.std.specs.Prelude.{option_copied}
use Rattle.flux_cli.proofs.serves.is_serve.Goals as goal

pub returns-in-Some : goal.returns-in-Some
returns-in-Some c =
    let service = c.in-Some.ensures in (
      λ yes. let found = c.is_replying.ensures.0 yes in (c.in-Some.service.file.now, record { port = c.in-Some.service.port; batches = c.in-Some.service.batches; docs = option_copied c.in-Some.service.docs; replying = found.0 }, service.to found.0 found.1),
      λ has. let serving = has.1 in c.is_replying.ensures.1 (serving.replying, service.from has.0 has.1 has.2),
    )

pub returns-in-None : goal.returns-in-None
returns-in-None c = (
  λ yes. absurd (let e : false ≡ true = yes in cc),
  λ has. absurd ((rw c.in-None.is at c.read_service.ensures) has.0 has.1 has.2),
)
