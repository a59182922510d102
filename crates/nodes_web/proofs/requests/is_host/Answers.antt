use Rattle.std.proofs.Common.{map, codes}
use Rattle.std.specs.Char.{to_ascii_lowercase}
use Rattle.std.proofs.lemmas.Slice.Eq.{bytes_eq-Decides}
use Rattle.std.proofs.lemmas.Bool.Decides.{same_from_decides}
use Rattle.nodes_web.proofs.requests.is_host.Goals as goal

pub returns : goal.returns
returns c =
    let lower = map to_ascii_lowercase in
    same_from_decides c.eq_ignore_ascii_case.result _ c.eq_ignore_ascii_case.ensures.test (bytes_eq-Decides (lower c.args.name.now) (lower (codes "Host")))
