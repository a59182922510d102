use Rattle.std.proofs.Common.{◌∙◌, sym}
use Rattle.std.proofs.lemmas.Bool.Decides.{Decides-eqb}
use Rattle.std.proofs.lemmas.Slice.Eq.{slice_eq-Decides}
use Rattle.flux_cli.proofs.Forms.{serve_spelled, serve_found}
use Rattle.flux_cli.proofs.needs.spells_serve.Goals as goal

pub returns-in-len1-up : goal.returns-in-len1-up
returns-in-len1-up c =
    let named = (slice_eq-Decides Decides-eqb c.as_bytes.result.now c.as_slice.result.now c.eq.result c.eq.ensures).0 c.if-eq.true ∙ c.as_slice.ensures in (
      λ yes. serve_spelled c.args.words.now c.first-item.result c.as_bytes.result.now c.in-len1-up.len_at_least c.first-item.is (sym c.as_bytes.ensures) named (c.is_serve.ensures.0 yes),
      λ found. c.is_serve.ensures.1 (serve_found c.args.words.now found),
    )
