use Rattle.std.proofs.Common.{◌∙◌, ◌+◌, ◌++◌, ℕ, List, Option, None, drop, ap, sym}
use Rattle.std.specs.List.{flat_map}
use Rattle.std.proofs.lemmas.List.{at_drop_more, at_drop_all}
use Rattle.flux_syntax.specs.declared.declarations.Decl.{Decl}
use Rattle.flux_syntax.specs.Least.{soonest}
use Rattle.flux_syntax.proofs.Soonest.{soonest_append}
use Rattle.flux_names.specs.Rows.{codes_in}
use Rattle.flux_names.specs.steps.Codes.{Taken, and_codes, bad_codes_by}
use Rattle.flux_names.proofs.Taken.{bad_codes_are, bad_append}
use Rattle.flux_names.proofs.codes.bad_code.Goals as goal

pub loop-decl-preserved : goal.loop-decl-preserved
loop-decl-preserved c =
    let decls = c.args.decls.now in
    let i = c.loop-decl.decl-index in
    let codes = c.loop-decl.codes in
    let place = c.loop-decl.place in
    let d = c.decl-item.result in
    let rest = flat_map codes_in (drop (i + 1) decls) in
    c.loop-decl.invariant
    ∙ at_drop_more (λ (ds : List Decl). soonest place (bad_codes_by codes (flat_map codes_in ds))) decls i d c.loop-decl-test.true
    ∙ ap (λ (x : Decl). soonest place (bad_codes_by codes (codes_in x ++ rest))) (sym c.decl-item.is)
    ∙ ap (soonest place) (bad_append codes (codes_in d) rest)
    ∙ soonest_append place (bad_codes_by codes (codes_in d)) (bad_codes_by (and_codes codes (codes_in d)) rest)
    ∙ ap (λ (p : Option ℕ). soonest p (bad_codes_by (and_codes codes (codes_in d)) rest)) (sym c.in_ok-place.ensures.place)
    ∙ ap (λ (t : Taken). soonest c.in_ok-place.place (bad_codes_by t rest)) (sym c.in_ok-place.ensures.codes)

pub returns : goal.returns
returns c =
    let decls = c.args.decls.now in
    sym (sym (ap (soonest None) (bad_codes_are (flat_map codes_in decls)))
    ∙ c.loop-decl.invariant
    ∙ at_drop_all (λ (ds : List Decl). soonest c.loop-decl.place (bad_codes_by c.loop-decl.codes (flat_map codes_in ds))) decls c.loop-decl.decl-index c.loop-decl-test.false)
