use Rattle.std.proofs.Common.{◌∙◌, ◌+◌, ◌++◌, [], ℕ, List, Option, None, drop, ap, sym}
use Rattle.std.specs.List.{flat_map}
use Rattle.std.proofs.lemmas.List.{at_drop_more, at_drop_all}
use Rattle.flux_syntax.specs.declared.declarations.Decl.{Decl}
use Rattle.flux_syntax.specs.Least.{soonest}
use Rattle.flux_syntax.proofs.Soonest.{soonest_append}
use Rattle.flux_check.specs.Rows.{constraints_in}
use Rattle.flux_check.specs.steps.Seen.{Flags, and_scopes, crossed_by}
use Rattle.flux_check.proofs.Crossed.{scopes_are, crossed_append}
use Rattle.flux_check.proofs.scopes.both_scopes.Goals as goal

pub loop-decl-preserved : goal.loop-decl-preserved
loop-decl-preserved c =
    let decls = c.args.decls.now in
    let i = c.loop-decl.decl-index in
    let seen = c.loop-decl.seen in
    let place = c.loop-decl.place in
    let d = c.decl-item.result in
    let rest = flat_map constraints_in (drop (i + 1) decls) in
    c.loop-decl.invariant
    ∙ at_drop_more (λ (ds : List Decl). soonest place (crossed_by seen (flat_map constraints_in ds))) decls i d c.loop-decl-test.true
    ∙ ap (λ (x : Decl). soonest place (crossed_by seen (constraints_in x ++ rest))) (sym c.decl-item.is)
    ∙ ap (soonest place) (crossed_append seen (constraints_in d) rest)
    ∙ soonest_append place (crossed_by seen (constraints_in d)) (crossed_by (and_scopes seen (constraints_in d)) rest)
    ∙ ap (λ (p : Option ℕ). soonest p (crossed_by (and_scopes seen (constraints_in d)) rest)) (sym c.in_ok-place.ensures.place)
    ∙ ap (λ (t : Flags). soonest c.in_ok-place.place (crossed_by t rest)) (sym c.in_ok-place.ensures.seen)

pub returns : goal.returns
returns c =
    let decls = c.args.decls.now in
    sym (sym (ap (soonest None) (scopes_are (flat_map constraints_in decls)))
    ∙ c.loop-decl.invariant
    ∙ at_drop_all (λ (ds : List Decl). soonest c.loop-decl.place (crossed_by c.loop-decl.seen (flat_map constraints_in ds))) decls c.loop-decl.decl-index c.loop-decl-test.false)
