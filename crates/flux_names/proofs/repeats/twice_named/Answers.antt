use Rattle.std.proofs.Common.{◌≡◌, ◌∙◌, ◌++◌, [], ℕ, List, Option, None, IfOk, ap, sym, subst}
use Rattle.std.proofs.lemmas.List.{append-nil}
use Rattle.flux_syntax.specs.declared.declarations.Word.{Word}
use Rattle.flux_syntax.specs.Words.{naming, defined, sourced}
use Rattle.flux_syntax.specs.Least.{soonest}
use Rattle.flux_syntax.proofs.Soonest.{soonest_append}
use Rattle.flux_names.specs.Rows.{handled, sessioned, repeated, twice_named}
use Rattle.flux_names.proofs.repeats.twice_named.Goals as goal

pub returns : goal.returns
returns c =
    let names = repeated c.args.decls.now in
    let four : List Word = names sessioned ++ [] in
    let three : List Word = names handled ++ four in
    let two : List Word = names sourced ++ three in
    let one : List Word = names defined ++ two in
    let all : soonest None (twice_named c.args.decls.now) ≡ soonest c.in_ok-place-4.place (names sessioned) =
    soonest_append None (names naming) one
    ∙ ap (λ (p : Option ℕ). soonest p one) (sym c.in_ok-place.ensures)
    ∙ soonest_append c.in_ok-place.place (names defined) two
    ∙ ap (λ (p : Option ℕ). soonest p two) (sym c.in_ok-place-2.ensures)
    ∙ soonest_append c.in_ok-place-2.place (names sourced) three
    ∙ ap (λ (p : Option ℕ). soonest p three) (sym c.in_ok-place-3.ensures)
    ∙ soonest_append c.in_ok-place-3.place (names handled) four
    ∙ ap (λ (p : Option ℕ). soonest p four) (sym c.in_ok-place-4.ensures)
    ∙ ap (soonest c.in_ok-place-4.place) (append-nil (names sessioned)) in
    subst (λ q. IfOk c.with_repeated-5.result (λ p. p ≡ q)) (sym all) c.with_repeated-5.ensures
