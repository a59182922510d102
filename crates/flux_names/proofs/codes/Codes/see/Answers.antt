use Rattle.std.proofs.Common.{◌≡◌, ◌∙◌, ◌&&◌, ◌++◌, ◌∷◌, [], ℕ, Bool, true, false, not, if◌then◌else◌, List, map, Option, Some, refl, ap, sym}
use Rattle.std.specs.Bool.{◌==◌}
use Rattle.std.specs.List.{list_any}
use Rattle.std.specs.Str.{bytes_eq}
use Rattle.std.specs.Borrow.{Bor}
use Rattle.flux_syntax.specs.Least.{soonest}
use Rattle.flux_names.specs.Rows.{code_of, word_if}
use Rattle.flux_names.specs.steps.Codes.{Taken, has_code, is_bad, with_code}
use Rattle.flux_syntax.proofs.BorrowedNames.{any_map, added}
use Rattle.flux_names.proofs.codes.Codes.see.Goals as goal

abbrev Key : Type 0
Key = Bor (List ℕ) × ℕ

abbrev code_at : Key → List ℕ × ℕ
code_at k = (k.0.now, k.1)

not_not : (b : Bool) → not (not b) ≡ b
not_not true = refl
not_not false = refl

pub returns-in_ok-new-in-Some-clause-place : goal.returns-in_ok-new-in-Some-clause-place
returns-in_ok-new-in-Some-clause-place c =
    let taken = c.args.self.now in
    let node = c.args.node.now in
    let number = c.args.number.now in
    let code = c.in-Some.code in
    let bytes = c.as_bytes-in-Some.result.now in
    let keys = c.self.inside.set.keys in
    let has : list_any (λ (k : Key). bytes_eq bytes k.0.now && (code == k.1)) keys ≡ has_code taken node.text code =
    any_map code_at (λ o. bytes_eq bytes o.0 && (code == o.1)) keys
    ∙ ap (λ (t : Taken). has_code t bytes code) c.self.view_is
    ∙ ap (λ (n : List ℕ). has_code taken n code) c.as_bytes-in-Some.ensures.same in
    let spelled : code_of number.text ≡ Some code = ap code_of (sym c.as_bytes.ensures.same) ∙ sym c.in-Some.ensures in
    c.with_word.ensures
    ∙ ap (λ (b : Bool). soonest c.args.place (word_if b number)) (ap not (c.in_ok-new-in-Some.ensures.added ∙ ap not has) ∙ not_not (has_code taken node.text code))
    ∙ ap (λ (o : Option ℕ). soonest c.args.place (word_if (is_bad taken node.text o) number)) (sym spelled)

pub returns-in_ok-new-in-Some-clause-codes : goal.returns-in_ok-new-in-Some-clause-codes
returns-in_ok-new-in-Some-clause-codes c =
    let taken = c.args.self.now in
    let node = c.args.node.now in
    let number = c.args.number.now in
    let code = c.in-Some.code in
    let bytes = c.as_bytes-in-Some.result.now in
    let key : Key = (c.as_bytes-in-Some.result, code) in
    let keys = c.self.inside.set.keys in
    let has : list_any (λ (k : Key). bytes_eq bytes k.0.now && (code == k.1)) keys ≡ has_code taken node.text code =
    any_map code_at (λ o. bytes_eq bytes o.0 && (code == o.1)) keys
    ∙ ap (λ (t : Taken). has_code t bytes code) c.self.view_is
    ∙ ap (λ (n : List ℕ). has_code taken n code) c.as_bytes-in-Some.ensures.same in
    let spelled : code_of number.text ≡ Some code = ap code_of (sym c.as_bytes.ensures.same) ∙ sym c.in-Some.ensures in
    ap (map code_at) c.in_ok-new-in-Some.ensures.keys
    ∙ added code_at (list_any (λ (k : Key). bytes_eq bytes k.0.now && (code == k.1)) keys) (has_code taken node.text code) keys key has
    ∙ ap (λ (t : Taken). if has_code taken node.text code then t else t ++ (bytes, code) ∷ []) c.self.view_is
    ∙ ap (λ (n : List ℕ). if has_code taken node.text code then taken else taken ++ (n, code) ∷ []) c.as_bytes-in-Some.ensures.same
    ∙ ap (with_code taken node.text) (sym spelled)
