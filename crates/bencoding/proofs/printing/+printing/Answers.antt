use Rattle.std.proofs.Common.{◌≡◌, ◌+◌, ◌∷◌, ◌++◌, drop, sym, ap, ◌∙◌, arith}
use Rattle.std.proofs.lemmas.List.{drop_more, append_assoc}
use Rattle.bencoding.specs.Trees.{spelled_string, spelling, spelled_items, spelled_fields}
use Rattle.bencoding.specs.Views.{tree_of}
use Rattle.bencoding.specs.steps.Printed.{items_view, fields_view}
use Rattle.bencoding.proofs.printing.+printing.Goals as goal

pub append_items-loop-item-preserved : goal.append_items-loop-item-preserved
append_items-loop-item-preserved t c =
    let l = c.loop-item in
    let xs = c.deref-item-items.result.now in
    let x = c.item-item.result in
    let here : drop l.item-index xs ≡ x ∷ drop (l.item-index + 1) xs = drop_more xs l.item-index x (omega arith)
    ∙ ap (λ y. y ∷ drop (l.item-index + 1) xs) (sym c.item-item.is) in
    let left = ap (λ ys. spelled_items (items_view ys)) here in
    let later = spelled_items (items_view (drop (l.item-index + 1) xs)) in
    ap (λ s. s ++ later) c.in_ok-append_ben.ensures ∙ append_assoc l.out (spelling (tree_of x)) later
    ∙ ap (λ s. l.out ++ s) (sym left) ∙ l.invariant

pub append_fields-loop-field-preserved : goal.append_fields-loop-field-preserved
append_fields-loop-field-preserved t c =
    let l = c.loop-field in
    let xs = c.deref-field-items.result.now in
    let x = c.field-item.result in
    let here : drop l.field-index xs ≡ x ∷ drop (l.field-index + 1) xs = drop_more xs l.field-index x (omega arith)
    ∙ ap (λ y. y ∷ drop (l.field-index + 1) xs) (sym c.field-item.is) in
    let left = ap (λ ys. spelled_fields (fields_view ys)) here in
    let later = spelled_fields (fields_view (drop (l.field-index + 1) xs)) in
    let key = spelled_string x.key in
    let value = spelling (tree_of x.value) in
    ap (λ s. s ++ later) c.in_ok-append_ben.ensures
    ∙ ap (λ s. (s ++ value) ++ later) (c.in_ok-append_string.ensures
    ∙ ap (λ k. l.out ++ spelled_string k) c.as_bytes.ensures) ∙ append_assoc (l.out ++ key) value later
    ∙ append_assoc l.out key (value ++ later) ∙ ap (λ s. l.out ++ s) (sym left) ∙ l.invariant
