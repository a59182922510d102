use Rattle.std.proofs.Common.{◌-◌, ℕ, List, ◌++◌, ap, sym, ◌∙◌, append_assoc, length, take}
use Rattle.std.specs.List.{flat_map}
use Rattle.flux_values.specs.Texts.{printed_value}
use Rattle.flux_journal.proofs.ValueLists.{before, listed_last}
use Rattle.flux_journal.proofs.Adding.{added_then}
use Rattle.flux_journal.proofs.printing.append_listed.Goals as goal

pub returns-in_ok-append_before-in-len1-up : goal.returns-in_ok-append_before-in-len1-up
returns-in_ok-append_before-in-len1-up c =
    let vs = c.args.values.now in
    let v = c.last-item.result in
    let behind = c.args.behind.now in
    let front = flat_map before (take (length vs - 1) vs) in
    added_then c.append_value_with.result c.args.out.now c.append_before.new.out c.append_value_with.new.out front (printed_value v ++ behind) _
    c.in_ok-append_before-in-len1-up.ensures
    (sym (append_assoc front (printed_value v) behind) ∙ ap (λ (s : List ℕ). s ++ behind) (sym (listed_last vs v c.in-len1-up.len_at_least c.last-item.is)))
    c.append_value_with.ensures
