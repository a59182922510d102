use Rattle.std.proofs.Common.{◌≡◌, drop}
use Rattle.flux_syntax.specs.Least.{soonest}
use Rattle.flux_names.specs.steps.Codes.{codes_on, and_codes, bad_codes_by}
use Rattle.flux_names.proofs.codes.Codes.see_all.Given as goal

abbrev pub invariant-loop-number : goal.invariant-loop-number
invariant-loop-number l =
    (soonest l.fn.place (bad_codes_by l.fn.self (codes_on l.node l.fn.numbers)) ≡ soonest l.place (bad_codes_by l.self (codes_on l.node (drop l.number-index l.numbers))))
    × (and_codes l.fn.self (codes_on l.node l.fn.numbers) ≡ and_codes l.self (codes_on l.node (drop l.number-index l.numbers)))
