use Rattle.std.proofs.Common.{◌≡◌, ◌-◌, ◌≤◌, vec_len}
use Rattle.rt_perflow.proofs.leaves.leaves.Given as goal

abbrev pub invariant-loop-number : goal.invariant-loop-number
invariant-loop-number l =
    (vec_len l.leaves ≡ l.number - l.first) × (l.first ≤ l.number) × (l.number - l.end ≤ l.first - l.end)
