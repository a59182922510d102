use Rattle.std.proofs.Common.{◌≡◌, ℕ, List, ◌++◌, codes, append_assoc}
use Rattle.std.specs.Fmt.{decimal}
use Rattle.flux_journal.proofs.Adding.{added_then}
use Rattle.flux_journal.proofs.printing.append_head.Goals as goal

-- pieces grouped as the head line has them
laid : (a b c d n : List ℕ) → (a ++ b) ++ ((c ++ d) ++ n) ≡ (((a ++ b) ++ c) ++ d) ++ n
laid a b c d n = simp append_assoc

pub returns : goal.returns
returns c =
    added_then c.append_counted_line.result c.args.out.now c.append_counted.new.out c.append_counted_line.new.out _ _ _
    c.in_ok-append_counted.ensures
    (laid (codes "flux journal 2 flows ") (decimal c.args.flows) (codes " events ") (decimal c.args.events) (codes "\n"))
    c.append_counted_line.ensures
