use Rattle.std.proofs.Common.{rules, ◌≡◌, ◌+◌, ◌<◌, length, true, false, take, drop, get_or, ap, sym, ◌∙◌, arith}
use Rattle.std.proofs.lemmas.List.{take_more}
use Rattle.flux_doors.specs.Texts.{ends}
use Rattle.flux_doors.proofs.Fronts.{grown-more, has-more, grown-found, has-found, no-end}
use Rattle.flux_doors.proofs.framing.Framing.find_end.Goals as goal
use Rattle.flux_doors.proofs.framing.Framing.find_end.Goals.{then-bytes-place-eq-LINE_END+else-ends, else-bytes-place-eq-LINE_END}

pub returns-then-ends : goal.returns-then-ends
returns-then-ends c =
    let bytes = c.args.bytes.now in
    let n = c.loop-place.place in
    let test = ends c.args.self in
    let looked = c.loop-place.invariant in
    let passes : test (take (n + 1) bytes) ≡ true = sym c.ends.ensures ∙ c.if-ends.true in
    let has = has-more test bytes n (omega arith) looked.2 ∙ has-found test (take (n + 1) bytes) (drop (n + 1) bytes) passes in
    let least = grown-more test bytes n (omega arith) looked.2 ∙ grown-found test (take (n + 1) bytes) (drop (n + 1) bytes) passes in
    (sym looked.1 ∙ has, omega arith, sym looked.0 ∙ least)

pub loop-place-preserved : goal.loop-place-preserved
loop-place-preserved c =
    let bytes = c.args.bytes.now in
    let n = c.loop-place.place in
    let test = ends c.args.self in
    let looked = c.loop-place.invariant in
    let below : n < length bytes = omega arith in
    let next : test (take (n + 1) bytes) ≡ false =
    elim c.if-bytes-place-eq-LINE_END.branch [
      | then-bytes-place-eq-LINE_END+else-ends w ↦ sym w.ends.ensures ∙ w.if-ends.false
      | else-bytes-place-eq-LINE_END w ↦ ap test (take_more bytes n 0 below) ∙ no-end c.args.self (take n bytes) (get_or bytes n 0) (search rules)
    ] in
    (sym (grown-more test bytes n below looked.2) ∙ looked.0, sym (has-more test bytes n below looked.2) ∙ looked.1, next)
