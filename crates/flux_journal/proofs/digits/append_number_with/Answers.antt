use Rattle.std.proofs.Common.{List, ℕ, ◌≡◌, ◌++◌, ◌+◌, ◌-◌, length, take, drop, ap, ◌∙◌, subst}
use Rattle.std.specs.Result.{OnOk}
use borrow.Rule.Slice.PartMut.{put_mid}
use Rattle.flux_journal.proofs.Decimals.{piece_is}
use Rattle.flux_journal.proofs.digits.append_number_with.Goals as goal

pub returns : goal.returns
returns c =
    let start = c.write_digits-start.result in
    let laid = c.write_digits-start.new.bytes in
    let behind = c.args.behind.now in
    let k = 20 + length behind - 20 in
    subst (λ (s : List ℕ). OnOk c.append-2.result (c.append-2.new.self ≡ c.args.out.now ++ s))
    (ap (λ (ys : List ℕ). take (20 + length behind - start) (drop start (put_mid 20 k laid ys))) c.copy_from_slice.ensures.after
    ∙ piece_is c.args.number start k laid _ behind c.write_digits-start.ensures.start c.write_digits-start.auto.bytes c.write_digits-start.ensures.written)
    c.append-2.ensures.added
