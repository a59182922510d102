use Rattle.std.proofs.Common.{◌++◌, codes, ap, subst, ◌∙◌}
use Rattle.std.proofs.lemmas.Result.{on_ok_weaker}
use Rattle.flux_values.specs.declared.answers.Mode.TheVariants.{Reader}
use Rattle.flux_model.specs.declared.programs.Hold.{Hold}
use Rattle.flux_model.specs.Locks.{declared, HasAtLeast}
use Rattle.flux_hoist.specs.steps.Lowest.{IsLowest, IsCausal}
use Rattle.flux_hoist.proofs.SaidPieces.{found_lowest, line_here, some_cause, raised_said, added_said}
use Rattle.flux_hoist.proofs.reports.append_said.Goals as goal

pub unreachable-requires : goal.unreachable-requires
unreachable-requires c =
    let p = c.args.p.now in
    let new : HasAtLeast (declared p c.args.number) c.args.hold → ⊥ = λ kept. (let told = c.declares.ensures.1 ((c.requires.own c.args.number c.args.hold).1 kept) in let is = c.if-declares.false in cc) in
    some_cause p c.args.number c.args.hold c.requires.held new c.cause.result
    (found_lowest p c.args.number c.args.hold c.as_slice.result.now c.index-as_slice-number.result c.as_slice.ensures c.requires.within c.index-as_slice-number.is _ c.cause.result c.requires.lowest c.cause.ensures) c.in_default.is

pub returns-then-declares-2 : goal.returns-then-declares-2
returns-then-declares-2 c =
    let p = c.args.p.now in
    let read : Hold = record { class = c.args.hold.class; mode = Reader } in
    let new : HasAtLeast (declared p c.args.number) c.args.hold → ⊥ = λ kept. (let told = c.declares.ensures.1 ((c.requires.own c.args.number c.args.hold).1 kept) in let is = c.if-declares.false in cc) in
    let lowest = found_lowest p c.args.number c.args.hold c.as_slice.result.now c.index-as_slice-number.result c.as_slice.ensures c.requires.within c.index-as_slice-number.is _ c.cause.result c.requires.lowest c.cause.ensures in
    on_ok_weaker c.append_line.result (λ same. raised_said p c.args.number c.args.hold c.requires.held new c.in-Some.cause _ _ (subst (IsLowest (IsCausal p c.args.number c.args.hold)) c.in-Some.is lowest)
    ((c.requires.own c.args.number read).0 (c.declares-2.ensures.0 c.if-declares-2.true))
    (same ∙ ap (λ line. c.args.out.now ++ line) (line_here p c.args.number c.args.hold c.as_slice.result.now c.index-as_slice-number.result c.as_slice.ensures c.requires.within c.index-as_slice-number.is (codes " raises ") c.in-Some.cause)))
    c.append_line.ensures

pub returns-else-declares-2 : goal.returns-else-declares-2
returns-else-declares-2 c =
    let p = c.args.p.now in
    let read : Hold = record { class = c.args.hold.class; mode = Reader } in
    let new : HasAtLeast (declared p c.args.number) c.args.hold → ⊥ = λ kept. (let told = c.declares.ensures.1 ((c.requires.own c.args.number c.args.hold).1 kept) in let is = c.if-declares.false in cc) in
    let unread : HasAtLeast (declared p c.args.number) read → ⊥ = λ has. (let told = c.declares-2.ensures.1 ((c.requires.own c.args.number read).1 has) in let is = c.if-declares-2.false in cc) in
    let lowest = found_lowest p c.args.number c.args.hold c.as_slice.result.now c.index-as_slice-number.result c.as_slice.ensures c.requires.within c.index-as_slice-number.is _ c.cause.result c.requires.lowest c.cause.ensures in
    on_ok_weaker c.append_line-else-declares-2.result (λ same. added_said p c.args.number c.args.hold c.requires.held new c.in-Some.cause _ _ (subst (IsLowest (IsCausal p c.args.number c.args.hold)) c.in-Some.is lowest) unread
    (same ∙ ap (λ line. c.args.out.now ++ line) (line_here p c.args.number c.args.hold c.as_slice.result.now c.index-as_slice-number.result c.as_slice.ensures c.requires.within c.index-as_slice-number.is (codes " adds ") c.in-Some.cause)))
    c.append_line-else-declares-2.ensures
