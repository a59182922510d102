use Rattle.std.proofs.Common.{◌∙◌, ◌+◌, ◌++◌, List, Option, None, length, drop, ap, sym}
use Rattle.std.specs.List.{flat_map}
use Rattle.std.specs.Borrow.{Bor}
use Rattle.std.proofs.lemmas.List.{at_drop_more, length-replicate}
use Rattle.flux_values.specs.declared.answers.Mode.{Mode}
use Rattle.flux_syntax.specs.declared.declarations.Decl.{Decl}
use Rattle.flux_syntax.specs.ProgramOfText.{constraints_of}
use Rattle.flux_names.specs.steps.Classes.{with_constraints}
use Rattle.flux_names.specs.steps.Nodes.{lines_now}
use Rattle.flux_names.proofs.Joined.{length_with_all, with_append, no_modes_are}
use Rattle.flux_names.proofs.modes.declared.Goals as goal

pub loop-line-init : goal.loop-line-init
loop-line-init c =
    let classes = c.args.classes.now in (
      ap length c.in_ok-modes.ensures ∙ length-replicate (length classes) None,
      ap (with_constraints (flat_map constraints_of (lines_now c.args.lines.now)) classes) (sym (c.in_ok-modes.ensures ∙ no_modes_are classes)),
    )

pub loop-line-preserved : goal.loop-line-preserved
loop-line-preserved c =
    let classes = c.args.classes.now in
    let lines = c.args.lines.now in
    let modes = c.loop-line.modes.items in
    let i = c.loop-line.line-index in
    let own = c.line-item.result in
    let rest = flat_map constraints_of (lines_now (drop (i + 1) lines)) in (
      rw c.join_line.ensures (length_with_all (constraints_of own.now) classes modes c.loop-line.invariant.0),
      c.loop-line.invariant.1
          ∙ at_drop_more (λ (ls : List (Bor Decl)). with_constraints (flat_map constraints_of (lines_now ls)) classes modes) lines i own c.loop-line-test.true
          ∙ ap (λ (l : Bor Decl). with_constraints (constraints_of l.now ++ rest) classes modes) (sym c.line-item.is)
          ∙ with_append (constraints_of own.now) rest classes modes
          ∙ ap (λ (m : List (Option Mode)). with_constraints rest classes m) (sym c.join_line.ensures),
    )
