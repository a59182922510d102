use Rattle.std.proofs.Common.{rules}
use Rattle.std.proofs.lemmas.Fn.{always_returns_same}
use Rattle.flux_model.specs.declared.programs.Class.{Class}
use Rattle.flux_model.specs.Modes.{class_cmp}
use Rattle.flux_syntax.specs.ProgramOfText.{class_of}
use Rattle.flux_names.proofs.Canonical.{in_order_sorted}
use Rattle.flux_names.proofs.Joined.{place_of}
use Rattle.flux_names.proofs.modes.find_place.Goals as goal

-- the closure compares a class with the constraint's
pub returns : goal.returns
returns c =
    let facts = c.binary_search_by.ensures in
    let found = facts.position (λ (class : Class). class_cmp class (class_of c.args.constraint.now)) (always_returns_same _ _ _ (λ a r g called. (search rules, search rules))) in
    place_of c.args.classes.now c.args.constraint.now _ (in_order_sorted c.args.classes.now c.requires) facts.bound found
