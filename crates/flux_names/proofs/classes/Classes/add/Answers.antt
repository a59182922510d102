use Rattle.std.proofs.Common.{◌≤◌, ◌∙◌, ℕ, Bool, List, length, map, not, ap}
use Rattle.std.specs.Borrow.{Bor}
use Rattle.flux_model.specs.declared.programs.Class.{Class}
use Rattle.flux_syntax.specs.ProgramOfText.{insert_class}
use Rattle.flux_names.specs.steps.Classes.{has_class}
use Rattle.flux_names.proofs.Canonical.{by_view, insert_viewed, has_viewed, all_inserted}
use Rattle.flux_names.proofs.classes.Classes.add.Goals as goal

abbrev Key : Type 0
Key = Bor (List ℕ) × Bool

abbrev class_at : Key → Class
class_at k = record { name = k.0.now; session = k.1 }

pub invariant_of-self-2 : goal.invariant_of-self-2
invariant_of-self-2 c =
    let key : Key = (c.as_bytes.result, c.args.constraint.now.session) in
    let short : length c.as_bytes.result.now ≤ 65536 = rw c.as_bytes.ensures.same c.as_bytes.ensures.limit in
    rw c.in_ok-insert.ensures.keys (all_inserted (by_view class_at) (λ (k : Key). length k.0.now ≤ 65536) key c.self.inside.keys.keys short c.self.invariant)

pub returns-clause-new : goal.returns-clause-new
returns-clause-new c =
    let key : Key = (c.as_bytes.result, c.args.constraint.now.session) in
    c.in_ok-insert.ensures.added
    ∙ ap not (has_viewed class_at key c.self.inside.keys.keys
    ∙ ap (λ (l : List Class). has_class l (class_at key)) c.self.view_is
    ∙ ap (λ (n : List ℕ). has_class c.args.self.now (record { name = n; session = c.args.constraint.now.session })) c.as_bytes.ensures.same)

pub returns-clause-added : goal.returns-clause-added
returns-clause-added c =
    let key : Key = (c.as_bytes.result, c.args.constraint.now.session) in
    ap (λ (ks : List Key). map class_at ks) c.in_ok-insert.ensures.keys
    ∙ insert_viewed class_at key c.self.inside.keys.keys
    ∙ ap (insert_class (class_at key)) c.self.view_is
    ∙ ap (λ (n : List ℕ). insert_class (record { name = n; session = c.args.constraint.now.session }) c.args.self.now) c.as_bytes.ensures.same
