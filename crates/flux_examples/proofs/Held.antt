-- What exclusion refuses, and what it lets through.
use Rattle.std.proofs.Common.{◌≡◌, ap, subst, sym, ◌∙◌, ℕ, zero, suc, Bool, cond, false, List, [], ◌∷◌, ◌++◌, length, take, drop, Option, Some, None, refl, arith}
use Rattle.std.proofs.lemmas.List.{take_at}
use Rattle.std.proofs.lemmas.Bool.{ne_eqb}
use Rattle.std.specs.List.{Contains}
use Rattle.flux_values.specs.declared.answers.Mode.TheVariants.{Reader, Writer}
use Rattle.flow_model.specs.declared.journals.Key.{Key}
use Rattle.flow_model.specs.declared.journals.Entry.{Entry}
use Rattle.flow_model.specs.declared.journals.Event.{Event}
use Rattle.flow_model.specs.declared.journals.Event.TheVariants.{Take, Drop, Enter, Exit}
use Rattle.flow_model.specs.declared.journals.Outcome.TheVariants.{Good}
use Rattle.flux_model.specs.declared.programs.NodeNo.{NodeNo}
use Rattle.flux_model.proofs.RisingHolds.{contains_none}
use Rattle.flow_model.specs.Events.{events_by}
use Rattle.flow_model.specs.Exclusion.{holds_against, open_after}
use Rattle.flux_examples.proofs.Ends.{nothing_past}
use Rattle.flux_examples.specs.Small.{no, k, writer, by}
use Rattle.flux_examples.specs.Held.{TakesAreKeptApart, SectionsAreKeptApart, OverlapsAreKeptApart, TakesMayFollow, SectionsMayFollow}

-- a reader's take beside a writer
pub takes_apart : TakesAreKeptApart
takes_apart excludes =
    let e = excludes (by 0 (Take k Writer) ∷ []) [] (record { 0 = 1 }) k Reader refl 0 (λ same. omega (arith, same)) in
    absurd cc

-- two writers' sections
pub sections_apart : SectionsAreKeptApart
sections_apart excludes =
    let e = excludes (by 0 (Enter (no 0)) ∷ by 1 (Enter (no 1)) ∷ []) [] refl 0 1 k Writer Writer (λ same. omega (arith, same))
    (record { node = no 0; inside = (0, omega arith, refl); hold = writer; declares = (0, omega arith, refl); on = refl; as_ = refl })
    (record { node = no 1; inside = (0, omega arith, refl); hold = writer; declares = (0, omega arith, refl); on = refl; as_ = refl }) in
    absurd cc

-- two writers' sections, both of which end
pub overlaps_apart : OverlapsAreKeptApart
overlaps_apart excludes =
    let e = excludes (by 0 (Enter (no 0)) ∷ by 1 (Enter (no 1)) ∷ []) (by 0 (Exit (no 0) Good) ∷ by 1 (Exit (no 1) Good) ∷ [])
    refl 0 1 k Writer Writer (λ same. omega (arith, same))
    (record { node = no 0; inside = (0, omega arith, refl); hold = writer; declares = (0, omega arith, refl); on = refl; as_ = refl })
    (record { node = no 1; inside = (0, omega arith, refl); hold = writer; declares = (0, omega arith, refl); on = refl; as_ = refl }) in
    absurd cc

-- ---- sections one after the other

abbrev following : List Entry
following = by 0 (Enter (no 0)) ∷ by 0 (Exit (no 0) Good) ∷ by 1 (Enter (no 1)) ∷ by 1 (Exit (no 1) Good) ∷ []

-- the flow has entered this node and not left it
abbrev IsInside : List Entry → ℕ → NodeNo → Type 0
IsInside entries flow node = Contains (open_after [] (events_by flow entries)) node

-- who may be inside after so many entries
abbrev turn : ℕ → ℕ
turn zero = 0
turn (suc zero) = 0
turn (suc (suc n)) = 1

-- an entry of another flow is passed over
passed : (own other : ℕ) (event : Event) (rest : List Entry) → (own ≡ other → ⊥)
    → events_by other (by own event ∷ rest) ≡ events_by other rest
passed own other event rest apart =
    ap (λ (b : Bool). cond b (event ∷ events_by other rest) (events_by other rest)) (ne_eqb own other apart)

-- a flow without events is in no node
outside : (entries : List Entry) (flow : ℕ) (node : NodeNo) → events_by flow entries ≡ [] → IsInside entries flow node → ⊥
outside entries flow node none inside =
    contains_none node (subst (λ (events : List Event). Contains (open_after [] events) node) none inside)

-- the first flow's events are none of another's
past_first : (flow : ℕ) (rest : List Entry)
    → events_by (suc flow) (by 0 (Enter (no 0)) ∷ by 0 (Exit (no 0) Good) ∷ rest) ≡ events_by (suc flow) rest
past_first flow rest =
    passed 0 (suc flow) (Enter (no 0)) (by 0 (Exit (no 0) Good) ∷ rest) (λ same. omega (arith, same))
    ∙ passed 0 (suc flow) (Exit (no 0) Good) rest (λ same. omega (arith, same))

-- nor are those of both any of a third one's
past_both : (flow : ℕ) → events_by (suc (suc flow)) following ≡ []
past_both flow = past_first (suc flow) (by 1 (Enter (no 1)) ∷ by 1 (Exit (no 1) Good) ∷ [])
    ∙ (passed 1 (suc (suc flow)) (Enter (no 1)) (by 1 (Exit (no 1) Good) ∷ []) (λ same. omega (arith, same))
    ∙ passed 1 (suc (suc flow)) (Exit (no 1) Good) [] (λ same. omega (arith, same)))

only : (n flow : ℕ) (node : NodeNo) → IsInside (take n following) flow node → flow ≡ turn n
only zero flow node inside = absurd (contains_none node inside)
only (suc zero) zero node inside = refl
only (suc zero) (suc flow) node inside =
    absurd (outside (take 1 following) (suc flow) node (passed 0 (suc flow) (Enter (no 0)) [] (λ same. omega (arith, same))) inside)
only (suc (suc zero)) zero node inside = absurd (contains_none node inside)
only (suc (suc zero)) (suc flow) node inside = absurd (outside (take 2 following) (suc flow) node (past_first flow []) inside)
only (suc (suc (suc zero))) zero node inside = absurd (contains_none node inside)
only (suc (suc (suc zero))) (suc zero) node inside = refl
only (suc (suc (suc zero))) (suc (suc flow)) node inside = absurd (outside (take 3 following) (suc (suc flow)) node
    (past_first (suc flow) (by 1 (Enter (no 1)) ∷ []) ∙ passed 1 (suc (suc flow)) (Enter (no 1)) [] (λ same. omega (arith, same))) inside)
only (suc (suc (suc (suc zero)))) zero node inside = absurd (contains_none node inside)
only (suc (suc (suc (suc zero)))) (suc zero) node inside = absurd (contains_none node inside)
only (suc (suc (suc (suc zero)))) (suc (suc flow)) node inside = absurd (outside following (suc (suc flow)) node (past_both flow) inside)
only (suc (suc (suc (suc (suc n))))) zero node inside = absurd (contains_none node inside)
only (suc (suc (suc (suc (suc n))))) (suc zero) node inside = absurd (contains_none node inside)
only (suc (suc (suc (suc (suc n))))) (suc (suc flow)) node inside = absurd (outside following (suc (suc flow)) node (past_both flow) inside)

-- no two flows are inside at one moment
pub sections_follow : SectionsMayFollow
sections_follow before after e flow other key own their apart one two = absurd (apart (whose flow one.node one.inside ∙ sym (whose other two.node two.inside)))
  where
    front : before ≡ take (length before) following
    front = sym (ap (take (length before)) e ∙ take_at before after (length before) refl)

    whose : (who : ℕ) (node : NodeNo) → IsInside before who node → who ≡ turn (length before)
    whose who node inside =
        only (length before) who node (subst (λ (entries : List Entry). IsInside entries who node) front inside)

-- the event of the second entry
abbrev event_at : List Entry → Event
event_at [] = Drop k
event_at (x ∷ []) = x.event
event_at (x ∷ y ∷ entries) = y.event

-- a take after the drop: it is the first entry, or the third one
pub may_follow : TakesMayFollow
may_follow [] after flow key mode stands other ne = refl
may_follow (x ∷ []) after flow key mode stands other ne =
    let same : Drop k ≡ Take key mode = ap (λ (entries : List Entry). event_at entries) stands in absurd cc
may_follow (x ∷ y ∷ []) after flow key mode stands other ne = third
  where
    third : holds_against (x ∷ y ∷ []) other key mode ≡ false
    third = grind arith
may_follow (x ∷ y ∷ z ∷ before) after flow key mode stands other ne =
    absurd (nothing_past before (record { flow = flow; event = Take key mode }) after (ap (drop 3) stands))

-- a session's key
abbrev keyed : ℕ → Key
keyed session = record { class = record { 0 = 0 }; id = Some session }

abbrev session_in : Option ℕ → ℕ
session_in None = 0
session_in (Some session) = session

-- the keys of two sessions differ
pub keys_differ : keyed 4 ≡ keyed 5 → ⊥
keys_differ same = let sessions : 4 ≡ 5 = ap (λ (key : Key). session_in key.id) same in omega (arith, sessions)
