-- Lines have exactly the flows that wait at a key, by their places; so they stay with one entry more.
use Rattle.std.proofs.Common.{◌≡◌, ◌<◌, ◌⊎◌, inl, inr, ℕ, suc, ◌+◌, Bool, true, false, not, cond, eqb, List, [], ◌∷◌, ◌++◌, length, take, refl, sym, ap, subst, ◌∙◌, arith}
use Rattle.std.specs.List.{Contains, prefix_len}
use Rattle.std.proofs.lemmas.Bool.{false≢true, eqb-true, eq-eqb, ne_eqb, cases_eq}
use Rattle.std.proofs.lemmas.List.{length-append}
use Rattle.flux_values.specs.declared.answers.Mode.{Mode}
use Rattle.flux_model.specs.declared.items.FlowNo.{FlowNo}
use Rattle.flow_model.specs.declared.journals.Key.{Key}
use Rattle.flow_model.specs.declared.journals.Entry.{Entry}
use Rattle.flow_model.specs.declared.journals.Event.{Event}
use Rattle.flow_model.specs.declared.journals.Event.TheVariants.{Wait}
use Rattle.flow_model.specs.Waits.{StandsAt}
use Rattle.flux_table.specs.declared.locks.Waiter.{Waiter}
use Rattle.flux_table.specs.Blockers.{line_before}
use Rattle.flux_table.specs.Changes.{line_without}
use Rattle.flux_laws.proofs.Members.{In, in-from_contains, contains-from_in, in-left, in-right, in-either}
use Rattle.flux_laws.proofs.Lasting.{last-unique}
use Rattle.flow_state.specs.steps.Table.{IsFirst, AreInOrder, IsLine}
use Rattle.flow_state.proofs.Entries.{stands-own, stands-here, stands-still, stood-before}

-- ---- lines

abbrev NotIn : ℕ → List Waiter → Type 0
NotIn flow line = (waiter : Waiter) → In waiter line → waiter.flow.0 ≡ flow → ⊥

-- a line that a flow is taken out of
pub without-in : (line : List Waiter) (flow : ℕ) (waiter : Waiter) → In waiter (line_without line flow) → In waiter line
without-in [] flow waiter is = is
without-in (first ∷ line) flow waiter is = by (eqb first.flow.0 flow) is (without-in line flow waiter)
  where
    by : (b : Bool) → In waiter (cond b line (first ∷ line_without line flow))
        → (In waiter (line_without line flow) → In waiter line) → In waiter (first ∷ line)
    by true is more = inr is
    by false (inl same) more = inl same
    by false (inr is) more = inr (more is)

in-without : (line : List Waiter) (flow : ℕ) (waiter : Waiter) → (waiter.flow.0 ≡ flow → ⊥) → In waiter line
    → In waiter (line_without line flow)
in-without [] flow waiter apart is = is
in-without (first ∷ line) flow waiter apart is = by (eqb first.flow.0 flow) refl is (in-without line flow waiter apart)
  where
    by : (b : Bool) → eqb first.flow.0 flow ≡ b → In waiter (first ∷ line)
        → (In waiter line → In waiter (line_without line flow))
        → In waiter (cond b line (first ∷ line_without line flow))
    by true own (inl same) more = absurd (apart (ap (λ (w : Waiter). w.flow.0) (sym same) ∙ eqb-true first.flow.0 flow
        own))
    by true own (inr is) more = is
    by false own (inl same) more = inl same
    by false own (inr is) more = inr (more is)

pub without-none : (line : List Waiter) (flow : ℕ) → NotIn flow line → line_without line flow ≡ line
without-none [] flow none = refl
without-none (first ∷ line) flow none =
    ap (λ (b : Bool). cond b line (first ∷ line_without line flow)) (ne_eqb first.flow.0 flow (none first (inl refl)))
    ∙ ap (λ l. first ∷ l) (without-none line flow (λ waiter is. none waiter (inr is)))

module _ (entries : List Entry) (key : Key) where
  -- each waiter of a line waits at the key
  pub order-stands : (line : List Waiter) → AreInOrder entries key line → (waiter : Waiter) → In waiter line
      → (place : ℕ) × StandsAt entries waiter.flow.0 key waiter.mode place
  order-stands [] order waiter is = absurd is
  order-stands (first ∷ line) (own, order) waiter (inl same) =
      (own.place, subst (λ (w : Waiter). StandsAt entries w.flow.0 key w.mode own.place) same own.stands)
  order-stands (first ∷ line) (own, order) waiter (inr is) = order-stands line order waiter is

  -- a flow waits at one place
  one-place : (flow : ℕ) (own their : Mode) (place other : ℕ) → StandsAt entries flow key own place
      → StandsAt entries flow key their other → place ≡ other
  one-place flow own their place other one two =
      let same = last-unique entries (record { 0 = flow }) (Wait key own) (Wait key their) place other one two in
      same.1

  -- the first flow isn't in the rest of the line
  first-once : (first : Waiter) (line : List Waiter) → IsFirst entries key first line → AreInOrder entries key line
      → NotIn first.flow.0 line
  first-once first line own order waiter is same =
      let (place, stands) = order-stands line order waiter is in
      let lt = own.behind waiter place (contains-from_in line waiter is) stands in
      let e = one-place first.flow.0 first.mode waiter.mode own.place place own.stands
      (subst (λ (f : ℕ). StandsAt entries f key waiter.mode place) same stands) in
      omega (arith, lt, e)

  -- ---- with one entry more

  module _ (flow : FlowNo) (event : Event) where
    abbrev more : List Entry
    more = entries ++ record { flow = flow; event = event } ∷ []

    abbrev Nowhere : Type 0
    Nowhere = (mode : Mode) (place : ℕ) → StandsAt entries flow.0 key mode place → ⊥

    abbrev NotHere : Type 0
    NotHere = (mode : Mode) → event ≡ Wait key mode → ⊥

    nowhere-in : Nowhere → (line : List Waiter) → AreInOrder entries key line → NotIn flow.0 line
    nowhere-in nowhere line order waiter is same =
        let (place, stands) = order-stands line order waiter is in
        nowhere waiter.mode place (subst (λ (f : ℕ). StandsAt entries f key waiter.mode place) same stands)

    first-still : NotHere → (first : Waiter) (line rest : List Waiter)
        → ((waiter : Waiter) → In waiter rest → In waiter line) → (first.flow.0 ≡ flow.0 → ⊥)
        → IsFirst entries key first line → IsFirst more key first rest
    first-still away first line rest within apart own = record {
      place = own.place;
      stands = stands-still entries flow event first.flow.0 (λ e. apart (sym e)) key first.mode own.place own.stands;
      behind = λ waiter behind is stands. told waiter behind (in-from_contains rest waiter is) stands
          (cases_eq flow.0 waiter.flow.0);
    }
      where
        told : (w : Waiter) (behind : ℕ) → In w rest → StandsAt more w.flow.0 key w.mode behind
            → (flow.0 ≡ w.flow.0) ⊎ (flow.0 ≡ w.flow.0 → ⊥) → own.place < behind
        told w behind is stands (inl same) = absurd (away w.mode
            (let e = stands-own entries flow event key w.mode behind
            (subst (λ (f : ℕ). StandsAt more f key w.mode behind) (sym same) stands) in e.0))
        told w behind is stands (inr other) = own.behind w behind (contains-from_in line w (within w is))
            (stood-before entries flow event w.flow.0 other key w.mode behind stands)

    order-still : NotHere → (line : List Waiter) → NotIn flow.0 line → AreInOrder entries key line
        → AreInOrder more key line
    order-still away [] none order = tt
    order-still away (first ∷ line) none (own, order) = (
      first-still away first line line (λ waiter is. is) (none first (inl refl)) own,
      order-still away line
          (λ waiter is. none waiter (inr is)) order,
    )

    order-left : NotHere → (line : List Waiter) → AreInOrder entries key line
        → AreInOrder more key (line_without line flow.0)
    order-left away [] order = tt
    order-left away (first ∷ line) (own, order) = by (eqb first.flow.0 flow.0) refl (order-left away line order)
      where
        by : (b : Bool) → eqb first.flow.0 flow.0 ≡ b → AreInOrder more key (line_without line flow.0)
            → AreInOrder more key (cond b line (first ∷ line_without line flow.0))
        by true same left =
            let e = eqb-true first.flow.0 flow.0 same in
            order-still away line (subst (λ (f : ℕ). NotIn f line) e (first-once first line own order)) order
        by false apart left = (
          first-still away first line (line_without line flow.0) (without-in line flow.0)
              (λ e. false≢true (sym apart ∙ eq-eqb first.flow.0 flow.0 e)) own,
          left,
        )

    -- where the flow doesn't begin to wait at the key, it is no longer in the line
    pub line-left : NotHere → (line : List Waiter) → IsLine entries key line
        → IsLine more key (line_without line flow.0)
    line-left away line is = record {
      all = λ other mode place stands. by other mode place stands (cases_eq flow.0 other.0);
      order = order-left away line is.order;
    }
      where
        by : (other : FlowNo) (mode : Mode) (place : ℕ) → StandsAt more other.0 key mode place
            → (flow.0 ≡ other.0) ⊎ (flow.0 ≡ other.0 → ⊥)
            → Contains (line_without line flow.0) (record { flow = other; mode = mode })
        by other mode place stands (inl same) =
            absurd (away mode (let e = stands-own entries flow event key mode place
            (subst (λ (f : ℕ). StandsAt more f key mode place) (sym same) stands) in e.0))
        by other mode place stands (inr apart) =
            let there = is.all other mode place (stood-before entries flow event other.0 apart key mode place stands) in
            contains-from_in (line_without line flow.0) (record { flow = other; mode = mode })
            (in-without line flow.0 (record { flow = other; mode = mode }) (λ e. apart (sym e))
            (in-from_contains line (record { flow = other; mode = mode }) there))

    -- and where it stood nowhere, the line is the same
    pub line-still : NotHere → Nowhere → (line : List Waiter) → IsLine entries key line → IsLine more key line
    line-still away nowhere line is =
        subst (IsLine more key) (without-none line flow.0 (nowhere-in nowhere line is.order)) (line-left away line is)

  -- without a flow that waits nowhere a line is as it was
  pub line-unchanged : (flow : FlowNo) → ((mode : Mode) (place : ℕ) → StandsAt entries flow.0 key mode place → ⊥)
      → (line : List Waiter) → IsLine entries key line → line_without line flow.0 ≡ line
  line-unchanged flow nowhere line is = without-none line flow.0 (λ waiter there same.
      let (place, stands) = order-stands line is.order waiter there in
      nowhere waiter.mode place (subst (λ (f : ℕ). StandsAt entries f key waiter.mode place) same stands))

  -- ---- with a wait

  module _ (flow : FlowNo) (mode : Mode) where
    abbrev waited : List Entry
    waited = entries ++ record { flow = flow; event = Wait key mode } ∷ []

    abbrev last : Waiter
    last = record { flow = flow; mode = mode }

    place-within : (other : ℕ) (own : Mode) (place : ℕ) → StandsAt entries other key own place → place < length entries
    place-within other own place stands =
        let whole : length entries ≡ length (stands.before ++ record {
          flow = record { 0 = other };
          event = Wait key own;
        } ∷ stands.after) = ap (λ (es : List Entry). length es) stands.stands in
        let at = stands.at in
        let long = length-append stands.before (record {
          flow = record { 0 = other };
          event = Wait key own;
        } ∷ stands.after) in
        omega (arith, whole, at, long)

    last-stands : StandsAt waited flow.0 key mode (length entries)
    last-stands = stands-here entries flow (Wait key mode) key mode refl

    first-waited : (first : Waiter) (line : List Waiter) → (first.flow.0 ≡ flow.0 → ⊥) → IsFirst entries key first line
        → IsFirst waited key first (line ++ last ∷ [])
    first-waited first line apart own = record {
      place = own.place;
      stands = stands-still entries flow (Wait key mode) first.flow.0 (λ e. apart (sym e)) key first.mode own.place
          own.stands;
      behind = λ waiter behind is stands. told waiter behind
          (in-either line (last ∷ []) waiter (in-from_contains (line ++ last ∷ []) waiter is)) stands
          (cases_eq flow.0 waiter.flow.0);
    }
      where
        lower : own.place < length entries
        lower = place-within first.flow.0 first.mode own.place own.stands

        told : (w : Waiter) (behind : ℕ) → In w line ⊎ In w (last ∷ []) → StandsAt waited w.flow.0 key w.mode behind
            → (flow.0 ≡ w.flow.0) ⊎ (flow.0 ≡ w.flow.0 → ⊥) → own.place < behind
        told w behind is stands (inl same) =
            let e = stands-own entries flow (Wait key mode) key w.mode behind
            (subst (λ (f : ℕ). StandsAt waited f key w.mode behind) (sym same) stands) in
            let at = e.1 in
            omega (arith, lower, at)
        told w behind (inl is) stands (inr other) = own.behind w behind (contains-from_in line w is)
            (stood-before entries flow (Wait key mode) w.flow.0 other key w.mode behind stands)
        told w behind (inr (inl same)) stands (inr other) = absurd (other (ap (λ (x : Waiter). x.flow.0) same))
        told w behind (inr (inr never)) stands (inr other) = absurd never

    order-waited : (line : List Waiter) → NotIn flow.0 line → AreInOrder entries key line
        → AreInOrder waited key (line ++ last ∷ [])
    order-waited [] none order = (
      record {
        place = length entries;
        stands = last-stands;
        behind = λ waiter behind is stands. absurd (in-from_contains [] waiter is);
      },
      tt,
    )
    order-waited (first ∷ line) none (own, order) = (
      first-waited first line (none first (inl refl)) own,
      order-waited line (λ waiter is. none waiter (inr is))
          order,
    )

    -- a flow that waited nowhere is at the end of the line
    pub line-waited : ((own : Mode) (place : ℕ) → StandsAt entries flow.0 key own place → ⊥) → (line : List Waiter)
        → IsLine entries key line → IsLine waited key (line ++ last ∷ [])
    line-waited nowhere line is = record {
      all = λ other own place stands. by other own place stands (cases_eq flow.0 other.0);
      order = order-waited line (nowhere-in flow (Wait key mode) nowhere line is.order) is.order;
    }
      where
        by : (other : FlowNo) (own : Mode) (place : ℕ) → StandsAt waited other.0 key own place
            → (flow.0 ≡ other.0) ⊎ (flow.0 ≡ other.0 → ⊥)
            → Contains (line ++ last ∷ []) (record { flow = other; mode = own })
        by other own place stands (inl same) =
            let e = stands-own entries flow (Wait key mode) key own place
            (subst (λ (f : ℕ). StandsAt waited f key own place) (sym same) stands) in
            let modes : mode ≡ own = let w = e.0 in cc in
            contains-from_in (line ++ last ∷ []) (record { flow = other; mode = own })
            (in-right line (last ∷ []) (record { flow = other; mode = own })
            (inl (λ i. record { flow = record { 0 = same i }; mode = modes i })))
        by other own place stands (inr apart) =
            let there = is.all other own place (stood-before entries flow (Wait key mode) other.0 apart key own place
            stands) in
            contains-from_in (line ++ last ∷ []) (record { flow = other; mode = own })
            (in-left line (last ∷ []) (record { flow = other; mode = own })
            (in-from_contains line (record { flow = other; mode = own }) there))

  -- ---- who waits before a flow

  -- the line before a flow, by recursion
  abbrev front_of : List Waiter → ℕ → List Waiter
  front_of [] flow = []
  front_of (first ∷ line) flow = cond (eqb first.flow.0 flow) [] (first ∷ front_of line flow)

  front-is : (line : List Waiter) (flow : ℕ) → line_before line flow ≡ front_of line flow
  front-is [] flow = refl
  front-is (first ∷ line) flow =
      let next : 1 + prefix_len (λ (w : Waiter). not (eqb w.flow.0 flow)) line ≡ suc
      (prefix_len (λ (w : Waiter). not (eqb w.flow.0 flow)) line) = omega arith in
      elim (eqb first.flow.0 flow) as (λ b. take (cond (not b)
      (1 + prefix_len (λ (w : Waiter). not (eqb w.flow.0 flow)) line) 0) (first ∷ line) ≡ cond b []
      (first ∷ front_of line flow)) [
        | true ↦ refl
        | false ↦ ap (λ (n : ℕ). take n (first ∷ line)) next ∙ ap (λ l. first ∷ l) (front-is line flow)
      ]

  front-in : (line : List Waiter) (flow : ℕ) (waiter : Waiter) → In waiter (front_of line flow)
      → In waiter line × (waiter.flow.0 ≡ flow → ⊥)
  front-in [] flow waiter is = absurd is
  front-in (first ∷ line) flow waiter is = by (eqb first.flow.0 flow) refl is (front-in line flow waiter)
    where
      by : (b : Bool) → eqb first.flow.0 flow ≡ b → In waiter (cond b [] (first ∷ front_of line flow))
          → (In waiter (front_of line flow) → In waiter line × (waiter.flow.0 ≡ flow → ⊥))
          → In waiter (first ∷ line) × (waiter.flow.0 ≡ flow → ⊥)
      by true own is later = absurd is
      by false own (inl same) later = (
        inl same,
        λ e. false≢true
            (sym own ∙ eq-eqb first.flow.0 flow (ap (λ (w : Waiter). w.flow.0) same ∙ e)),
      )
      by false own (inr is) later = let (there, apart) = later is in (inr there, apart)

  -- who waits before a flow has a lower place
  front-lower : (line : List Waiter) → AreInOrder entries key line → (flow : ℕ) (waiter own : Waiter)
      → In waiter (front_of line flow) → In own line → own.flow.0 ≡ flow
      → (place behind : ℕ) → StandsAt entries waiter.flow.0 key waiter.mode place
      → StandsAt entries own.flow.0 key own.mode behind → place < behind
  front-lower [] order flow waiter own is there same place behind one two = absurd is
  front-lower (first ∷ line) (fst, order) flow waiter own is there same place behind one two =
      by (eqb first.flow.0 flow) refl is there (λ is_more there_more. front-lower line order flow waiter own is_more
      there_more same place behind one two)
    where
      by : (b : Bool) → eqb first.flow.0 flow ≡ b → In waiter (cond b [] (first ∷ front_of line flow))
          → In own (first ∷ line)
          → (In waiter (front_of line flow) → In own line → place < behind) → place < behind
      by true test is there more = absurd is
      by false test is (inl here) more = absurd (false≢true
          (sym test ∙ eq-eqb first.flow.0 flow (ap (λ (w : Waiter). w.flow.0) here ∙ same)))
      by false test (inl here) (inr there) more =
          let stands = subst (λ (w : Waiter). StandsAt entries w.flow.0 key w.mode fst.place) here fst.stands in
          let e = one-place waiter.flow.0 waiter.mode waiter.mode fst.place place stands one in
          let lt = fst.behind own behind (contains-from_in line own there) two in
          omega (arith, e, lt)
      by false test (inr is) (inr there) more = more is there

  -- and whoever has one waits before it
  lower-front : (line : List Waiter) → AreInOrder entries key line → (flow : ℕ) (waiter : Waiter) → In waiter line
      → (waiter.flow.0 ≡ flow → ⊥)
      → (place : ℕ) → StandsAt entries waiter.flow.0 key waiter.mode place
      → ((own : Mode) (behind : ℕ) → StandsAt entries flow key own behind → place < behind)
      → In waiter (front_of line flow)
  lower-front [] order flow waiter is apart place stands lower = is
  lower-front (first ∷ line) (fst, order) flow waiter is apart place stands lower =
      by (eqb first.flow.0 flow) refl is (λ more. lower-front line order flow waiter more apart place stands lower)
    where
      by : (b : Bool) → eqb first.flow.0 flow ≡ b → In waiter (first ∷ line)
          → (In waiter line → In waiter (front_of line flow)) → In waiter (cond b [] (first ∷ front_of line flow))
      by true test (inl same) more = absurd (apart (ap (λ (w : Waiter). w.flow.0) (sym same) ∙ eqb-true first.flow.0
          flow test))
      by true test (inr is) more =
          let one = lower first.mode fst.place (subst (λ (f : ℕ). StandsAt entries f key first.mode fst.place)
          (eqb-true first.flow.0 flow test) fst.stands) in
          let two = fst.behind waiter place (contains-from_in line waiter is) stands in
          absurd (omega (arith, one, two))
      by false test (inl same) more = inl same
      by false test (inr is) more = inr (more is)

  -- ---- the same for a whole line

  module _ (line : List Waiter) (is : IsLine entries key line) where
    pub before-stands : (flow : ℕ) (waiter : Waiter) → Contains (line_before line flow) waiter
        → (place : ℕ) × StandsAt entries waiter.flow.0 key waiter.mode place ×
        ((own : Mode) (behind : ℕ) → StandsAt entries flow key own behind → place < behind)
    before-stands flow waiter there =
        let among : In waiter (front_of line flow) = subst (λ (l : List Waiter). In waiter l) (front-is line flow)
        (in-from_contains (line_before line flow) waiter there) in
        let (place, stands) = order-stands line is.order waiter (front-in line flow waiter among).0 in (
          place,
          stands,
          λ own behind at.
              front-lower line is.order flow waiter (record { flow = record { 0 = flow }; mode = own }) among
              (in-from_contains line (record { flow = record { 0 = flow }; mode = own })
              (is.all (record { 0 = flow }) own behind at)) refl place behind stands at,
        )

    pub stands-before : (flow : ℕ) (other : FlowNo) (mode : Mode) (place : ℕ) → (other.0 ≡ flow → ⊥)
        → StandsAt entries other.0 key mode place
        → ((own : Mode) (behind : ℕ) → StandsAt entries flow key own behind → place < behind)
        → Contains (line_before line flow) (record { flow = other; mode = mode })
    stands-before flow other mode place apart stands lower =
        let waiter : Waiter = record { flow = other; mode = mode } in
        let among = lower-front line is.order flow waiter
        (in-from_contains line waiter (is.all other mode place stands)) apart place stands lower in
        contains-from_in (line_before line flow) waiter
        (subst (λ (l : List Waiter). In waiter l) (sym (front-is line flow)) among)

    -- who is in the line waits there
    pub line-stands : (waiter : Waiter) → Contains line waiter
        → (place : ℕ) × StandsAt entries waiter.flow.0 key waiter.mode place
    line-stands waiter there = order-stands line is.order waiter (in-from_contains line waiter there)
