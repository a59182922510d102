-- When a walk may begin on a stack: each take of it, and of all that it leads to, is of what is held or goes upward.
use Rattle.std.proofs.Common.{◌≡◌, ◌<◌, ◌≤◌, ℕ, zero, suc, true, ◌⊎◌, inl, inr, List, [], ◌∷◌, refl, sym, ap, ◌∙◌}
use Rattle.std.proofs.lemmas.Bool.{cases_lt}
use Rattle.flux_values.specs.declared.answers.Mode.{Mode}
use Rattle.flux_model.specs.declared.programs.Hold.{Hold}
use Rattle.flux_model.specs.declared.programs.ClassNo.{ClassNo}
use Rattle.flux_model.specs.declared.programs.Program.{Program}
use Rattle.flow_model.specs.declared.journals.Key.{Key}
use Rattle.flux_model.specs.Leading.{leads_in}
use Rattle.flux_model.specs.Children.{IsIn, IsBelow}
use Rattle.flux_model.specs.Modes.{at_least}
use Rattle.flux_model.specs.Locks.{Holds, IsClosed}
use Rattle.flux_model.proofs.BelowLemmas.{below-led}
use Rattle.flux_laws.proofs.Members.{In, in-from_contains, contains-from_in}
use Rattle.flux_laws.proofs.Stacks.{Stack, begun, taken, opened, Covers, covers-under, IsAbove, MayTake}

-- the takes of holds, the first at the bottom
abbrev pub with_takes : (ClassNo → Key) → Stack → List Hold → Stack
with_takes key st [] = st
with_takes key st (hold ∷ holds) = with_takes key (taken (key hold.class) hold.mode ∷ st) holds

-- each later class is greater
abbrev pub Rising : List Hold → Type 0
Rising [] = Unit {0}
Rising (hold ∷ holds) = ((other : Hold) → In other holds → hold.class.0 < other.class.0) × Rising holds

module _ (key : ClassNo → Key) (keyed : (class : ClassNo) → (key class).class ≡ class) where
  -- a hold may be taken
  abbrev pub MayHold : Stack → Hold → Type 0
  MayHold st hold = MayTake st (key hold.class) hold.mode

  -- what is covered stays so after takes
  covers-takes : (st : Stack) (holds : List Hold) (k : Key) (mode : Mode) → Covers st k mode → Covers (with_takes key st holds) k mode
  covers-takes st [] k mode covers = covers
  covers-takes st (hold ∷ holds) k mode covers =
      covers-takes (taken (key hold.class) hold.mode ∷ st) holds k mode (covers-under (taken (key hold.class) hold.mode) st k mode covers)

  -- what is among the holds is covered by their takes
  pub covers-own : (st : Stack) (holds : List Hold) (class : ClassNo) (own mode : Mode) → In (record { class = class; mode = own }) holds → at_least own mode ≡ true
      → Covers (with_takes key st holds) (key class) mode
  covers-own st [] class own mode is enough = absurd is
  covers-own st (hold ∷ holds) class own mode (inl same) enough =
      covers-takes (taken (key hold.class) hold.mode ∷ st) holds (key class) mode
      (record { own = own; held = inl (ap (λ (h : Hold). taken (key h.class) h.mode) same); enough = enough })
  covers-own st (hold ∷ holds) class own mode (inr is) enough =
      covers-own (taken (key hold.class) hold.mode ∷ st) holds class own mode is enough

  above-take : (st : Stack) (hold : Hold) (class : ℕ) → IsAbove st class → hold.class.0 < class → IsAbove (taken (key hold.class) hold.mode ∷ st) class
  above-take st hold class above lt k mode (inl same) =
      let e : key hold.class ≡ k = cc in
      let c : k.class ≡ hold.class = ap (λ (q : Key). q.class) (sym e) ∙ keyed hold.class in
      rw c lt
  above-take st hold class above lt k mode (inr is) = above k mode is

  -- a class above what is held and above those of takes is above both
  above-takes : (st : Stack) (holds : List Hold) (class : ℕ) → IsAbove st class → ((hold : Hold) → In hold holds → hold.class.0 < class) → IsAbove (with_takes key st holds) class
  above-takes st [] class above low = above
  above-takes st (hold ∷ holds) class above low =
      above-takes (taken (key hold.class) hold.mode ∷ st) holds class (above-take st hold class above (low hold (inl refl))) (λ other is. low other (inr is))

  may-take_more : (st : Stack) (hold other : Hold) → MayHold st other → hold.class.0 < other.class.0 → MayHold (taken (key hold.class) hold.mode ∷ st) other
  may-take_more st hold other (inl covers) lt = inl (covers-under (taken (key hold.class) hold.mode) st (key other.class) other.mode covers)
  may-take_more st hold other (inr above) lt =
      inr (above-take st hold (key other.class).class.0 above (let e = keyed other.class in rw e lt))

  -- holds may be taken one after another
  pub may-take_all : (st : Stack) (hold : Hold) (holds : List Hold) → Rising (hold ∷ holds) → ((other : Hold) → In other (hold ∷ holds) → MayHold st other)
      → (other : Hold) → In other holds → MayHold (taken (key hold.class) hold.mode ∷ st) other
  may-take_all st hold holds (low, rising) may other is = may-take_more st hold other (may other (inr is)) (low other is)

-- some class is at least this one, or all are less
some_past : (holds : List Hold) (class : ℕ) → ((own : Hold) × In own holds × (class ≤ own.class.0)) ⊎ ((own : Hold) → In own holds → own.class.0 < class)
some_past [] class = inr (λ own is. absurd is)
some_past (hold ∷ holds) class = by (cases_lt hold.class.0 class) (some_past holds class)
  where
    by : (hold.class.0 < class) ⊎ (class ≤ hold.class.0) → ((own : Hold) × In own holds × (class ≤ own.class.0)) ⊎ ((own : Hold) → In own holds → own.class.0 < class)
        → ((own : Hold) × In own (hold ∷ holds) × (class ≤ own.class.0)) ⊎ ((own : Hold) → In own (hold ∷ holds) → own.class.0 < class)
    by (inr le) more = inl (hold, inl refl, le)
    by (inl lt) (inl (own, is, le)) = inl (own, inr is, le)
    by (inl lt) (inr all) = inr each
      where
        each : (own : Hold) → In own (hold ∷ holds) → own.class.0 < class
        each own (inl same) = rw (← same) lt
        each own (inr is) = all own is

-- ---- closed locks

module _ (p : Program) (locks : Holds) (closed : IsClosed p locks) (key : ClassNo → Key) (keyed : (class : ClassNo) → (key class).class ≡ class) where
  -- through so many nested nodes, the takes of the node and of what it leads to are of what is held or go upward
  abbrev pub Ready : Stack → ℕ → ℕ → Type 0
  Ready st zero number = Unit {0}
  Ready st (suc depth) number =
      ((hold : Hold) → In hold (locks number) → MayTake st (key hold.class) hold.mode)
      × ((led : ℕ) → IsIn led (leads_in p.nodes number) → Ready st depth led)

  -- so they are below a node after its own takes
  raised : (st : Stack) (top node : ℕ) → IsBelow p top node → (hold : Hold) → In hold (locks node) → MayTake st (key hold.class) hold.mode
      → MayTake (opened (record { 0 = top }) ∷ with_takes key st (locks top)) (key hold.class) hold.mode
  raised st top node below hold is (inl covers) =
      inl (covers-under (opened (record { 0 = top })) (with_takes key st (locks top)) (key hold.class) hold.mode (covers-takes key keyed st (locks top) (key hold.class) hold.mode covers))
  raised st top node below hold is (inr above) = by (some_past (locks top) hold.class.0)
    where
      by : ((own : Hold) × In own (locks top) × (hold.class.0 ≤ own.class.0)) ⊎ ((own : Hold) → In own (locks top) → own.class.0 < hold.class.0)
          → MayTake (opened (record { 0 = top }) ∷ with_takes key st (locks top)) (key hold.class) hold.mode
      by (inl (own, own_is, le)) =
          let at = closed top node hold own below (contains-from_in (locks node) hold is) (contains-from_in (locks top) own own_is) le in
          inl (covers-under (opened (record { 0 = top })) (with_takes key st (locks top)) (key hold.class) hold.mode
          (covers-own key keyed st (locks top) hold.class at.mode hold.mode (in-from_contains (locks top) (record { class = hold.class; mode = at.mode }) at.has) at.enough))
      by (inr low) = inr each
        where
          lower : (own : Hold) → In own (locks top) → own.class.0 < (key hold.class).class.0
          lower own own_is = let e = keyed hold.class in rw e (low own own_is)

          each : IsAbove (opened (record { 0 = top }) ∷ with_takes key st (locks top)) (key hold.class).class.0
          each k mode (inl same) = absurd cc
          each k mode (inr held) = above-takes key keyed st (locks top) (key hold.class).class.0 above lower k mode held

  -- so is what it leads to in turn
  pub ready-below : (depth : ℕ) (st : Stack) (top node : ℕ) → IsBelow p top node → Ready st depth node
      → Ready (opened (record { 0 = top }) ∷ with_takes key st (locks top)) depth node
  ready-below zero st top node below ready = tt
  ready-below (suc depth) st top node below (own, led) =
      (λ hold is. raised st top node below hold is (own hold is), λ x is. ready-below depth st top x (below-led p top node x below is) (led x is))

  -- nothing but a flow's begin is held
  pub ready-begun : (depth : ℕ) (node : ℕ) → Ready (begun ∷ []) depth node
  ready-begun zero node = tt
  ready-begun (suc depth) node = (λ hold is. inr none, λ x is. ready-begun depth x)
    where
      none : {class : ℕ} → IsAbove (begun ∷ []) class
      none k mode (inl same) = absurd cc
      none k mode (inr is) = absurd is
