-- The table says who holds and who waits as the journal does, and keeps doing so with one entry more.
use Rattle.std.proofs.Common.{◌≡◌, ◌≢◌, ◌<◌, ◌⊎◌, inl, inr, ℕ, Bool, true, false, cond, eqb, List, [], ◌∷◌, ◌++◌, length, Option, Some, None, refl, sym, ap, subst, ◌∙◌, arith}
use Rattle.std.specs.List.{Contains, list_any}
use Rattle.std.specs.Option.{is_some}
use Rattle.std.specs.Prelude.{IsSome}
use Rattle.std.proofs.lemmas.Bool.{false≢true, eqb-true, eq-eqb, cases_eq}
use Rattle.std.proofs.lemmas.List.{append-nil, append_cancel_left}
use Rattle.flux_values.specs.declared.values.Value.{Value}
use Rattle.flux_values.specs.declared.answers.Mode.{Mode}
use Rattle.flux_model.specs.declared.programs.NodeNo.{NodeNo}
use Rattle.flux_model.specs.declared.items.FlowNo.{FlowNo}
use Rattle.flow_model.specs.declared.journals.Key.{Key}
use Rattle.flow_model.specs.declared.journals.Entry.{Entry}
use Rattle.flow_model.specs.declared.journals.Event.{Event}
use Rattle.flow_model.specs.declared.journals.Event.TheVariants.{Take, Wait, Enter, Choose, Call, Exit, Drop, End}
use Rattle.flow_model.specs.Setup.{Setup}
use Rattle.flux_model.specs.Modes.{conflict, at_least}
use Rattle.flow_model.specs.Keys.{same_key}
use Rattle.flow_model.specs.Events.{own_events, IsNext, CallIsNext}
use Rattle.flow_model.specs.Exclusion.{HoldsKey, modes_held, held_after, without_first, holds_against}
use Rattle.flow_model.specs.Waits.{StandsAt, StandsBefore, Blocks}
use Rattle.flow_model.specs.Legal.{IsLegal}
use Rattle.flow_model.proofs.Keys.{key_cases, same_key_itself}
use Rattle.flux_table.specs.declared.locks.Held.{Held}
use Rattle.flux_table.specs.Tables.{Locks, Holders, Lines, holders_of, lines_of}
use Rattle.flux_table.specs.Blockers as table
use Rattle.flux_table.specs.Blockers.{HoldsAgainst, StandsAgainst, line_before, IsLowestOf, MayTake, MayWait}
use Rattle.flux_table.specs.Changes.{one_more, one_less, with_held, line_without, with_holding, with_line, Takes, Waits, Releases}
use Rattle.flux_table.proofs.Standing.{lowest_same}
use Rattle.flux_laws.specs.Takes.{HoldsEnough, HoldsBelow}
use Rattle.flux_laws.proofs.Members.{in-from_contains}
use Rattle.flux_laws.proofs.OwnEvents.{modes_held-own, modes_held-other}
use Rattle.flux_laws.proofs.Standing.{next-unique}
use Rattle.flux_laws.proofs.Living.{blockers_are_live}
use Rattle.flux_laws.proofs.Stacked.{takes_go_up, drops_are_held, first_takes_are_greatest, standers_take_next}
use Rattle.flow_state.specs.steps.Places.{IsQuiet}
use Rattle.flow_state.specs.steps.Table.{held_in, IsLine, IsTable}
use Rattle.flow_state.proofs.Held.{held-none, held-less, FirstIsGreatest, held-against, against-held, held-enough}
use Rattle.flow_state.proofs.Lines.{line-left, line-still, line-waited, before-stands, stands-before, line-stands, line-unchanged}

-- who took a key holds it
pub taken-holds : (old new : Locks) (flow : ℕ) (key : Key) (mode : Mode) → Takes old new flow key mode
    → holders_of new key flow ≡ Some (one_more (holders_of old key flow) mode)
taken-holds old new flow key mode takes =
    let now : Option Held = Some (one_more (holders_of old key flow) mode) in
    ap (λ (h : Holders). h key flow) takes.holders
    ∙ ap (λ (b : Bool). (cond b (with_held (holders_of old key) flow now) (holders_of old key)) flow)
    (same_key_itself key)
    ∙ ap (λ (b : Bool). cond b now (holders_of old key flow)) (eq-eqb flow flow refl)

pub taken-some : (old new : Locks) (flow : ℕ) (key : Key) (mode : Mode) → Takes old new flow key mode
    → IsSome (holders_of new key flow)
taken-some old new flow key mode takes = ap is_some (taken-holds old new flow key mode takes)

-- an event doesn't come next where a call does
pub not-both : (setup : Setup) (entries : List Entry) (flow : ℕ) (event : Event) (node : NodeNo) (args : List Value)
    → IsNext setup entries flow event → CallIsNext setup entries flow node args → ⊥
not-both setup entries flow event node args next call =
    let same : own_events entries flow ++ event ∷ next.rest ≡ own_events entries flow ++ [] =
    sym next.next ∙ call.all ∙ sym (append-nil (own_events entries flow)) in
    let none : event ∷ next.rest ≡ [] = append_cancel_left (own_events entries flow) (event ∷ next.rest) [] same in
    cc

module _ (setup : Setup) (entries : List Entry) (legal : IsLegal setup entries) where
  -- a flow waits only at its next take
  pub stands-next : (flow : ℕ) (event : Event) → IsNext setup entries flow event → (key : Key) (mode : Mode) (place : ℕ)
      → StandsAt entries flow key mode place → event ≡ Take key mode
  stands-next flow event next key mode place stands =
      next-unique setup entries flow event (Take key mode) next
      (standers_take_next setup entries legal.waits flow key mode place stands)

  -- so it waits nowhere where its next event is no take
  pub nowhere-by : (flow : ℕ) (event : Event) → IsNext setup entries flow event
      → ((key : Key) (mode : Mode) → event ≡ Take key mode → ⊥)
      → (key : Key) (mode : Mode) (place : ℕ) → StandsAt entries flow key mode place → ⊥
  nowhere-by flow event next away key mode place stands =
      away key mode (stands-next flow event next key mode place stands)

  -- or is a call
  pub nowhere-calling : (flow : ℕ) (node : NodeNo) (args : List Value) → CallIsNext setup entries flow node args
      → (key : Key) (mode : Mode) (place : ℕ) → StandsAt entries flow key mode place → ⊥
  nowhere-calling flow node args call key mode place stands =
      not-both setup entries flow (Take key mode) node args
      (standers_take_next setup entries legal.waits flow key mode place stands) call

  greatest : (flow : ℕ) → flow < length setup.items → (key : Key) → FirstIsGreatest (modes_held entries flow key)
  greatest flow within key = first_takes_are_greatest setup entries legal.locks flow (legal.walks flow within) key

  module _ (locks : Locks) (is : IsTable entries locks) where
    -- ---- blocking

    pub holds-to : (other : ℕ) (key : Key) (mode : Mode) → HoldsAgainst (holders_of locks key) other mode
        → holds_against entries other key mode ≡ true
    holds-to other key mode holds = held-against (modes_held entries other key) holds.their mode
        (sym (is.holders key other) ∙ holds.holds) holds.against

    pub stands-to : (other flow : ℕ) (key : Key) (mode : Mode)
        → StandsAgainst (line_before (lines_of locks key) flow) other mode
        → StandsBefore entries other flow key mode
    stands-to other flow key mode stands =
        let (place, there, first) = before-stands entries key (lines_of locks key) (is.lines key) flow
        (record { flow = record { 0 = other }; mode = stands.their }) stands.stands in
        record { their = stands.their; place = place; stands = there; against = stands.against; first = first }

    pub free-to : (flow : ℕ) (key : Key) → holders_of locks key flow ≡ None → HoldsKey entries flow key → ⊥
    free-to flow key free holds = holds (held-none (modes_held entries flow key) (sym (is.holders key flow) ∙ free))

    pub blocks-to : (other flow : ℕ) (key : Key) (mode : Mode)
        → table.Blocks (holders_of locks key) (lines_of locks key) other flow mode → Blocks entries other flow key mode
    blocks-to other flow key mode blocks = record {
      free = free-to flow key blocks.free;
      apart = blocks.apart;
      cause = by blocks.cause;
    }
      where
        by : HoldsAgainst (holders_of locks key) other mode ⊎ StandsAgainst (line_before (lines_of locks key) flow)
            other mode
            → (holds_against entries other key mode ≡ true) ⊎ StandsBefore entries other flow key mode
        by (inl holds) = inl (holds-to other key mode holds)
        by (inr stands) = inr (stands-to other flow key mode stands)

    pub free-from : (flow : ℕ) (key : Key) → (HoldsKey entries flow key → ⊥) → holders_of locks key flow ≡ None
    free-from flow key free = is.holders key flow ∙ no_modes (modes_held entries flow key) free
      where
        no_modes : (modes : List Mode) → (modes ≢ [] → ⊥) → held_in modes ≡ None
        no_modes [] none = refl
        no_modes (m ∷ modes) none = absurd (none (λ e. cc))

    pub holds-from : (other : ℕ) (key : Key) (mode : Mode) → other < length setup.items
        → holds_against entries other key mode ≡ true → HoldsAgainst (holders_of locks key) other mode
    holds-from other key mode within = held (modes_held entries other key) (greatest other within key)
        (is.holders key other)
      where
        held : (modes : List Mode) → FirstIsGreatest modes → holders_of locks key other ≡ held_in modes
            → list_any (λ m. conflict m mode) modes ≡ true → HoldsAgainst (holders_of locks key) other mode
        held [] most same against = absurd (cc)
        held (m ∷ modes) most same against =
            record {
              their = one_more (held_in modes) m;
              holds = same;
              against = against-held (m ∷ modes) (one_more (held_in modes) m) mode most refl against;
            }

    pub stands-from : (other flow : ℕ) (key : Key) (mode : Mode) → other ≢ flow
        → StandsBefore entries other flow key mode → StandsAgainst (line_before (lines_of locks key) flow) other mode
    stands-from other flow key mode apart before = record {
      their = before.their;
      stands = stands-before entries key (lines_of locks key) (is.lines key) flow (record { 0 = other })
          before.their before.place apart before.stands before.first;
      against = before.against;
    }

    -- who blocks is a flow
    pub blocker-within : (other flow : ℕ) (key : Key) (mode : Mode) → IsNext setup entries flow (Take key mode)
        → Blocks entries other flow key mode → other < length setup.items
    blocker-within other flow key mode next blocks = let live = blockers_are_live setup entries legal flow other
        (record { key = key; mode = mode; next = next; blocked = blocks }) in live.item

    blocks-from : (other flow : ℕ) (key : Key) (mode : Mode) → IsNext setup entries flow (Take key mode)
        → Blocks entries other flow key mode
        → table.Blocks (holders_of locks key) (lines_of locks key) other flow mode
    blocks-from other flow key mode next blocks = record {
      free = free-from flow key blocks.free;
      apart = blocks.apart;
      cause = by blocks.cause;
    }
      where
        by : (holds_against entries other key mode ≡ true) ⊎ StandsBefore entries other flow key mode
            → HoldsAgainst (holders_of locks key) other mode ⊎ StandsAgainst (line_before (lines_of locks key) flow)
            other mode
        by (inl against) = inl (holds-from other key mode (blocker-within other flow key mode next blocks) against)
        by (inr before) = inr (stands-from other flow key mode blocks.apart before)

    -- the lowest flow that blocks is the lowest
    pub lowest-blocks : (flow : ℕ) (key : Key) (mode : Mode) → IsNext setup entries flow (Take key mode)
        → (lowest : Option FlowNo)
        → IsLowestOf (λ other. table.Blocks (holders_of locks key) (lines_of locks key) other flow mode) lowest
        → IsLowestOf (λ other. Blocks entries other flow key mode) lowest
    lowest-blocks flow key mode next lowest =
        lowest_same (λ other. table.Blocks (holders_of locks key) (lines_of locks key) other flow mode)
        (λ other. Blocks entries other flow key mode) lowest
        (λ other. blocks-to other flow key mode) (λ other. blocks-from other flow key mode next)

    -- ---- asking

    pub may-take : (flow : ℕ) (key : Key) (mode : Mode) → flow < length setup.items
        → IsNext setup entries flow (Take key mode) → MayTake (holders_of locks) (lines_of locks) flow key mode
    may-take flow key mode within next = record {
      enough = λ own holds. by own (sym (is.holders key flow) ∙ holds)
          (takes_go_up setup entries legal.locks flow key mode next);
      stands = λ other waiter there same.
          let (place, stands) = line-stands entries other (lines_of locks other) (is.lines other) waiter there in
          let e : Take key mode ≡ Take other waiter.mode =
          stands-next flow (Take key mode) next other waiter.mode place
          (subst (λ (f : ℕ). StandsAt entries f other waiter.mode place) same stands) in
          (cc e, cc e);
    }
      where
        some : (modes : List Mode) (own : Held) → held_in modes ≡ Some own
            → ((m : Mode) → Contains modes m → key.class.0 < key.class.0) → ⊥
        some [] own holds below = cc
        some (m ∷ modes) own holds below = omega (arith, below m (0, omega arith, refl))

        by : (own : Held) → held_in (modes_held entries flow key) ≡ Some own
            → HoldsEnough entries flow key mode ⊎ HoldsBelow entries flow key.class.0 → at_least own.mode mode ≡ true
        by own holds (inl enough) =
            held-enough (modes_held entries flow key) own enough.own mode (greatest flow within key) holds
            (in-from_contains (modes_held entries flow key) enough.own enough.held) enough.enough
        by own holds (inr below) = absurd (some (modes_held entries flow key) own holds (below key))

    pub may-wait : (flow other : ℕ) (key : Key) (mode : Mode) → Blocks entries other flow key mode
        → IsNext setup entries flow (Take key mode)
        → ((k : Key) (own : Mode) (place : ℕ) → StandsAt entries flow k own place → ⊥)
        → MayWait (holders_of locks) (lines_of locks) flow key
    may-wait flow other key mode blocks next nowhere = record {
      free = let b = blocks-from other flow key mode next blocks in b.free;
      stands = λ at waiter there same.
          let (place, stands) = line-stands entries at (lines_of locks at) (is.lines at) waiter there in
          nowhere at waiter.mode place (subst (λ (f : ℕ). StandsAt entries f at waiter.mode place) same stands);
    }

    pub may-release : (flow : ℕ) (key : Key) → IsNext setup entries flow (Drop key)
        → (held : Held) × (holders_of locks key flow ≡ Some held)
    may-release flow key next = by (modes_held entries flow key) (is.holders key flow)
        (drops_are_held setup entries legal.locks flow key next)
      where
        by : (modes : List Mode) → holders_of locks key flow ≡ held_in modes → modes ≢ []
            → (held : Held) × (holders_of locks key flow ≡ Some held)
        by [] same some = absurd (some refl)
        by (m ∷ modes) same some = (one_more (held_in modes) m, same)

    -- ---- a take that was undone

    module _ (flow : FlowNo) (key : Key) (mode : Mode) (between new : Locks)
        (takes : Takes locks between flow.0 key mode) (gives : Releases between new flow.0 key) where
      less-back : (h : Option Held) (modes : List Mode) → h ≡ held_in modes → one_less (Some (one_more h mode)) ≡ h
      less-back h modes same = ap (λ o. one_less (Some (one_more o mode))) same ∙ held-less mode modes ∙ sym same

      back-own : one_less (holders_of between key flow.0) ≡ holders_of locks key flow.0
      back-own = ap one_less (taken-holds locks between flow.0 key mode takes) ∙ less-back (holders_of locks key flow.0)
          (modes_held entries flow.0 key) (is.holders key flow.0)

      taken-else : (other : ℕ) → eqb flow.0 other ≡ false → holders_of between key other ≡ holders_of locks key other
      taken-else other apart =
          let now : Option Held = Some (one_more (holders_of locks key flow.0) mode) in
          ap (λ (h : Holders). h key other) takes.holders
          ∙ ap (λ (b : Bool). (cond b (with_held (holders_of locks key) flow.0 now) (holders_of locks key)) other)
          (same_key_itself key)
          ∙ ap (λ (b : Bool). cond b now (holders_of locks key other)) apart

      taken-elsewhere : (k : Key) (other : ℕ) → same_key key k ≡ false
          → holders_of between k other ≡ holders_of locks k other
      taken-elsewhere k other apart =
          let now : Option Held = Some (one_more (holders_of locks key flow.0) mode) in
          ap (λ (h : Holders). h k other) takes.holders
          ∙ ap (λ (b : Bool). (cond b (with_held (holders_of locks key) flow.0 now) (holders_of locks k)) other) apart

      back-at : (other : ℕ) (b : Bool) → eqb flow.0 other ≡ b
          → cond b (one_less (holders_of between key flow.0)) (holders_of between key other) ≡ holders_of locks key
          other
      back-at other true same = back-own ∙ ap (holders_of locks key) (eqb-true flow.0 other same)
      back-at other false apart = taken-else other apart

      back-holders : (k : Key) (other : ℕ) → holders_of new k other ≡ holders_of locks k other
      back-holders k other =
          let now : Option Held = one_less (holders_of between key flow.0) in
          ap (λ (h : Holders). h k other) gives.holders ∙ key_cases key k
          (λ same test. ap (λ (b : Bool). (cond b (with_held (holders_of between key) flow.0 now)
          (holders_of between k)) other) test
          ∙ back-at other (eqb flow.0 other) refl ∙ ap (λ (x : Key). holders_of locks x other) same)
          (λ test apart. ap (λ (b : Bool). (cond b (with_held (holders_of between key) flow.0 now)
          (holders_of between k)) other) test ∙ taken-elsewhere k other test)

      back-lines : ((m : Mode) (place : ℕ) → StandsAt entries flow.0 key m place → ⊥) → (k : Key)
          → lines_of new k ≡ lines_of locks k
      back-lines nowhere k =
          ap (λ (l : Lines). l k) (gives.lines ∙ takes.lines) ∙ key_cases key k
          (λ same test. ap (λ (b : Bool). cond b (line_without (lines_of locks key) flow.0) (lines_of locks k)) test
          ∙ line-unchanged entries key flow nowhere (lines_of locks key) (is.lines key) ∙ ap (lines_of locks) same)
          (λ test apart. ap (λ (b : Bool). cond b (line_without (lines_of locks key) flow.0) (lines_of locks k)) test)

      pub table-back : ((m : Mode) (place : ℕ) → StandsAt entries flow.0 key m place → ⊥) → IsTable entries new
      table-back nowhere = record {
        holders = λ k other. back-holders k other ∙ is.holders k other;
        lines = λ k. subst (IsLine entries k) (sym (back-lines nowhere k)) (is.lines k);
      }

    -- ---- one entry more

    module _ (flow : FlowNo) where
      abbrev more : Event → List Entry
      more event = entries ++ record { flow = flow; event = event } ∷ []

      abbrev Nowhere : Type 0
      Nowhere = (key : Key) (mode : Mode) (place : ℕ) → StandsAt entries flow.0 key mode place → ⊥

      quiet-held : (event : Event) → IsQuiet event → (key : Key) (modes : List Mode)
          → held_after key modes (event ∷ []) ≡ modes
      quiet-held (Take k mode) quiet key modes = absurd quiet
      quiet-held (Wait k mode) quiet key modes = absurd quiet
      quiet-held (Enter node) quiet key modes = refl
      quiet-held (Choose place) quiet key modes = refl
      quiet-held (Call made) quiet key modes = refl
      quiet-held (Exit node outcome) quiet key modes = refl
      quiet-held (Drop k) quiet key modes = absurd quiet
      quiet-held (End outcome) quiet key modes = refl

      quiet-away : (event : Event) → IsQuiet event → (key : Key) (mode : Mode) → event ≡ Wait key mode → ⊥
      quiet-away event quiet key mode e = subst IsQuiet e quiet

      -- what others hold is as it was
      held-other : (event : Event) (key : Key) (other : ℕ) → (flow.0 ≡ other → ⊥)
          → holders_of locks key other ≡ held_in (modes_held (more event) other key)
      held-other event key other apart = is.holders key other ∙ ap held_in
          (sym (modes_held-other entries flow event other key apart))

      -- an event that changes no keys
      pub table-quiet : (event : Event) → IsQuiet event → Nowhere → IsTable (more event) locks
      table-quiet event quiet nowhere = record {
        holders = λ key other. by key other (cases_eq flow.0 other);
        lines = λ key. line-still entries key flow event (quiet-away event quiet key) (nowhere key) (lines_of locks key)
            (is.lines key);
      }
        where
          by : (key : Key) (other : ℕ) → (flow.0 ≡ other) ⊎ (flow.0 ≡ other → ⊥)
              → holders_of locks key other ≡ held_in (modes_held (more event) other key)
          by key other (inr apart) = held-other event key other apart
          by key other (inl same) = subst (λ (f : ℕ). holders_of locks key f ≡ held_in (modes_held (more event) f key))
              same
              (is.holders key flow.0 ∙ ap held_in (sym
              (modes_held-own entries flow.0 event key ∙ quiet-held event quiet key
              (modes_held entries flow.0 key))))

      -- where one flow's holding of a key is changed as its modes are, the holders are as the journal says
      module _ (event : Event) (key : Key) (now : Option Held) (new : Locks)
          (changed : holders_of new ≡ with_holding (holders_of locks) key (with_held (holders_of locks key) flow.0 now))
          (here : now ≡ held_in (modes_held (more event) flow.0 key))
          (else : (other : Key) → same_key key other ≡ false
          → held_after other (modes_held entries flow.0 other) (event ∷ []) ≡ modes_held entries flow.0 other) where
        at_key : (other : ℕ) → (b : Bool) → eqb flow.0 other ≡ b
            → cond b now (holders_of locks key other) ≡ held_in (modes_held (more event) other key)
        at_key other true same = here ∙ ap (λ (f : ℕ). held_in (modes_held (more event) f key))
            (eqb-true flow.0 other same)
        at_key other false test = held-other event key other (λ e. false≢true (sym test ∙ eq-eqb flow.0 other e))

        at_other : (k : Key) → same_key key k ≡ false → (other : ℕ) → (flow.0 ≡ other) ⊎ (flow.0 ≡ other → ⊥)
            → holders_of locks k other ≡ held_in (modes_held (more event) other k)
        at_other k test other (inr apart) = held-other event k other apart
        at_other k test other (inl same) = subst (λ (f : ℕ). holders_of locks k f ≡ held_in
            (modes_held (more event) f k)) same
            (is.holders k flow.0 ∙ ap held_in (sym (modes_held-own entries flow.0 event k ∙ else k test)))

        holders-changed : (k : Key) (other : ℕ) → holders_of new k other ≡ held_in (modes_held (more event) other k)
        holders-changed k other = ap (λ (h : Holders). h k other) changed ∙ key_cases key k
            (λ same test. ap (λ (b : Bool). (cond b (with_held (holders_of locks key) flow.0 now) (holders_of locks k))
            other) test
            ∙ at_key other (eqb flow.0 other) refl ∙ ap (λ (x : Key). held_in (modes_held (more event) other x)) same)
            (λ test apart. ap (λ (b : Bool). (cond b (with_held (holders_of locks key) flow.0 now) (holders_of locks k))
            other) test
            ∙ at_other k test other (cases_eq flow.0 other))

      -- a take
      pub table-taken : (key : Key) (mode : Mode) (new : Locks) → IsNext setup entries flow.0 (Take key mode)
          → Takes locks new flow.0 key mode → IsTable (more (Take key mode)) new
      table-taken key mode new next takes = record {
        holders = holders-changed (Take key mode) key (Some (one_more (holders_of locks key flow.0) mode)) new
            takes.holders here else;
        lines = λ k. subst (λ (l : Lines). IsLine (more (Take key mode)) k (l k)) (sym takes.lines) (line k);
      }
        where
          here : Some (one_more (holders_of locks key flow.0) mode) ≡ held_in
              (modes_held (more (Take key mode)) flow.0 key)
          here =
              ap (λ h. Some (one_more h mode)) (is.holders key flow.0)
              ∙ ap held_in (sym (modes_held-own entries flow.0 (Take key mode) key
              ∙ ap (λ (b : Bool). cond b (mode ∷ modes_held entries flow.0 key) (modes_held entries flow.0 key))
              (same_key_itself key)))

          else : (other : Key) → same_key key other ≡ false
              → held_after other (modes_held entries flow.0 other) (Take key mode ∷ []) ≡ modes_held entries flow.0
              other
          else other test = ap (λ (b : Bool). cond b (mode ∷ modes_held entries flow.0 other)
              (modes_held entries flow.0 other)) test

          away : (k : Key) (own : Mode) → Take key mode ≡ Wait k own → ⊥
          away k own e = cc

          line : (k : Key) → IsLine (more (Take key mode)) k
              (with_line (lines_of locks) key (line_without (lines_of locks key) flow.0) k)
          line k = key_cases key k
              (λ same test. subst (λ (b : Bool). IsLine (more (Take key mode)) k
              (cond b (line_without (lines_of locks key) flow.0) (lines_of locks k))) (sym test)
              (subst (λ (x : Key). IsLine (more (Take key mode)) x (line_without (lines_of locks key) flow.0)) same
              (line-left entries key flow (Take key mode) (away key) (lines_of locks key) (is.lines key))))
              (λ test apart. subst (λ (b : Bool). IsLine (more (Take key mode)) k
              (cond b (line_without (lines_of locks key) flow.0) (lines_of locks k))) (sym test)
              (line-still entries k flow (Take key mode) (away k)
              (λ own place stands. let e = stands-next flow.0 (Take key mode) next k own place stands in apart (cc e))
              (lines_of locks k) (is.lines k)))

      -- a drop
      pub table-dropped : (key : Key) (new : Locks) → IsNext setup entries flow.0 (Drop key)
          → Releases locks new flow.0 key → IsTable (more (Drop key)) new
      table-dropped key new next releases = record {
        holders = holders-changed (Drop key) key (one_less (holders_of locks key flow.0)) new releases.holders here
            else;
        lines = λ k. subst (λ (l : Lines). IsLine (more (Drop key)) k (l k)) (sym releases.lines)
            (line-still entries k flow (Drop key) (λ own e. cc)
            (λ own place stands. let e = stands-next flow.0 (Drop key) next k own place stands in cc e)
            (lines_of locks k) (is.lines k));
      }
        where
          less : (modes : List Mode) → modes ≢ [] → one_less (held_in modes) ≡ held_in (without_first modes)
          less [] some = absurd (some refl)
          less (m ∷ modes) some = held-less m modes

          here : one_less (holders_of locks key flow.0) ≡ held_in (modes_held (more (Drop key)) flow.0 key)
          here =
              ap one_less (is.holders key flow.0)
              ∙ less (modes_held entries flow.0 key) (drops_are_held setup entries legal.locks flow.0 key next)
              ∙ ap held_in (sym (modes_held-own entries flow.0 (Drop key) key
              ∙ ap (λ (b : Bool). cond b (without_first (modes_held entries flow.0 key))
              (modes_held entries flow.0 key)) (same_key_itself key)))

          else : (other : Key) → same_key key other ≡ false
              → held_after other (modes_held entries flow.0 other) (Drop key ∷ []) ≡ modes_held entries flow.0 other
          else other test = ap (λ (b : Bool). cond b (without_first (modes_held entries flow.0 other))
              (modes_held entries flow.0 other)) test

      -- a wait
      pub table-waited : (key : Key) (mode : Mode) (new : Locks) → Nowhere → Waits locks new flow key mode
          → IsTable (more (Wait key mode)) new
      table-waited key mode new nowhere waits = record {
        holders = λ k other. ap (λ (h : Holders). h k other) waits.holders ∙ held k other (cases_eq flow.0 other);
        lines = λ k. subst (λ (l : Lines). IsLine (more (Wait key mode)) k (l k)) (sym waits.lines) (line k);
      }
        where
          held : (k : Key) (other : ℕ) → (flow.0 ≡ other) ⊎ (flow.0 ≡ other → ⊥)
              → holders_of locks k other ≡ held_in (modes_held (more (Wait key mode)) other k)
          held k other (inr apart) = held-other (Wait key mode) k other apart
          held k other (inl same) = subst (λ (f : ℕ). holders_of locks k f ≡ held_in
              (modes_held (more (Wait key mode)) f k)) same
              (is.holders k flow.0 ∙ ap held_in (sym (modes_held-own entries flow.0 (Wait key mode) k)))

          line : (k : Key) → IsLine (more (Wait key mode)) k
              (with_line (lines_of locks) key (lines_of locks key ++ record { flow = flow; mode = mode } ∷ []) k)
          line k = key_cases key k
              (λ same test. subst (λ (b : Bool). IsLine (more (Wait key mode)) k
              (cond b (lines_of locks key ++ record { flow = flow; mode = mode } ∷ []) (lines_of locks k)))
              (sym test)
              (subst (λ (x : Key). IsLine (more (Wait key mode)) x
              (lines_of locks key ++ record { flow = flow; mode = mode } ∷ [])) same
              (line-waited entries key flow mode (nowhere key) (lines_of locks key) (is.lines key))))
              (λ test apart. subst (λ (b : Bool). IsLine (more (Wait key mode)) k
              (cond b (lines_of locks key ++ record { flow = flow; mode = mode } ∷ []) (lines_of locks k)))
              (sym test)
              (line-still entries k flow (Wait key mode) (λ own e. apart (cc e)) (nowhere k) (lines_of locks k)
              (is.lines k)))
