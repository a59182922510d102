-- The addresses of the peers that `swarm` lists have six bytes each.
use Rattle.std.proofs.Common.{◌≡◌, ◌⊎◌, inl, inr, ℕ, Bool, true, false, ◌&&◌, ◌||◌, not, cond, eqb, int_lt, pos, List, [], ◌∷◌, ◌++◌, length, map, codes, Option, Some, None, refl, sym, ap, subst, ◌∙◌, append_assoc, arith}
use Rattle.std.specs.List.{AllByRecursion, flat_map, slice_get}
use Rattle.std.specs.Option.{option_or}
use Rattle.std.specs.Str.{bytes_eq}
use Rattle.std.proofs.lemmas.Bool.Decides.{nat_tests}
use Rattle.std.proofs.lemmas.Slice.Eq.{bytes_eq-Decides}
use Rattle.flux_values.specs.declared.answers.Answer.{Answer}
use Rattle.flux_values.specs.Cells.{CellMap}
use Rattle.flux_model.specs.declared.programs.Program.{Program}
use Rattle.flux_model.specs.declared.programs.Node.{Node}
use Rattle.flux_model.specs.declared.programs.Body.{Body}
use Rattle.flux_model.specs.declared.programs.Body.TheVariants.{Concrete, Abstract}
use Rattle.flux_model.specs.declared.items.FlowNo.{FlowNo}
use Rattle.flow_model.specs.declared.journals.CallMade.{CallMade}
use Rattle.flow_model.specs.declared.journals.Event.{Event}
use Rattle.flow_model.specs.declared.journals.Event.TheVariants.{Take, Wait, Enter, Choose, Call, Exit, Drop, End}
use Rattle.flow_model.specs.declared.journals.Entry.{Entry}
use Rattle.flow_model.specs.Setup.{Setup}
use Rattle.flow_model.specs.Keys.{Cells}
use Rattle.flow_model.specs.CellsAfter.{cells_after}
use Rattle.flow_model.specs.Answers.{cells_for, answer_of, IsBodyAnswer, IsNodeAnswer, AreAnswersRight}
use Rattle.flux_laws.proofs.Members.{In, in-from_contains, contains-from_in}
use Rattle.nodes_tracker.specs.declared.asks.Ask.{Ask}
use Rattle.nodes_tracker.specs.declared.peers.Peer.{Peer}
use Rattle.nodes_tracker.specs.Calls.{ask_given, on_ask, swarm_call}
use Rattle.nodes_tracker.specs.Trackers.{tracker_meaning}
use Rattle.flux_swarms.specs.Asked.{is_swarm_node, is_swarm_body, is_good, asked_by, asked_in, of_hash, asks_of, last_of}
use Rattle.flux_swarms.specs.Peers.{Leaves, ArePeersOf}
use Rattle.flux_swarms.specs.Tracked.{HasTrackersNodes}
use Rattle.flux_upheld.proofs.Keyed.{all-in, all-from_in}

abbrev HasSix : Ask → Type 0
HasSix ask = length ask.peer ≡ 6

-- ---- a good call

or-false : (a b : Bool) → (a || b) ≡ false → (a ≡ false) × (b ≡ false)
or-false true b e = absurd cc
or-false false b e = (refl, e)

swarm-six : (ask : Ask) (cell : CellMap) → (let answer : Answer = swarm_call ask cell in is_good answer.result ≡ true) → HasSix ask
swarm-six ask cell good = by (not (eqb (length ask.hash) 20) || (not (eqb (length ask.peer) 6) || int_lt ask.left (pos 0))) refl good
  where
    by : (b : Bool) → (not (eqb (length ask.hash) 20) || (not (eqb (length ask.peer) 6) || int_lt ask.left (pos 0))) ≡ b → (let answer : Answer = swarm_call ask cell in is_good answer.result ≡ true) → HasSix ask
    by true e own = let h : false ≡ true = rw e at own in absurd cc
    by false e own =
        let first = or-false (not (eqb (length ask.hash) 20)) (not (eqb (length ask.peer) 6) || int_lt ask.left (pos 0)) e in
        let second = or-false (not (eqb (length ask.peer) 6)) (int_lt ask.left (pos 0)) first.1 in
        let six : not (eqb (length ask.peer) 6) ≡ false = second.0 in
        grind (arith, nat_tests, six)

module _ (setup : Setup) (tracker : HasTrackersNodes setup.meaning) where
  named-six : (flow : ℕ) (cells : Cells) (made : CallMade) (ask : Ask) → made.answer ≡ answer_of setup flow cells (codes "Swarm") made → (let answer = made.answer in is_good answer.result ≡ true) → ask_given made.args ≡ Some ask → HasSix ask
  named-six flow cells made ask right good given =
      let own = tracker (codes "Swarm") in
      let read = cells_for setup flow made.node.0 cells (setup.meaning.node (codes "Swarm")) in
      let same : made.answer ≡ on_ask swarm_call (ask_given made.args) read = right ∙ ap (λ (call : _). call made.args read) own.1 in
      one read (rw own.0 refl) (sym same)
    where
      one : (read : List CellMap) → length read ≡ 1 → on_ask swarm_call (ask_given made.args) read ≡ made.answer → HasSix ask
      one [] many e = absurd (omega (arith, many))
      one (cell ∷ next ∷ more) many e = absurd (omega (arith, many))
      one (cell ∷ []) many e =
          let is : on_ask swarm_call (Some ask) (cell ∷ []) ≡ made.answer = rw given at e in
          swarm-six ask cell (subst (λ (a : Answer). is_good a.result ≡ true) (sym is) good)

  asked-six : (flow : ℕ) (cells : Cells) (made : CallMade) (ask : Ask) → IsNodeAnswer setup flow cells (slice_get setup.program.nodes made.node.0) made → asked_by setup.program made ≡ Some ask → HasSix ask
  asked-six flow cells made ask right asked = by (slice_get setup.program.nodes made.node.0) right asked
    where
      on : (name : List ℕ) (b c : Bool) → bytes_eq name (codes "Swarm") ≡ b → (let answer = made.answer in is_good answer.result ≡ c) → IsBodyAnswer setup flow cells (Concrete name) made → cond (b && c) (ask_given made.args) None ≡ Some ask → HasSix ask
      on name false c e good own asked_ = absurd cc
      on name true false e good own asked_ = absurd cc
      on name true true e good own asked_ =
          let same : name ≡ codes "Swarm" = (bytes_eq-Decides name (codes "Swarm")).0 e in
          named-six flow cells made ask (subst (λ (n : List ℕ). made.answer ≡ answer_of setup flow cells n made) same own) good asked_

      body : (b : Body) → IsBodyAnswer setup flow cells b made → (let answer = made.answer in cond (is_swarm_body b && is_good answer.result) (ask_given made.args) None ≡ Some ask) → HasSix ask
      body (Concrete name) own asked_ = on name (bytes_eq name (codes "Swarm")) (let answer = made.answer in is_good answer.result) refl refl own asked_
      body (Abstract cases) own asked_ = absurd own

      by : (found : Option Node) → IsNodeAnswer setup flow cells found made → (let answer = made.answer in cond (is_swarm_node found && is_good answer.result) (ask_given made.args) None ≡ Some ask) → HasSix ask
      by None own asked_ = absurd own
      by (Some node) own asked_ = body node.body own asked_

  -- ---- the asks of a journal

  module _ (entries : List Entry) (right : AreAnswersRight setup entries) (hash : List ℕ) where
    event-six : (event : Event) → ((made : CallMade) → event ≡ Call made → (ask : Ask) → asked_by setup.program made ≡ Some ask → HasSix ask) → AllByRecursion HasSix (of_hash hash (asked_in setup.program event))
    event-six (Call made) each = by (asked_by setup.program made) (λ ask e. each made refl ask e)
      where
        by : (found : Option Ask) → ((ask : Ask) → found ≡ Some ask → HasSix ask) → AllByRecursion HasSix (of_hash hash found)
        by None own = tt
        by (Some ask) own = one (bytes_eq ask.hash hash) (own ask refl)
          where
            one : (b : Bool) → HasSix ask → AllByRecursion HasSix (cond b (ask ∷ []) [])
            one true six = (six, tt)
            one false six = tt
    event-six (Take key mode) each = tt
    event-six (Wait key mode) each = tt
    event-six (Enter node) each = tt
    event-six (Choose place) each = tt
    event-six (Exit node outcome) each = tt
    event-six (Drop key) each = tt
    event-six (End outcome) each = tt

    all-both : (a b : List Ask) → AllByRecursion HasSix a → AllByRecursion HasSix b → AllByRecursion HasSix (a ++ b)
    all-both [] b one two = two
    all-both (x ∷ a) b one two = (one.0, all-both a b one.1 two)

    asks-six : (before after : List Entry) → entries ≡ before ++ after → AllByRecursion HasSix (asks_of setup.program hash after)
    asks-six before [] is = tt
    asks-six before (entry ∷ after) is =
        all-both (of_hash hash (asked_in setup.program entry.event)) (asks_of setup.program hash after)
        (event-six entry.event (λ made e ask asked.
        let stands : entries ≡ before ++ record { flow = entry.flow; event = Call made } ∷ after = is ∙ ap (λ (event : Event). before ++ record { flow = entry.flow; event = event } ∷ after) e in
        asked-six entry.flow.0 (cells_after setup before) made ask (right before after entry.flow made stands) asked))
        (asks-six (before ++ entry ∷ []) after (is ∙ sym (append_assoc before (entry ∷ []) after)))

    last-six : (address : List ℕ) (asks : List Ask) → AllByRecursion HasSix asks → (ask : Ask) → last_of address asks ≡ Some ask → length address ≡ 6
    last-six address [] all ask e = absurd cc
    last-six address (own ∷ asks) all ask e = by (last_of address asks) (λ other f. last-six address asks all.1 other f) e
      where
        here : (b : Bool) → bytes_eq own.peer address ≡ b → cond b (Some own) None ≡ Some ask → length address ≡ 6
        here true same f = subst (λ (a : List ℕ). length a ≡ 6) ((bytes_eq-Decides own.peer address).0 same) all.0
        here false same f = absurd cc

        by : (found : Option Ask) → ((other : Ask) → found ≡ Some other → length address ≡ 6) → option_or found (cond (bytes_eq own.peer address) (Some own) None) ≡ Some ask → length address ≡ 6
        by (Some other) more f = more other refl
        by None more f = here (bytes_eq own.peer address) refl f

    -- each peer's address has six bytes
    pub addresses-six : (peers : List Peer) → ArePeersOf setup.program entries hash peers → AllByRecursion (λ peer. length peer.address ≡ 6) peers
    addresses-six peers are = all-from_in (λ (peer : Peer). length peer.address ≡ 6) peers (λ peer is. one peer (last_of peer.address (asks_of setup.program hash entries)) refl ((are.each peer).0 (contains-from_in peers peer is)))
      where
        one : (peer : Peer) (found : Option Ask) → last_of peer.address (asks_of setup.program hash entries) ≡ found → Leaves found peer.left → length peer.address ≡ 6
        one peer None e leaves = absurd leaves
        one peer (Some ask) e leaves = last-six peer.address (asks_of setup.program hash entries) (asks-six [] entries refl) ask e
