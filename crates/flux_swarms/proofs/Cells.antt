-- The cell `swarms` after the entries of a journal.
use Rattle.std.proofs.Common.{◌≡◌, inl, inr, ℕ, pos, Bool, true, false, ◌&&◌, ◌||◌, cond, not, eqb, leb, int_lt, List, [], ◌∷◌, ◌++◌, map, length, codes, Option, Some, None, IsSome, refl, sym, ap, subst, ◌∙◌, append_assoc}
use Rattle.std.specs.List.{slice_get, AllByRecursion}
use Rattle.std.specs.FinMap.{get-empty}
use Rattle.std.specs.Ordering.{nat_cmp}
use Rattle.std.specs.Cmp.Lexicographic.{slice_cmp}
use Rattle.std.specs.Str.{bytes_eq}
use Rattle.std.proofs.lemmas.Grind.{flat_map-append}
use Rattle.std.proofs.lemmas.List.{append-nil, length-map}
use Rattle.std.proofs.lemmas.Slice.Eq.{bytes_eq-Decides}
use Rattle.flux_values.specs.declared.values.Value.{Value}
use Rattle.flux_values.specs.declared.values.Value.TheVariants as values
use Rattle.flux_values.specs.declared.answers.Answer.{Answer}
use Rattle.flux_values.specs.declared.answers.Mode.TheVariants.{Reader, Writer}
use Rattle.flux_values.specs.declared.answers.Put.{Put}
use Rattle.flux_values.specs.declared.meanings.Sig.{Sig}
use Rattle.flux_values.specs.declared.meanings.CellUse.{CellUse}
use Rattle.flux_values.specs.Cells.{CellMap, changed}
use Rattle.flux_values.specs.Meanings.{LibraryMeaning}
use Rattle.flux_values.specs.Values.{kind_of}
use Rattle.flux_values.specs.Reading.{IsValue}
use Rattle.flux_library.specs.Answers.{fails}
use Rattle.flux_library.specs.Libraries.{IsWrite, IsLawfulNode, IsLawful}
use Rattle.flux_model.specs.declared.programs.Program.{Program}
use Rattle.flux_model.specs.declared.programs.Class.{Class}
use Rattle.flux_model.specs.declared.programs.ClassNo.{ClassNo}
use Rattle.flux_model.specs.declared.programs.Node.{Node}
use Rattle.flux_model.specs.declared.programs.Body.{Body}
use Rattle.flux_model.specs.declared.programs.Body.TheVariants.{Concrete, Abstract}
use Rattle.flux_model.specs.declared.programs.SourceLine.{SourceLine}
use Rattle.flux_model.specs.declared.items.FlowNo.{FlowNo}
use Rattle.flux_model.specs.declared.items.Item.{Item}
use Rattle.flow_model.specs.declared.journals.CallMade.{CallMade}
use Rattle.flow_model.specs.declared.journals.Entry.{Entry}
use Rattle.flow_model.specs.declared.journals.Event.{Event}
use Rattle.flow_model.specs.declared.journals.Event.TheVariants.{Take, Wait, Enter, Choose, Call, Exit, Drop, End}
use Rattle.flow_model.specs.declared.journals.Key.{Key}
use Rattle.flow_model.specs.Keys.{Cells, class_key, session_number}
use Rattle.flow_model.specs.Setup.{Setup, item_of}
use Rattle.flow_model.specs.CellsAfter.{class_named, key_on, key_for, key_of, cell_key, put_under, after_puts, after_event, after_entries, cells_after}
use Rattle.flow_model.specs.Answers.{cell_at, cells_for, IsBodyAnswer, IsNodeAnswer}
use Rattle.flow_model.proofs.Keys.{key_cases, same_key_itself}
use Rattle.flux_laws.specs.Calls.{FitsFound, FitsBody, FitsNode}
use Rattle.flux_laws.proofs.Members.{In, in-right, contains-from_in}
use Rattle.flux_laws.proofs.AtCalls.{class-found}
use Rattle.nodes_tracker.specs.declared.asks.Ask.{Ask}
use Rattle.nodes_tracker.specs.declared.peers.Peer.{Peer}
use Rattle.nodes_tracker.specs.declared.nodes.Node as tracker
use Rattle.nodes_tracker.specs.declared.nodes.Node.TheVariants as nodes
use Rattle.nodes_tracker.specs.Nodes.{node_named, sig_of, ask_kinds}
use Rattle.nodes_tracker.specs.Swarms.{is_swarm, swarm_of, without}
use Rattle.nodes_tracker.specs.Replies.{joined}
use Rattle.nodes_tracker.specs.Calls.{swarm_name, swarm_in, put, swarm_put, completions_in, completions_name, one_more, moved, asking, stops, ask_given, on_ask, swarm_call, moved_call, answer_of}
use Rattle.nodes_tracker.specs.laws.Asks.{IsAsk}
use Rattle.flux_swarms.specs.Asked.{is_swarm_body, is_swarm_node, is_good, asked_by, asked_in, of_hash, asks_of}
use Rattle.flux_swarms.specs.Tracked.{HasTrackersNodes, UsesSwarms, IsTrackersAlone, HasClass, IsTrackers, key_of_class, swarm_after}
use Rattle.flux_swarms.specs.InTheCell.{HasLine, AreCallsRight, AreInTheCell, PeersAreInTheCell}
use Rattle.flux_swarms.specs.steps.Moves.{moved_by, moved_on, swarm_by}
use Rattle.flux_swarms.proofs.Moves.{peers_once}
use Rattle.flux_swarms.proofs.Swarmed.{changed_by, Has, answered, call_leads}

-- ---- names

no_swarm : true ≡ false → ⊥
no_swarm e = cc

-- the name of a node that is `Swarm`
named_swarm : (name : List ℕ) → node_named name ≡ Some nodes.Swarm → bytes_eq name (codes "Swarm") ≡ true
named_swarm name e = by (bytes_eq name (codes "Listen")) (bytes_eq name (codes "ReadAsk"))
    (bytes_eq name (codes "Swarm")) (bytes_eq name (codes "Scrape")) (bytes_eq name (codes "Send"))
    (bytes_eq name (codes "Failure")) (bytes_eq name (codes "Full")) e
  where
    by : (a b c d f g h : Bool) → cond a (Some nodes.Listen) (cond b (Some nodes.ReadAsk)
        (cond c (Some nodes.Swarm) (cond d (Some nodes.Scrape) (cond f (Some nodes.Send)
        (cond g (Some nodes.Failure) (cond h (Some nodes.Full) None)))))) ≡ Some nodes.Swarm → c ≡ true
    by true b c d f g h e = absurd cc
    by false true c d f g h e = absurd cc
    by false false true d f g h e = refl
    by false false false true f g h e = absurd cc
    by false false false false true g h e = absurd cc
    by false false false false false true h e = absurd cc
    by false false false false false false true e = absurd cc
    by false false false false false false false e = absurd cc

-- ---- which nodes write the cells

-- none of these uses is to write `swarms`
abbrev WritesNone : List CellUse → Type 0
WritesNone cells = (cell : CellUse) → In cell cells → cell.name ≡ codes "swarms" → cell.mode ≡ Writer → ⊥

-- of Tracker's nodes no other one writes it
trackers_none : (node : tracker.Node) → (node ≡ nodes.Swarm → ⊥) → WritesNone (let sig = sig_of node in sig.cells)
trackers_none nodes.Listen other cell is named writes = is
trackers_none nodes.ReadAsk other cell is named writes = is
trackers_none nodes.Swarm other cell is named writes = other refl
trackers_none nodes.Scrape other cell (inl same) named writes = let no : Reader ≡ Writer =
    ap (λ (c : CellUse). c.mode) same ∙ writes in cc
trackers_none nodes.Scrape other cell (inr is) named writes = is
trackers_none nodes.Send other cell is named writes = is
trackers_none nodes.Failure other cell is named writes = is
trackers_none nodes.Full other cell is named writes = is

module _ (setup : Setup) (class : ClassNo) (lawful : IsLawful setup.meaning) (has : HasTrackersNodes setup.meaning)
    (own : IsTrackers setup.meaning setup.program class) where
  -- a node of another name doesn't write it either
  others_none : (name : List ℕ) (sig : Sig) → setup.meaning.node name ≡ Some sig
      → IsTrackersAlone setup.meaning (Concrete name) → bytes_eq name (codes "Swarm") ≡ false
      → WritesNone sig.cells
  others_none name sig at alone other = by (node_named name) refl
    where
      by : (found : Option tracker.Node) → node_named name ≡ found → WritesNone sig.cells
      by None none cell is named writes =
          let uses : UsesSwarms (setup.meaning.node name) =
          rw at (cell, contains-from_in sig.cells cell is, named) in
          let some : IsSome (node_named name) = alone uses in
          let found : false ≡ true = rw none at some in no_swarm (sym found)
      by (Some node) there cell is named writes =
          let its = rw there at (has name) in
          let its_sig : setup.meaning.node name ≡ Some (sig_of node) = its.0 in
          let same : sig_of node ≡ sig = cc in
          subst (λ (s : Sig). WritesNone s.cells) same (trackers_none node (λ swarm.
          no_swarm (sym (named_swarm name (there ∙ ap Some swarm)) ∙ other))) cell is named writes

  -- ---- keys

  -- only under its own name there is the key
  key_named : (flow node : ℕ) (name : List ℕ) → cell_key setup flow node name ≡ Some (key_of_class class)
      → name ≡ codes "swarms"
  key_named flow node name on = by (class_named setup.program node name) refl on
    where
      same_class : (found : Option Class) (other : ClassNo) (number : ℕ)
          → class_key found other number ≡ key_of_class class → other ≡ class
      same_class None other number e = ap (λ (k : Key). k.class) e
      same_class (Some c) other number e = ap (λ (k : Key). k.class) e

      on_line : (item : Item) (line : Option SourceLine) (other : ClassNo)
          → key_on setup item line other ≡ Some (key_of_class class) → other ≡ class
      on_line item None other e = absurd cc
      on_line item (Some line) other e =
          same_class (slice_get setup.program.classes other.0) other
          (session_number setup.meaning line.session item.values) (cc e)

      on_item : (item : Option Item) (other : ClassNo) → key_for setup item other ≡ Some (key_of_class class)
          → other ≡ class
      on_item None other e = absurd cc
      on_item (Some item) other e = on_line item (slice_get setup.program.sources item.source.0) other e

      by : (found : Option ClassNo) → class_named setup.program node name ≡ found
          → key_of setup flow found ≡ Some (key_of_class class) → name ≡ codes "swarms"
      by None at e = absurd cc
      by (Some other) at e =
          let same = on_item (item_of setup flow) other e in
          let found = class-found setup.program node name other at in
          let wide = own.wide in
          let here : slice_get setup.program.classes class.0 ≡ Some found.found =
          ap (λ (c : ClassNo). slice_get setup.program.classes c.0) (sym same) ∙ found.at in
          let one : Some found.found ≡ Some (record { name = codes "swarms"; session = false }) =
          sym here ∙ wide in
          let class_ : found.found ≡ record { name = codes "swarms"; session = false } = cc in
          sym found.named ∙ ap (λ (c : Class). c.name) class_

  -- and a node that has the class has it there
  key_there : (flow node : ℕ) → HasLine setup.program (item_of setup flow)
      → class_named setup.program node (codes "swarms") ≡ Some class
      → cell_key setup flow node (codes "swarms") ≡ Some (key_of_class class)
  key_there flow node line at = ap (key_of setup flow) at ∙ by (item_of setup flow) line
    where
      on : (item : Item) (found : Option SourceLine) → IsSome found
          → key_on setup item found class ≡ Some (key_of_class class)
      on item None is = absurd cc
      on item (Some there) is = let wide = own.wide in
          ap (λ (c : Option Class). Some (class_key c class
          (session_number setup.meaning there.session item.values))) wide

      by : (item : Option Item) → HasLine setup.program item
          → key_for setup item class ≡ Some (key_of_class class)
      by None is = absurd is
      by (Some item) is = on item (slice_get setup.program.sources item.source.0) is

  -- ---- puts

  -- puts into other cells leave it as it was
  puts_apart : (flow node : ℕ) (puts : List Put)
      → AllByRecursion (λ put. put.cell ≡ codes "swarms" → ⊥) puts → (cells : Cells)
      → after_puts setup flow node cells puts (key_of_class class) ≡ cells (key_of_class class)
  puts_apart flow node [] all cells = refl
  puts_apart flow node (put ∷ puts) all cells =
      puts_apart flow node puts all.1 (put_under cells put (cell_key setup flow node put.cell))
      ∙ by (cell_key setup flow node put.cell) refl
    where
      by : (there : Option Key) → cell_key setup flow node put.cell ≡ there
          → put_under cells put there (key_of_class class) ≡ cells (key_of_class class)
      by None at = refl
      by (Some key) at = key_cases key (key_of_class class)
          (λ same _. absurd (all.0 (key_named flow node put.cell (at ∙ ap Some same))))
          (λ different _. ap (λ (b : Bool). cond b (changed (cells (key_of_class class)) put.name put.value)
          (cells (key_of_class class))) different)

  -- and puts into it change it, one after another
  puts_there : (flow node : ℕ) (puts : List Put)
      → cell_key setup flow node (codes "swarms") ≡ Some (key_of_class class)
      → AllByRecursion (λ put. put.cell ≡ codes "swarms") puts → (cells : Cells)
      → after_puts setup flow node cells puts (key_of_class class)
      ≡ changed_by (cells (key_of_class class)) puts
  puts_there flow node [] at all cells = refl
  puts_there flow node (put ∷ puts) at all cells =
      let key = key_of_class class in
      let here : cell_key setup flow node put.cell ≡ Some key =
      ap (cell_key setup flow node) all.0 ∙ at in
      let one : put_under cells put (cell_key setup flow node put.cell) key
      ≡ changed (cells key) put.name put.value =
      ap (λ (k : Option Key). put_under cells put k key) here
      ∙ ap (λ (b : Bool). cond b (changed (cells key) put.name put.value) (cells key))
      (same_key_itself key) in
      puts_there flow node puts at all.1 (put_under cells put (cell_key setup flow node put.cell))
      ∙ ap (λ (cell : CellMap). changed_by cell puts) one

  puts_foreign : (cells : List CellUse) → WritesNone cells → (puts : List Put)
      → AllByRecursion (IsWrite cells) puts → AllByRecursion (λ put. put.cell ≡ codes "swarms" → ⊥) puts
  puts_foreign cells none [] all = tt
  puts_foreign cells none (put ∷ puts) all =
      let write = all.0 in
      let among = subst (λ (cs : List CellUse). In write.use_ cs) (sym write.among)
      (in-right write.before (write.use_ ∷ write.after) write.use_ (inl refl)) in
      (λ e. none write.use_ among (write.name ∙ e) write.mode, puts_foreign cells none puts all.1)

-- a call of `Swarm` puts only there
abbrev AreThere : List Put → Type 0
AreThere puts = AllByRecursion (λ put. put.cell ≡ codes "swarms") puts

swarm_puts : (ask : Ask) (cell : CellMap) → AreThere (let answer = swarm_call ask cell in answer.puts)
swarm_puts ask cell = by (not (eqb (length ask.hash) 20)
    || (not (eqb (length ask.peer) 6) || int_lt ask.left (pos 0)))
    (not (stops ask.action) && leb 1000 (length others))
  where
    others : List Peer
    others = without ask.peer (swarm_in cell ask.hash)

    new : List Peer
    new = moved ask.action (asking ask) others

    first : (swarm : List Peer) → (let it = swarm_put ask.hash swarm in it.cell) ≡ codes "swarms"
    first [] = refl
    first (p ∷ ps) = refl

    more : (b : Bool) → AreThere
        (cond b (put (completions_name ask.hash) (Some (values.Int (one_more (completions_in cell ask.hash)))) ∷ []) [])
    more true = (refl, tt)
    more false = tt

    by : (a b : Bool) → AreThere (let answer = cond a (fails 4) (cond b (fails 3)
        (moved_call ask cell new (joined others))) in answer.puts)
    by true b = tt
    by false true = tt
    by false false = (first new, more (bytes_eq ask.action (codes "completed")))

-- values of the kinds of an ask are one
one_ask : (P : Option Ask → Type 0) → ((ask : Ask) → IsAsk ask → P (Some ask)) → (args : List Value)
    → map kind_of args ≡ ask_kinds → AllByRecursion IsValue args → P (ask_given args)
one_ask P call (values.Text action ∷ values.Text hash ∷ values.Text peer ∷ values.Int left ∷ []) e all =
    call (record { action = action; hash = hash; peer = peer; left = left })
    (record { action_ = all.0; hash_ = all.1.0; peer_ = all.1.1.0; left_ = all.1.1.1.0 })
one_ask P call args e all = absurd cc

-- ---- one call

module _ (setup : Setup) (class : ClassNo) (lawful : IsLawful setup.meaning) (has : HasTrackersNodes setup.meaning)
    (own : IsTrackers setup.meaning setup.program class) (hash : List ℕ) (flow : ℕ) (made : CallMade)
    (cells : Cells) (swarm : List Peer) (before : Has (cells (key_of_class class)) hash swarm)
    (line : HasLine setup.program (item_of setup flow)) where
  -- after the call the cell has the swarm as what it asked moves it
  Behind : Type 0
  Behind = Has (after_puts setup flow made.node.0 cells (let answer = made.answer in answer.puts) (key_of_class class))
      hash (moved_on swarm (of_hash hash (asked_by setup.program made)))

  is_here : Bool
  is_here = is_swarm_node (slice_get setup.program.nodes made.node.0)

  -- a node that isn't `Swarm`
  foreign : (name : List ℕ) (sig : Sig) → setup.meaning.node name ≡ Some sig
      → IsTrackersAlone setup.meaning (Concrete name) → bytes_eq name (codes "Swarm") ≡ false
      → is_here ≡ false → FitsFound (Some sig) made.args
      → made.answer ≡ setup.meaning.call name made.args (cells_for setup flow made.node.0 cells (Some sig)) → Behind
  unfolding Behind is_here
  foreign name sig at alone other here fits right =
      let read = cells_for setup flow made.node.0 cells (Some sig) in
      let law : IsLawfulNode (Some sig) (setup.meaning.call name) = rw at at (lawful.nodes name) in
      let ks = fits.kinds in
      let answer = law.answers made.args read
      (record { role = fits.role; kinds = ks.have; cells_ = length-map sig.cells _ }) ks.each in
      let puts : AllByRecursion (IsWrite sig.cells) (let a = made.answer in a.puts) = rw right answer.puts in
      let apart = puts_foreign setup class lawful has own sig.cells
      (others_none setup class lawful has own name sig at alone other) (let a = made.answer in a.puts) puts in
      let same = puts_apart setup class lawful has own flow made.node.0 (let a = made.answer in a.puts) apart cells in
      let none : asked_by setup.program made ≡ None =
      ap (λ (b : Bool). cond (b && is_good (let a = made.answer in a.result)) (ask_given made.args) None) here in
      record {
        is = ap (λ (cell : CellMap). swarm_in cell hash) same ∙ before.is
            ∙ ap (λ (o : Option Ask). moved_on swarm (of_hash hash o)) (sym none);
        valid = ap (λ (o : Option Ask). is_swarm (moved_on swarm (of_hash hash o))) none ∙ before.valid;
      }

  -- a `Swarm` node
  swarms : (sig : Sig) → sig ≡ sig_of nodes.Swarm → class_named setup.program made.node.0 (codes "swarms") ≡ Some class
      → is_here ≡ true → FitsFound (Some sig) made.args
      → made.answer ≡ answer_of nodes.Swarm made.args (cells_for setup flow made.node.0 cells (Some sig)) → Behind
  unfolding Behind is_here
  swarms sig same at here fits right =
      let ks = fits.kinds in
      one_ask Told told made.args (ks.have ∙ ap (λ (s : Sig). s.ins) same) ks.each refl
      (right ∙ ap (λ (s : Sig). answer_of nodes.Swarm made.args (cells_for setup flow made.node.0 cells (Some s))) same
      ∙ ap (λ (k : Option Key). on_ask swarm_call (ask_given made.args) (cell_at cells k ∷ [])) there)
    where
      key : Key
      key = key_of_class class

      there : cell_key setup flow made.node.0 (codes "swarms") ≡ Some key
      there = key_there setup class lawful has own flow made.node.0 line at

      Told : Option Ask → Type 0
      Told given = ask_given made.args ≡ given → made.answer ≡ on_ask swarm_call given (cells key ∷ [])
          → Has (after_puts setup flow made.node.0 cells (let a = made.answer in a.puts) key) hash
          (moved_on swarm (of_hash hash (asked_by setup.program made)))

      -- what the call leads to, for its answer
      leads : (ask : Ask) → IsAsk ask → (answer : Answer) → answer ≡ swarm_call ask (cells key)
          → Has (after_puts setup flow made.node.0 cells answer.puts key) hash
          (moved_on swarm (of_hash hash (answered ask answer.result)))
      leads ask valid answer is =
          let call = swarm_call ask (cells key) in
          let puts = puts_there setup class lawful has own flow made.node.0 call.puts there
          (swarm_puts ask (cells key)) cells in
          subst (λ (a : Answer). Has (after_puts setup flow made.node.0 cells a.puts key) hash
          (moved_on swarm (of_hash hash (answered ask a.result)))) (sym is)
          (subst (λ (cell : CellMap). Has cell hash (moved_on swarm (of_hash hash (answered ask call.result))))
          (sym puts) (call_leads ask valid (cells key) hash swarm before))

      told : (ask : Ask) → IsAsk ask → Told (Some ask)
      told ask valid given is =
          let asked : asked_by setup.program made ≡ answered ask (let a = made.answer in a.result) =
          ap (λ (b : Bool). cond (b && is_good (let a = made.answer in a.result)) (ask_given made.args) None) here
          ∙ ap (λ (o : Option Ask). cond (is_good (let a = made.answer in a.result)) o None) given in
          subst (λ (o : Option Ask). Has (after_puts setup flow made.node.0 cells (let a = made.answer in a.puts) key)
          hash (moved_on swarm (of_hash hash o))) (sym asked) (leads ask valid made.answer is)

  by_sig : (name : List ℕ) (found : Option Sig) → setup.meaning.node name ≡ found
      → is_here ≡ bytes_eq name (codes "Swarm") → IsTrackersAlone setup.meaning (Concrete name)
      → HasClass setup.program class made.node.0 (Concrete name) → FitsFound found made.args
      → made.answer ≡ setup.meaning.call name made.args (cells_for setup flow made.node.0 cells found) → Behind
  by_sig name None at here alone held fits right = absurd fits
  by_sig name (Some sig) at here alone held fits right = by (bytes_eq name (codes "Swarm")) refl
    where
      by : (b : Bool) → bytes_eq name (codes "Swarm") ≡ b → Behind
      by false other = foreign name sig at alone other (here ∙ other) fits right
      by true it =
          let same = (bytes_eq-Decides name (codes "Swarm")).0 it in
          let its : (setup.meaning.node (codes "Swarm") ≡ Some (sig_of nodes.Swarm))
          × (setup.meaning.call (codes "Swarm") ≡ answer_of nodes.Swarm) = has (codes "Swarm") in
          let node_ : Some sig ≡ Some (sig_of nodes.Swarm) =
          sym at ∙ ap (λ (n : List ℕ). setup.meaning.node n) same ∙ its.0 in
          let sig_ : sig ≡ sig_of nodes.Swarm = cc in
          let call_ : setup.meaning.call name ≡ answer_of nodes.Swarm =
          ap (λ (n : List ℕ). setup.meaning.call n) same ∙ its.1 in
          swarms sig sig_ (held same) (here ∙ it) fits
          (right ∙ ap (λ (f : List Value → List CellMap → Answer).
          f made.args (cells_for setup flow made.node.0 cells (Some sig))) call_)

  by_body : (body : Body) → is_here ≡ is_swarm_body body → IsTrackersAlone setup.meaning body
      → HasClass setup.program class made.node.0 body → FitsBody setup.meaning body made.args
      → IsBodyAnswer setup flow cells body made → Behind
  by_body (Concrete name) here alone held fits right =
      by_sig name (setup.meaning.node name) refl here alone held fits right
  by_body (Abstract cases) here alone held fits right = absurd right

  by_node : (found : Option Node) → slice_get setup.program.nodes made.node.0 ≡ found
      → FitsNode setup.meaning found made.args → IsNodeAnswer setup flow cells found made → Behind
  unfolding is_here
  by_node None at fits right = absurd right
  by_node (Some node) at fits right = by_body node.body (ap is_swarm_node at)
      (own.alone made.node.0 node at) (own.swarm made.node.0 node at) fits right

  pub call_moves : FitsNode setup.meaning (slice_get setup.program.nodes made.node.0) made.args
      → IsNodeAnswer setup flow cells (slice_get setup.program.nodes made.node.0) made
      → Has (after_puts setup flow made.node.0 cells (let answer = made.answer in answer.puts) (key_of_class class))
      hash (moved_on swarm (of_hash hash (asked_by setup.program made)))
  unfolding Behind
  call_moves fits right = by_node (slice_get setup.program.nodes made.node.0) refl fits right

-- ---- all entries

after-append : (setup : Setup) (cells : Cells) (a b : List Entry)
    → after_entries setup cells (a ++ b) ≡ after_entries setup (after_entries setup cells a) b
after-append setup cells [] b = refl
after-append setup cells (entry ∷ a) b = after-append setup (after_event setup entry.flow.0 cells entry.event) a b

on-append : (swarm : List Peer) (a b : List Ask) → moved_on swarm (a ++ b) ≡ moved_on (moved_on swarm a) b
on-append swarm [] b = refl
on-append swarm (ask ∷ a) b = on-append (moved_by ask swarm) a b

asks-more : (p : Program) (hash : List ℕ) (entries : List Entry) (entry : Entry)
    → asks_of p hash (entries ++ entry ∷ []) ≡ asks_of p hash entries ++ of_hash hash (asked_in p entry.event)
asks-more p hash entries entry =
    flat_map-append (λ (e : Entry). of_hash hash (asked_in p e.event)) entries (entry ∷ [])
    ∙ ap (λ (more : List Ask). asks_of p hash entries ++ more) (append-nil (of_hash hash (asked_in p entry.event)))

module _ (setup : Setup) (class : ClassNo) (lawful : IsLawful setup.meaning) (has : HasTrackersNodes setup.meaning)
    (own : IsTrackers setup.meaning setup.program class) (hash : List ℕ) (entries : List Entry)
    (right : AreCallsRight setup entries) where
  -- the cell has the swarm after these entries
  After : List Entry → Type 0
  After done = Has (cells_after setup done (key_of_class class)) hash (swarm_by setup.program hash done)

  one_event : (done rest : List Entry) (flow : FlowNo) (event : Event)
      → entries ≡ done ++ record { flow = flow; event = event } ∷ rest → After done
      → Has (after_event setup flow.0 (cells_after setup done) event (key_of_class class)) hash
      (moved_on (swarm_by setup.program hash done) (of_hash hash (asked_in setup.program event)))
  unfolding After
  one_event done rest flow (Call made) stands is =
      let fit = right.fit done rest flow made stands in
      call_moves setup class lawful has own hash flow.0 made (cells_after setup done)
      (swarm_by setup.program hash done) is fit.0 fit.1 (right.answers done rest flow made stands)
  one_event done rest flow (Take key mode) stands is = is
  one_event done rest flow (Wait key mode) stands is = is
  one_event done rest flow (Enter node) stands is = is
  one_event done rest flow (Choose place) stands is = is
  one_event done rest flow (Exit node outcome) stands is = is
  one_event done rest flow (Drop key) stands is = is
  one_event done rest flow (End outcome) stands is = is

  one_more_entry : (done rest : List Entry) (entry : Entry) → entries ≡ done ++ entry ∷ rest → After done
      → After (done ++ entry ∷ [])
  unfolding After
  one_more_entry done rest entry stands is =
      let cells = after-append setup setup.opening done (entry ∷ []) in
      let asks = ap (moved_on []) (asks-more setup.program hash done entry)
      ∙ on-append [] (asks_of setup.program hash done) (of_hash hash (asked_in setup.program entry.event)) in
      let step = one_event done rest entry.flow entry.event stands is in
      record {
        is = ap (λ (cs : Cells). swarm_in (cs (key_of_class class)) hash) cells ∙ step.is ∙ sym asks;
        valid = ap is_swarm asks ∙ step.valid;
      }

  all_entries : (done rest : List Entry) → entries ≡ done ++ rest → After done → After entries
  all_entries done [] stands is = subst After (sym (stands ∙ append-nil done)) is
  all_entries done (entry ∷ rest) stands is =
      all_entries (done ++ entry ∷ []) rest (stands ∙ sym (append_assoc done (entry ∷ []) rest))
      (one_more_entry done rest entry stands is)

  at_first : After []
  unfolding After
  at_first = record {
    is = ap (λ (cs : Cells). swarm_in (cs (key_of_class class)) hash) right.empty
        ∙ ap swarm_of (get-empty (slice_cmp nat_cmp) (swarm_name hash));
    valid = refl;
  }

  pub swarm_kept : swarm_after setup entries class hash ≡ swarm_by setup.program hash entries
  unfolding After
  swarm_kept = let last = all_entries [] entries refl at_first in last.is

pub peers_are_in_the_cell : PeersAreInTheCell
peers_are_in_the_cell setup class entries hash peers lawful has own right are =
    peers_once setup.program entries hash peers are
    ∙ sym (swarm_kept setup class lawful has own hash entries right)

-- so it is in every setup of a program and a library
pub are_in_the_cell : (meaning : LibraryMeaning) (p : Program) (entries : List Entry) (hash : List ℕ)
    → IsLawful meaning → AreInTheCell meaning p entries hash (swarm_by p hash entries)
are_in_the_cell meaning p entries hash lawful setup class program_ meaning_ has own right =
    let lawful_ = subst IsLawful (sym meaning_) lawful in
    let has_ = subst HasTrackersNodes (sym meaning_) has in
    let own_ : IsTrackers setup.meaning setup.program class =
    subst (λ (m : LibraryMeaning). IsTrackers m setup.program class) (sym meaning_)
    (subst (λ (q : Program). IsTrackers meaning q class) (sym program_) own) in
    ap (λ (q : Program). swarm_by q hash entries) (sym program_)
    ∙ sym (swarm_kept setup class lawful_ has_ own_ hash entries right)
