-- While a flow is at a call, other flows put nothing into the cells that the call reads.
use Rattle.std.proofs.Common.{◌≡◌, ◌≢◌, ℕ, Bool, true, false, cond, eqb, List, [], ◌∷◌, ◌++◌, map, Option, Some, None, IfSome, refl, sym, ap, subst, ◌∙◌, append_assoc}
use Rattle.std.specs.List.{slice_get, flat_map, AllByRecursion}
use Rattle.std.proofs.lemmas.Bool.{eqb-false}
use Rattle.std.proofs.lemmas.List.{append-nil, length-map}
use Rattle.flux_values.specs.declared.values.Value.{Value}
use Rattle.flux_values.specs.declared.answers.Mode.{Mode}
use Rattle.flux_values.specs.declared.answers.Mode.TheVariants.{Reader, Writer}
use Rattle.flux_values.specs.declared.answers.Put.{Put}
use Rattle.flux_values.specs.declared.meanings.Sig.{Sig}
use Rattle.flux_values.specs.declared.meanings.CellUse.{CellUse}
use Rattle.flux_values.specs.Cells.{changed}
use Rattle.flux_library.specs.Libraries.{IsWrite, IsLawfulNode, IsLawful}
use Rattle.flux_model.specs.declared.programs.ClassNo.{ClassNo}
use Rattle.flux_model.specs.declared.programs.Node.{Node}
use Rattle.flux_model.specs.declared.programs.NodeNo.{NodeNo}
use Rattle.flux_model.specs.declared.programs.Body.{Body}
use Rattle.flux_model.specs.declared.programs.Body.TheVariants.{Concrete, Abstract}
use Rattle.flow_model.specs.declared.journals.CallMade.{CallMade}
use Rattle.flow_model.specs.declared.journals.Entry.{Entry}
use Rattle.flow_model.specs.declared.journals.Event.{Event}
use Rattle.flow_model.specs.declared.journals.Event.TheVariants.{Take, Wait, Enter, Choose, Call, Exit, Drop, End}
use Rattle.flux_model.specs.declared.items.FlowNo.{FlowNo}
use Rattle.flow_model.specs.declared.journals.Key.{Key}
use Rattle.flow_model.specs.Setup.{Setup}
use Rattle.flux_model.specs.Modes.{conflict, at_least}
use Rattle.flux_model.specs.Kinds.{NodeKinds}
use Rattle.flux_model.specs.Items.{IsItemFor}
use Rattle.flux_model.specs.Soundness.{IsProtected, AreCellsProtected, IsSound}
use Rattle.flux_model.specs.Locks.{declared}
use Rattle.flow_model.specs.Keys.{Cells}
use Rattle.flow_model.specs.CellsAfter.{class_named, key_of, cell_key, put_under, after_puts, after_event, after_entries, cells_after}
use Rattle.flow_model.specs.Answers.{cell_at, cells_for, IsBodyAnswer, IsNodeAnswer}
use Rattle.flow_model.specs.Events.{unless_wait, answer_in, events_by, own_events, own_answers, CallIsNext}
use Rattle.flow_model.specs.Exclusion.{IsInSection}
use Rattle.flow_model.specs.Legal.{IsLegal}
use Rattle.flux_laws.specs.Moves.{MayCall, IsMove}
use Rattle.flux_laws.specs.Calls.{FitsFound, FitsBody, FitsNode, cells_of_body, cells_of_node, cells_read, CallsStay}
use Rattle.flux_laws.proofs.Members.{contains-from_in, all-behind}
use Rattle.flow_model.proofs.Keys.{key_cases}
use Rattle.flux_laws.proofs.OwnEvents.{by_another, own_events-append, own_answers-append}
use Rattle.flux_laws.proofs.Fronts.{fronts_are_legal}
use Rattle.flux_laws.proofs.LastMoves.{entries_are_moves}
use Rattle.flux_laws.proofs.AtCalls.{class-found, one-class, call-section}
use Rattle.flux_laws.proofs.FittingCalls.{fits-node, next-fits}

writer-conflicts : (own their : Mode) → at_least their Writer ≡ true → conflict own their ≡ false → ⊥
writer-conflicts Reader Reader enough apart = cc enough
writer-conflicts Reader Writer enough apart = cc apart
writer-conflicts Writer their enough apart = cc apart

-- ---- where a flow writes

module _ (setup : Setup) (kinds : ℕ → NodeKinds) (sound : IsSound setup.meaning setup.program kinds) (entries : List Entry) (legal : IsLegal setup entries) where
  -- a flow that is at a call of a node that writes a cell is in a writer's section on the key of the cell
  writes-section : (flow : ℕ) (node : NodeNo) (args : List Value) → CallIsNext setup entries flow node args → (use_ : CellUse) → IsProtected setup.program node.0 use_ → use_.mode ≡ Writer
      → (key : Key) → cell_key setup flow node.0 use_.name ≡ Some key → (mode : Mode) × IsInSection setup entries flow key mode × (at_least mode Writer ≡ true)
  writes-section flow node args is use_ protected writes key on = by (class_named setup.program node.0 use_.name) refl on
    where
      by : (found : Option ClassNo) → class_named setup.program node.0 use_.name ≡ found → key_of setup flow found ≡ Some key
          → (mode : Mode) × IsInSection setup entries flow key mode × (at_least mode Writer ≡ true)
      by None at on = absurd cc
      by (Some class) at on =
          let found = class-found setup.program node.0 use_.name class at in
          let hold = found.hold in
          let other = protected.hold in
          let numbered = sound.numbered in
          let on_class = found.on in
          let names : found.found.name ≡ protected.class.name = found.named ∙ sym protected.named in
          let scopes = sound.scopes node.0 hold other found.found protected.class (contains-from_in (declared setup.program node.0) hold found.declares) protected.declares
          (rw on_class found.at) protected.is_class names in
          let same : found.found ≡ protected.class = λ i. record { name = names i; session = scopes i } in
          let numbers : class.0 ≡ other.class.0 = one-class setup.program.classes numbered.canonical class.0 other.class.0 found.found found.at (rw same protected.is_class) in
          let classes : class ≡ other.class = λ i. record { 0 = numbers i } in
          (other.mode, call-section setup legal.locks entries flow node args is other key protected.declares (rw (← classes) on), rw writes at protected.enough)

  -- so it is in some section on the key of each cell that the node reads
  reads-section : (flow : ℕ) (node : NodeNo) (args : List Value) → CallIsNext setup entries flow node args → (name : List ℕ) (key : Key) → cell_key setup flow node.0 name ≡ Some key
      → (mode : Mode) × IsInSection setup entries flow key mode
  reads-section flow node args is name key on = by (class_named setup.program node.0 name) refl on
    where
      by : (found : Option ClassNo) → class_named setup.program node.0 name ≡ found → key_of setup flow found ≡ Some key → (mode : Mode) × IsInSection setup entries flow key mode
      by None at on = absurd cc
      by (Some class) at on =
          let found = class-found setup.program node.0 name class at in
          let hold = found.hold in
          let on_class = found.on in
          (hold.mode, call-section setup legal.locks entries flow node args is hold key (contains-from_in (declared setup.program node.0) hold found.declares) (rw on_class on))

  -- ---- what a call of another flow puts

  module _ (flow : ℕ) (node : NodeNo) (args : List Value) (is : CallIsNext setup entries flow node args) (name : List ℕ) (key : Key) (on : cell_key setup flow node.0 name ≡ Some key) where
    -- a put of a call that is next is under another key
    module _ (other : ℕ) (apart : flow ≢ other) (made : CallMade) (next : CallIsNext setup entries other made.node made.args) (sig : Sig)
        (protected : AllByRecursion (IsProtected setup.program made.node.0) sig.cells) where
      put-apart : (put : Put) → IsWrite sig.cells put → cell_key setup other made.node.0 put.cell ≡ Some key → ⊥
      put-apart put write at =
          let use_ = write.use_ in
          let safe = all-behind (IsProtected setup.program made.node.0) write.before (use_ ∷ write.after) (let among = write.among in rw among at protected) in
          let named = write.name in
          let (mode, section, enough) = writes-section other made.node made.args next use_ safe.0 write.mode key (rw named at) in
          let (own, own_section) = reads-section flow node args is name key on in
          let ex = legal.excludes in
          writer-conflicts own mode enough (ex.sections entries [] (sym (append-nil entries)) flow other key own mode apart own_section section)

      puts-apart : (puts : List Put) → AllByRecursion (IsWrite sig.cells) puts → (cells : Cells) → after_puts setup other made.node.0 cells puts key ≡ cells key
      puts-apart [] all cells = refl
      puts-apart (put ∷ puts) (write, all) cells = puts-apart puts all (put_under cells put (cell_key setup other made.node.0 put.cell)) ∙ by (cell_key setup other made.node.0 put.cell) refl
        where
          by : (there : Option Key) → cell_key setup other made.node.0 put.cell ≡ there → put_under cells put there key ≡ cells key
          by None at = refl
          by (Some k) at = key_cases k key
              (λ same _. absurd (put-apart put write (at ∙ ap Some same)))
              (λ different _. ap (λ (b : Bool). cond b (changed (cells key) put.name put.value) (cells key)) different)

-- ---- cells after one entry more

after-append : (setup : Setup) (cells : Cells) (a b : List Entry) → after_entries setup cells (a ++ b) ≡ after_entries setup (after_entries setup cells a) b
after-append setup cells [] b = refl
after-append setup cells (entry ∷ a) b = after-append setup (after_event setup entry.flow.0 cells entry.event) a b

module _ (setup : Setup) (kinds : ℕ → NodeKinds) (sound : IsSound setup.meaning setup.program kinds) (lawful : IsLawful setup.meaning)
    (items : AllByRecursion (IsItemFor setup.program kinds) setup.items) where
  module _ (entries : List Entry) (legal : IsLegal setup entries) (flow : ℕ) (node : NodeNo) (args : List Value) (is : CallIsNext setup entries flow node args)
      (other : FlowNo) (apart : flow ≢ other.0) where
    -- a call of another flow doesn't change the cells that this flow's call reads
    module _ (made : CallMade) (next : CallIsNext setup entries other.0 made.node made.args) (name : List ℕ) (key : Key) (on : cell_key setup flow node.0 name ≡ Some key) where
      IsLeft : Type 0
      IsLeft = after_puts setup other.0 made.node.0 (cells_after setup entries) (let answer = made.answer in answer.puts) key ≡ cells_after setup entries key

      sig-apart : (word : List ℕ) (found : Option Sig) → setup.meaning.node word ≡ found → IfSome found (λ sig. AllByRecursion (IsProtected setup.program made.node.0) sig.cells)
          → FitsFound found made.args → made.answer ≡ setup.meaning.call word made.args (cells_for setup other.0 made.node.0 (cells_after setup entries) found) → IsLeft
      unfolding IsLeft
      sig-apart word None at protected fits right = absurd fits
      sig-apart word (Some sig) at protected fits right =
          let cells = cells_for setup other.0 made.node.0 (cells_after setup entries) (Some sig) in
          let law : IsLawfulNode (Some sig) (setup.meaning.call word) = rw at at (lawful.nodes word) in
          let ks = fits.kinds in
          let answer = law.answers made.args cells (record { role = fits.role; kinds = ks.have; cells_ = length-map sig.cells _ }) ks.each in
          let puts : AllByRecursion (IsWrite sig.cells) (let a = made.answer in a.puts) = rw right answer.puts in
          puts-apart setup kinds sound entries legal flow node args is name key on other.0 apart made next sig protected (let a = made.answer in a.puts) puts (cells_after setup entries)

      body-apart : (body : Body) → AreCellsProtected setup.meaning setup.program made.node.0 body → FitsBody setup.meaning body made.args
          → IsBodyAnswer setup other.0 (cells_after setup entries) body made → IsLeft
      body-apart (Concrete word) protected fits right = sig-apart word (setup.meaning.node word) refl protected fits right
      body-apart (Abstract cases) protected fits right = absurd right

      node-apart : (found : Option Node) → slice_get setup.program.nodes made.node.0 ≡ found → FitsNode setup.meaning found made.args
          → IsNodeAnswer setup other.0 (cells_after setup entries) found made → IsLeft
      node-apart None at fits right = absurd right
      node-apart (Some n) at fits right = body-apart n.body (sound.protected made.node.0 n at) fits right

    call-apart : (made : CallMade) → MayCall setup entries other made → (name : List ℕ) (key : Key) → cell_key setup flow node.0 name ≡ Some key
        → after_puts setup other.0 made.node.0 (cells_after setup entries) (let answer = made.answer in answer.puts) key ≡ cells_after setup entries key
    unfolding IsLeft
    call-apart made may name key on =
        node-apart made may.next name key on (slice_get setup.program.nodes made.node.0) refl
        (fits-node setup.meaning setup.program kinds sound made.node made.args (next-fits setup kinds sound lawful entries items legal.answers other.0 made.node made.args may.next)) may.right

    event-apart : (event : Event) → IsMove setup entries other event → (name : List ℕ) (key : Key) → cell_key setup flow node.0 name ≡ Some key
        → after_event setup other.0 (cells_after setup entries) event key ≡ cells_after setup entries key
    event-apart (Call made) may name key on = call-apart made may name key on
    event-apart (Take k mode) may name key on = refl
    event-apart (Wait k mode) may name key on = refl
    event-apart (Enter n) may name key on = refl
    event-apart (Choose place) may name key on = refl
    event-apart (Exit n outcome) may name key on = refl
    event-apart (Drop k) may name key on = refl
    event-apart (End outcome) may name key on = refl

-- ---- what a call reads

cell-same : (setup : Setup) (flow node : ℕ) (before after : Cells) → ((name : List ℕ) (key : Key) → cell_key setup flow node name ≡ Some key → after key ≡ before key)
    → (name : List ℕ) → cell_at after (cell_key setup flow node name) ≡ cell_at before (cell_key setup flow node name)
cell-same setup flow node before after same name = by (cell_key setup flow node name) refl
  where
    by : (key : Option Key) → cell_key setup flow node name ≡ key → cell_at after key ≡ cell_at before key
    by None at = refl
    by (Some key) at = same name key at

reads-same : (setup : Setup) (flow : ℕ) (node : ℕ) (a b : List Entry) → ((name : List ℕ) (key : Key) → cell_key setup flow node name ≡ Some key → cells_after setup b key ≡ cells_after setup a key)
    → cells_read setup flow node b ≡ cells_read setup flow node a
reads-same setup flow node a b same = by (slice_get setup.program.nodes node)
  where
    on_sig : (found : Option Sig) → cells_for setup flow node (cells_after setup b) found ≡ cells_for setup flow node (cells_after setup a) found
    on_sig None = refl
    on_sig (Some sig) = λ i. map (λ (cell : CellUse). cell-same setup flow node (cells_after setup a) (cells_after setup b) same cell.name i) sig.cells

    on_body : (body : Body) → cells_of_body setup flow node b body ≡ cells_of_body setup flow node a body
    on_body (Concrete name) = on_sig (setup.meaning.node name)
    on_body (Abstract cases) = refl

    by : (found : Option Node) → cells_of_node setup flow node b found ≡ cells_of_node setup flow node a found
    by None = refl
    by (Some n) = on_body n.body

-- ---- other flows go on

first-other : (entry : Entry) (more : List Entry) (flow : ℕ) → events_by flow (entry ∷ more) ≡ [] → (flow ≢ entry.flow.0) × (events_by flow more ≡ [])
first-other entry more flow none = by (eqb entry.flow.0 flow) refl none
  where
    by : (own : Bool) → eqb entry.flow.0 flow ≡ own → cond own (entry.event ∷ events_by flow more) (events_by flow more) ≡ [] → (flow ≢ entry.flow.0) × (events_by flow more ≡ [])
    by true e none = absurd cc
    by false e none = (λ same. eqb-false entry.flow.0 flow e (sym same), none)

-- entries of other flows leave a flow at its call
call-same : (setup : Setup) (before after : List Entry) (flow : ℕ) (node : NodeNo) (args : List Value) → events_by flow after ≡ [] → CallIsNext setup before flow node args
    → CallIsNext setup (before ++ after) flow node args
call-same setup before after flow node args none is =
    let events_same : own_events (before ++ after) flow ≡ own_events before flow =
    own_events-append flow before after ∙ ap (λ es. own_events before flow ++ flat_map unless_wait es) none ∙ append-nil (own_events before flow) in
    let answers_same : own_answers (before ++ after) flow ≡ own_answers before flow =
    own_answers-append flow before after ∙ ap (λ es. own_answers before flow ++ flat_map answer_in es) none ∙ append-nil (own_answers before flow) in
    record { all = rw (events_same, answers_same) is.all; stops = rw answers_same is.stops }

module _ (setup : Setup) (kinds : ℕ → NodeKinds) (sound : IsSound setup.meaning setup.program kinds) (lawful : IsLawful setup.meaning)
    (items : AllByRecursion (IsItemFor setup.program kinds) setup.items) (flow : ℕ) (node : NodeNo) (args : List Value) where
  -- one entry of another flow
  reads-one : (entries : List Entry) (entry : Entry) → IsLegal setup (entries ++ entry ∷ []) → CallIsNext setup entries flow node args → flow ≢ entry.flow.0
      → cells_read setup flow node.0 (entries ++ entry ∷ []) ≡ cells_read setup flow node.0 entries
  reads-one entries entry legal is apart =
      let before = fronts_are_legal setup entries (entry ∷ []) legal in
      let move = entries_are_moves setup entries entry.flow entry.event legal in
      reads-same setup flow node.0 entries (entries ++ entry ∷ [])
      (λ name key on. ap (λ (cells : Cells). cells key) (after-append setup setup.opening entries (entry ∷ []))
      ∙ event-apart setup kinds sound lawful items entries before flow node args is entry.flow apart entry.event move name key on)

  reads-all : (entries more : List Entry) → IsLegal setup (entries ++ more) → CallIsNext setup entries flow node args → events_by flow more ≡ []
      → cells_read setup flow node.0 (entries ++ more) ≡ cells_read setup flow node.0 entries
  reads-all entries [] legal is none = ap (cells_read setup flow node.0) (append-nil entries)
  reads-all entries (entry ∷ more) legal is none =
      let together : entries ++ entry ∷ more ≡ (entries ++ entry ∷ []) ++ more = sym (append_assoc entries (entry ∷ []) more) in
      let whole : IsLegal setup ((entries ++ entry ∷ []) ++ more) = subst (IsLegal setup) together legal in
      let (apart, none_more) = first-other entry more flow none in
      let there = call-same setup entries (entry ∷ []) flow node args (by_another entry.flow flow entry.event (λ (e : entry.flow.0 ≡ flow). apart (sym e))) is in
      ap (cells_read setup flow node.0) together ∙ reads-all (entries ++ entry ∷ []) more whole there none_more
      ∙ reads-one entries entry (fronts_are_legal setup (entries ++ entry ∷ []) more whole) is apart

pub calls_stay : CallsStay
calls_stay setup kinds entries more sound lawful items legal flow node args is none = record {
  next = call-same setup entries more flow node args none is;
  cells_ = reads-all setup kinds sound lawful items flow node args entries more legal is none;
}
