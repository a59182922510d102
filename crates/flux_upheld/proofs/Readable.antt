-- The entries of a legal journal are entries of the program: each of their parts is one that a journal's text can hold.
use Rattle.std.proofs.Common.{◌≡◌, ◌≤◌, ◌<◌, ◌^◌, ℕ, zero, suc, Bool, true, false, cond, eqb, List, [], ◌∷◌, ◌++◌, length, Option, Some, None, refl, sym, ap, subst, ◌∙◌, append_assoc, arith}
use Rattle.std.specs.List.{slice_get, flat_map, AllByRecursion, All}
use Rattle.std.proofs.lemmas.List.{append-nil, length-map}
use Rattle.flux_values.specs.declared.values.Value.{Value}
use Rattle.flux_values.specs.declared.texts.TheConstants.{EMISSION_LIMIT}
use Rattle.flux_values.specs.declared.answers.Answer.{Answer}
use Rattle.flux_values.specs.declared.answers.CallResult.{CallResult}
use Rattle.flux_values.specs.declared.answers.CallResult.TheVariants as results
use Rattle.flux_values.specs.declared.answers.Put.{Put}
use Rattle.flux_values.specs.declared.meanings.CellUse.{CellUse}
use Rattle.flux_values.specs.declared.meanings.Sig.{Sig}
use Rattle.flux_values.specs.Reading.{IsValue}
use Rattle.flux_values.specs.Cells.{CellMap}
use Rattle.flux_library.specs.Libraries.{Fits, IsResultOf, IsWrite, IsAnswerOf, IsLawfulNode, IsLawful}
use Rattle.flux_model.specs.declared.programs.Program.{Program}
use Rattle.flux_model.specs.declared.programs.TheConstants.{COUNT_LIMIT}
use Rattle.flux_model.specs.declared.programs.Node.{Node}
use Rattle.flux_model.specs.declared.programs.NodeNo.{NodeNo}
use Rattle.flux_model.specs.declared.programs.Body.{Body}
use Rattle.flux_model.specs.declared.programs.Body.TheVariants.{Concrete, Abstract}
use Rattle.flux_model.specs.declared.programs.SourceLine.{SourceLine}
use Rattle.flux_model.specs.declared.items.Item.{Item}
use Rattle.flux_model.specs.declared.items.FlowNo.{FlowNo}
use Rattle.flux_model.specs.Items.{AreValues, IsItemOf, IsItemFor}
use Rattle.flux_model.specs.Kinds.{NodeKinds}
use Rattle.flux_model.specs.Locks.{AreLocks}
use Rattle.flux_model.specs.Soundness.{IsProtected, AreCellsProtected, IsSound}
use Rattle.flow_model.specs.declared.journals.CallMade.{CallMade}
use Rattle.flow_model.specs.declared.journals.Event.{Event}
use Rattle.flow_model.specs.declared.journals.Event.TheVariants as events
use Rattle.flow_model.specs.declared.journals.Entry.{Entry}
use Rattle.flow_model.specs.Setup.{Setup, item_of}
use Rattle.flow_model.specs.Walk.{Stop, finished, before_call, nowhere, Walked, lost}
use Rattle.flow_model.specs.Flows.{given_for, target_walk, item_walk, flow_walk, ending, with_end, flow_events}
use Rattle.flow_model.specs.CellsAfter.{after_event, after_entries, cells_after}
use Rattle.flow_model.specs.Answers.{cells_for, IsBodyAnswer, IsNodeAnswer}
use Rattle.flow_model.specs.Events.{answer_in, events_by, own_events, own_answers, IsNext}
use Rattle.flow_model.specs.Legal.{IsLegal}
use Rattle.flux_laws.specs.Calls.{FitsFound, FitsBody, FitsNode}
use Rattle.flux_laws.specs.Moves.{IsMove, MayCall}
use Rattle.flux_laws.proofs.Members.{all-get, all-more, all-front, all-behind}
use Rattle.flux_laws.proofs.FittingCalls.{next_calls_fit}
use Rattle.flux_laws.proofs.Fronts.{fronts_are_legal}
use Rattle.flux_laws.proofs.LastMoves.{entries_are_moves}
use Rattle.flux_journal.specs.Entries.{IsResult, IsCellOf, IsPutOf, IsCallOf, IsEventOf, IsEntryOf, AreEntriesOf}
use Rattle.flux_upheld.specs.Printable.{PutsValue, IsPrintable, AnswersPrintably, AnswersCanBePrinted}
use Rattle.flux_upheld.proofs.Walked.{HasSmallCode, HaveSmallCodes, IsPart, AreParts, StopsSo, IsOfProgram, part-nested, all-both}
use Rattle.flux_upheld.proofs.Keyed.{key-of, locks-below, all-in}
use Rattle.flux_upheld.proofs.Holding.{AllHold, puts-held, cells-held}

-- ---- cells after one entry more

after-append : (setup : Setup) (entries : List Entry) (entry : Entry) (before : List Entry) → cells_after setup (before ++ entry ∷ []) ≡ after_event setup entry.flow.0 (cells_after setup before) entry.event
after-append setup entries entry before = by setup.opening before
  where
    by : (cells : _) (list : List Entry) → after_entries setup cells (list ++ entry ∷ []) ≡ after_event setup entry.flow.0 (after_entries setup cells list) entry.event
    by cells [] = refl
    by cells (own ∷ list) = by (after_event setup own.flow.0 cells own.event) list

-- ---- a journal's entries so far

pub record AreReadable (setup : Setup) (entries : List Entry) : Type 0 where
  pub are : AreEntriesOf setup.program entries
  pub hold : AllHold (cells_after setup entries)

module _ (p : Program) (flow : ℕ) where
  small-result : (result : CallResult) → IsResult result → HasSmallCode result
  small-result (results.Good values) is = tt
  small-result (results.Bad code) is = is

  small-answer : (event : Event) → IsEventOf p event → HaveSmallCodes (answer_in event)
  small-answer (events.Call made) is = (small-result made.answer.result is.result_, tt)
  small-answer (events.Take key mode) is = tt
  small-answer (events.Wait key mode) is = tt
  small-answer (events.Enter node) is = tt
  small-answer (events.Choose place) is = tt
  small-answer (events.Exit node outcome) is = tt
  small-answer (events.Drop key) is = tt
  small-answer (events.End outcome) is = tt

  -- the answers so far have codes of 16 bits
  small-own : (entries : List Entry) → AreEntriesOf p entries → HaveSmallCodes (own_answers entries flow)
  small-own [] all = tt
  small-own (entry ∷ entries) all = by (eqb entry.flow.0 flow) (small-own entries all.1)
    where
      by : (b : Bool) → HaveSmallCodes (flat_map answer_in (events_by flow entries)) → HaveSmallCodes (flat_map answer_in (cond b (entry.event ∷ events_by flow entries) (events_by flow entries)))
      by true more = let own = all.0 in
          all-both (λ (a : Answer). HasSmallCode a.result) (answer_in entry.event) (flat_map answer_in (events_by flow entries))
          (small-answer entry.event own.event_) more
      by false more = more

within : {X : Type 0} (xs : List X) (number : ℕ) (x : X) → slice_get xs number ≡ Some x → number < length xs
within [] number x at = absurd cc
within (y ∷ xs) zero x at = omega arith
within (y ∷ xs) (suc number) x at = let lt = within xs number x at in omega (arith, lt)

module _ (setup : Setup) (kinds : ℕ → NodeKinds) (sound : IsSound setup.meaning setup.program kinds) (lawful : IsLawful setup.meaning) (printable : AnswersCanBePrinted setup.meaning)
    (items : AllByRecursion (IsItemFor setup.program kinds) setup.items) where
  abbrev p : Program
  p = setup.program

  -- ---- events of walks

  module _ (are_locks : AreLocks setup.program setup.locks) where
    walk-parts : (flow : ℕ) (answers : List Answer) → HaveSmallCodes answers → IsOfProgram p (flow_walk setup flow answers)
    walk-parts flow answers small = by (item_of setup flow) refl
      where
        nothing : IsOfProgram p lost
        nothing = record { parts = tt; stops = tt }

        on : (item : Item) (line : Option SourceLine) → IsItemOf kinds line item.values → IsOfProgram p (target_walk setup item line answers)
        on item None is = nothing
        on item (Some line) is =
            let numbered = sound.numbered in
            part-nested p (given_for setup item line) (λ class lt. key-of p setup.meaning printable line item.values is.each class lt)
            (locks-below p numbered setup.locks are_locks) numbered.parts (length setup.program.nodes) line.target.0 item.values answers small

        by : (item : Option Item) → item_of setup flow ≡ item → IsOfProgram p (item_walk setup item answers)
        by None at = nothing
        by (Some item) at = on item (slice_get setup.program.sources item.source.0) (all-get (IsItemFor setup.program kinds) setup.items flow item items at)

    end-parts : (walked : Walked) → IsOfProgram p walked → AreParts p (with_end walked)
    end-parts walked is = all-both (IsPart p) walked.events (ending walked.stop) is.parts (by walked.stop is.stops)
      where
        by : (stop : Stop) → StopsSo p stop → AreParts p (ending stop)
        by (finished ended) own = (own.outcome_, tt)
        by (before_call node args) own = tt
        by nowhere own = tt

    -- a flow's next event is of the program
    next-part : (entries : List Entry) (flow : ℕ) (event : Event) → AreEntriesOf p entries → IsNext setup entries flow event → IsPart p event
    next-part entries flow event are is =
        let whole : AreParts p (flow_events setup flow (own_answers entries flow)) = end-parts (flow_walk setup flow (own_answers entries flow)) (walk-parts flow (own_answers entries flow) (small-own p flow entries are)) in
        let split : AreParts p (own_events entries flow ++ event ∷ is.rest) = subst (AreParts p) is.next whole in
        (all-behind (IsPart p) (own_events entries flow) (event ∷ is.rest) split).0

  -- ---- calls

  abbrev IsRead : FlowNo → CallMade → Type 0
  IsRead flow made = IsCallOf p made × AllByRecursion PutsValue made.answer.puts

  put-of : (number : ℕ) (uses : List CellUse) → AllByRecursion (IsProtected p number) uses → (put : Put) → IsWrite uses put → PutsValue put → IsPutOf p put
  put-of number uses protected put writes puts =
      let at : AllByRecursion (IsProtected p number) (writes.before ++ writes.use_ ∷ writes.after) = subst (AllByRecursion (IsProtected p number)) writes.among protected in
      let own = (all-behind (IsProtected p number) writes.before (writes.use_ ∷ writes.after) at).0 in
      record {
        cell = record { place = own.hold.class.0; class = own.class; at = own.is_class; named = own.named ∙ writes.name };
        name = puts.name;
        value = puts.value;
      }

  puts-of : (number : ℕ) (uses : List CellUse) → AllByRecursion (IsProtected p number) uses → (puts : List Put) → AllByRecursion (IsWrite uses) puts → AllByRecursion PutsValue puts → AllByRecursion (IsPutOf p) puts
  puts-of number uses protected [] writes are = tt
  puts-of number uses protected (put ∷ puts) writes are = (put-of number uses protected put writes.0 are.0, puts-of number uses protected puts writes.1 are.1)

  result-of : (outs : List _) (result : CallResult) → IsResultOf outs result → IsResult result
  result-of outs (results.Good values) is = is.1
  result-of outs (results.Bad code) is = omega (arith, is.1)

  module _ (flow : ℕ) (cells : _) (holds : AllHold cells) (made : CallMade) where
    sig-read : (name : List ℕ) (found : Option Sig) → setup.meaning.node name ≡ found → made.node.0 < length p.nodes → AreCellsProtected setup.meaning p made.node.0 (Concrete name) → FitsFound found made.args
        → IsBodyAnswer setup flow cells (Concrete name) made → IsCallOf p made × AllByRecursion PutsValue made.answer.puts
    sig-read name None at lt protected fits right = absurd fits
    sig-read name (Some sig) at lt protected fits right =
        let read = cells_for setup flow made.node.0 cells (setup.meaning.node name) in
        let law : IsLawfulNode (Some sig) (setup.meaning.call name) = subst (λ (s : Option Sig). IsLawfulNode s (setup.meaning.call name)) at (lawful.nodes name) in
        let prints : AnswersPrintably (Some sig) (setup.meaning.call name) = subst (λ (s : Option Sig). AnswersPrintably s (setup.meaning.call name)) at (printable.nodes name) in
        let safe : AllByRecursion (IsProtected p made.node.0) sig.cells = rw at at protected in
        let kinds_are = fits.kinds in
        let many : length read ≡ length sig.cells = rw at (length-map sig.cells _) in
        let fit : Fits sig made.args read = record { role = fits.role; kinds = kinds_are.have; cells_ = many } in
        let answer = law.answers made.args read fit kinds_are.each in
        let shown = prints made.args read fit kinds_are.each (cells-held setup flow made.node.0 cells holds (setup.meaning.node name)) in
        let is : IsAnswerOf sig made.answer = subst (IsAnswerOf sig) (sym right) answer in
        let can : IsPrintable made.answer = subst IsPrintable (sym right) shown in (
          record {
            node = lt;
            args = kinds_are.each;
            result_ = result-of sig.outs made.answer.result is.result;
            puts = puts-of made.node.0 sig.cells safe made.answer.puts is.puts can.puts;
            emits = record { each = can.emits; few = is.emits };
          },
          can.puts,
        )

    call-read : FitsNode setup.meaning (slice_get p.nodes made.node.0) made.args → IsNodeAnswer setup flow cells (slice_get p.nodes made.node.0) made → IsCallOf p made × AllByRecursion PutsValue made.answer.puts
    call-read fits right = by (slice_get p.nodes made.node.0) refl fits right
      where
        on : (node : Node) → slice_get p.nodes made.node.0 ≡ Some node → (body : Body) → AreCellsProtected setup.meaning p made.node.0 body → FitsBody setup.meaning body made.args → IsBodyAnswer setup flow cells body made
            → IsCallOf p made × AllByRecursion PutsValue made.answer.puts
        on node at (Concrete name) protected fits_ right_ = sig-read name (setup.meaning.node name) refl (within p.nodes made.node.0 node at) protected fits_ right_
        on node at (Abstract cases) protected fits_ right_ = absurd fits_

        by : (found : Option Node) → slice_get p.nodes made.node.0 ≡ found → FitsNode setup.meaning found made.args → IsNodeAnswer setup flow cells found made
            → IsCallOf p made × AllByRecursion PutsValue made.answer.puts
        by None at fits_ right_ = absurd fits_
        by (Some node) at fits_ right_ = on node at node.body (sound.protected made.node.0 node at) fits_ right_

  -- ---- one entry more

  module _ (entries : List Entry) (flow : FlowNo) (readable : AreReadable setup entries) where
    event-read : (event : Event) → IsLegal setup (entries ++ record { flow = flow; event = event } ∷ []) → IsMove setup entries flow event
        → IsEventOf p event × AllHold (after_event setup flow.0 (cells_after setup entries) event)
    event-read (events.Take key mode) legal move = (next-part legal.locks entries flow.0 (events.Take key mode) readable.are move.next, readable.hold)
    event-read (events.Wait key mode) legal move = (next-part legal.locks entries flow.0 (events.Take key mode) readable.are move.next, readable.hold)
    event-read (events.Enter node) legal move = (next-part legal.locks entries flow.0 (events.Enter node) readable.are move.next, readable.hold)
    event-read (events.Choose place) legal move = (next-part legal.locks entries flow.0 (events.Choose place) readable.are move.next, readable.hold)
    event-read (events.Call made) legal move =
        let front = fronts_are_legal setup entries (record { flow = flow; event = events.Call made } ∷ []) legal in
        let fits = next_calls_fit setup kinds entries sound lawful items front flow.0 made.node made.args move.next in
        let read = call-read flow.0 (cells_after setup entries) readable.hold made fits move.right in
        (read.0, puts-held setup flow.0 made.node.0 (cells_after setup entries) made.answer.puts readable.hold read.1)
    event-read (events.Exit node outcome) legal move = (next-part legal.locks entries flow.0 (events.Exit node outcome) readable.are move.next, readable.hold)
    event-read (events.Drop key) legal move = (next-part legal.locks entries flow.0 (events.Drop key) readable.are move.next, readable.hold)
    event-read (events.End outcome) legal move = (next-part legal.locks entries flow.0 (events.End outcome) readable.are move.next, readable.hold)

  module _ (few : length setup.items < 2 ^ 32) where
    entry-read : (entries : List Entry) (entry : Entry) → IsLegal setup (entries ++ entry ∷ []) → AreReadable setup entries → AreReadable setup (entries ++ entry ∷ [])
    entry-read entries entry legal readable =
        let read = event-read entries entry.flow readable entry.event legal (entries_are_moves setup entries entry.flow entry.event legal) in
        let flow : entry.flow.0 < length setup.items = (all-behind (λ (e : Entry). e.flow.0 < length setup.items) entries (entry ∷ []) legal.flows).0 in
        record {
          are = all-more (IsEntryOf p) entries entry readable.are (record { flow = omega (arith, flow, few); event_ = read.0 });
          hold = subst AllHold (sym (after-append setup entries entry entries)) read.1;
        }

    more-read : (entries more : List Entry) → IsLegal setup (entries ++ more) → AreReadable setup entries → AreReadable setup (entries ++ more)
    more-read entries [] legal readable = subst (AreReadable setup) (sym (append-nil entries)) readable
    more-read entries (entry ∷ more) legal readable =
        let same : (entries ++ entry ∷ []) ++ more ≡ entries ++ entry ∷ more = append_assoc entries (entry ∷ []) more in
        let whole : IsLegal setup ((entries ++ entry ∷ []) ++ more) = subst (IsLegal setup) (sym same) legal in
        let front = fronts_are_legal setup (entries ++ entry ∷ []) more whole in
        subst (AreReadable setup) same (more-read (entries ++ entry ∷ []) more whole (entry-read entries entry front readable))

    pub legal-readable : AllHold setup.opening → (entries : List Entry) → IsLegal setup entries → AreReadable setup entries
    legal-readable opening entries legal = more-read [] entries legal (record { are = tt; hold = opening })
