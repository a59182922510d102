-- Calls that come next, and calls that are made.
use Rattle.std.proofs.Common.{◌≡◌, ◌<◌, ℕ, List, [], ◌∷◌, ◌++◌, length, map, Option, Some, None, refl, sym, ap, subst, ◌∙◌}
use Rattle.std.specs.List.{slice_get, slice_set}
use Rattle.std.specs.Option.{option_map}
use Rattle.std.specs.Vec.{with_item}
use Rattle.std.proofs.lemmas.Option.{slice_get-map}
use Rattle.std.proofs.lemmas.Simd.{map-map}
use Rattle.flux_values.specs.declared.values.Value.{Value}
use Rattle.flux_values.specs.declared.answers.Answer.{Answer}
use Rattle.flux_values.specs.declared.meanings.CellUse.{CellUse}
use Rattle.flux_values.specs.Cells.{CellMap}
use Rattle.flux_values.specs.Meanings.{LibraryMeaning}
use Rattle.flux_model.specs.declared.programs.ClassNo.{ClassNo}
use Rattle.flux_model.specs.declared.programs.Hold.{Hold}
use Rattle.flux_model.specs.declared.programs.Node.{Node}
use Rattle.flux_model.specs.declared.programs.NodeNo.{NodeNo}
use Rattle.flux_model.specs.declared.programs.Program.{Program}
use Rattle.flux_model.specs.declared.items.FlowNo.{FlowNo}
use Rattle.flux_model.specs.declared.programs.SourceLine.{SourceLine}
use Rattle.flux_model.specs.declared.items.Item.{Item}
use Rattle.flow_model.specs.declared.journals.Key.{Key}
use Rattle.flow_model.specs.declared.journals.CallMade.{CallMade}
use Rattle.flow_model.specs.declared.journals.Entry.{Entry}
use Rattle.flow_model.specs.declared.journals.Event.TheVariants.{Call}
use Rattle.flow_model.specs.Setup.{Setup, item_of}
use Rattle.flow_model.specs.Keys.{Cells, flow_key}
use Rattle.flux_model.specs.Locks.{declared, declared_on}
use Rattle.flow_model.specs.CellsAfter.{class_named, key_of, cell_key, after_puts, after_event, cells_after}
use Rattle.flow_model.specs.Answers.{cell_at}
use Rattle.flow_model.specs.Events.{CallIsNext}
use Rattle.flow_model.specs.Legal.{IsLegal}
use Rattle.flux_laws.specs.Going.{IsAtCall}
use Rattle.flux_laws.specs.Moves.{MayCall}
use Rattle.flux_laws.specs.Calls.{cells_read}
use Rattle.flux_laws.proofs.NextEvents.{call-item}
use Rattle.flux_plan.specs.declared.locals.Next.{Next}
use Rattle.flux_plan.specs.declared.locals.Next.TheVariants as nexts
use Rattle.flux_plan.specs.Machine.{values_at}
use Rattle.flux_plan.specs.Moves.{next_in, called_in, IsAnswered}
use Rattle.flux_plan.proofs.Following.{next-called}
use Rattle.flux_cells.specs.Kept.{Kept, cells_of}
use Rattle.flux_cells.specs.Applied.{applied}
use Rattle.flux_cells.proofs.AfterPuts.{applied-after_puts, keys_at, key_named-keys_at}
use Rattle.flow_state.specs.declared.inputs.Inputs.{Inputs}
use Rattle.flow_state.specs.declared.places.Place.{Place}
use Rattle.flow_state.specs.declared.fields.Fields.{Fields}
use Rattle.flow_state.specs.States.{setup_at}
use Rattle.flow_state.specs.Calls.{IsReady, IsNextCall}
use Rattle.flow_state.specs.Moves.{AddsCall}
use Rattle.flow_state.specs.steps.Cells.{class_in, classes_by, classes_guarded, uses_found, uses_of, classes_of, classes_read, cells_under, keys_by}
use Rattle.flow_state.specs.steps.Reads.{IsKnown, AreRead}
use Rattle.flow_state.specs.steps.Places.{matches_in, HasPlan, MayAnswer, key_in, IsPlaceOf, IsComing}
use Rattle.flow_state.specs.steps.Fields.{state_of, plans_of, IsAfter, AreFields}
use Rattle.flow_state.proofs.Agreeing.{calls-unique}
use Rattle.flow_state.proofs.Asked.{call-coming}
use Rattle.flow_state.proofs.Fitting.{HasFit, cells_read-known, known-guarded}
use Rattle.flow_state.proofs.Fitting.{fit-of as fits, ready-of as readies}
use Rattle.flow_state.proofs.Ended.{live_in, live-still}
use Rattle.flow_state.proofs.AtPlaces.{place-key_for, place-may_answer}
use Rattle.flow_state.proofs.Moved.{here, coming-there, call-next, moved-call}

-- a flow's keys of the classes that a node declares
record AreKeys (setup : Setup) (flow node : ℕ) (keys : List Key) : Type 0 where
  pub item : Item
  pub is_item : item_of setup flow ≡ Some item
  pub line : SourceLine
  pub is_line : slice_get setup.program.sources item.source.0 ≡ Some line
  pub keys_ : keys ≡ map (λ (hold : Hold). flow_key setup.program setup.meaning line item.values hold.class)
      (declared setup.program node)

-- the classes of the cells that a known node uses; where it declares no constraint it uses none
guarded : (p : Program) (declared : List Hold) (uses : List CellUse) → (declared ≡ [] → uses ≡ [])
    → classes_guarded p declared uses ≡ classes_by p declared uses
guarded p [] uses none = sym (ap (classes_by p []) (none refl))
guarded p (hold ∷ declared) uses none = refl

pub classes-known : (meaning : LibraryMeaning) (p : Program) (node : ℕ) (known : IsKnown meaning p node)
    → (let sig = known.sig in (declared p node ≡ [] → sig.cells ≡ [])
    → slice_get (classes_read meaning p) node ≡ Some (classes_by p (declared p node) sig.cells))
classes-known meaning p node known none =
    let found = known.found in
    let sig = known.sig in
    slice_get-map (classes_of meaning p) p.nodes node
    ∙ ap (λ (o : Option Node). option_map (classes_of meaning p) o) known.is_found
    ∙ ap (λ (uses : List CellUse). Some (classes_guarded p found.declared uses))
    (ap (uses_of meaning) known.is_name ∙ ap uses_found known.is_sig)
    ∙ ap (λ (o : Option Node). Some (classes_guarded p (declared_on o) sig.cells)) (sym known.is_found)
    ∙ ap (λ (classes : List (Option ClassNo)). Some classes) (guarded p (declared p node) sig.cells none)

module _ {L : Type 0} (meaning : L → LibraryMeaning) (r : Fields L) (is : AreFields meaning r) (flow : FlowNo) where
  abbrev setup : Setup
  setup = setup_at meaning (state_of r)

  abbrev entries : List Entry
  entries = r.made

  abbrev items : List Place
  items = let places = r.places in places.items

  legal : IsLegal setup entries
  legal = let after = is.after in after.legal

  abbrev own-at : (place : Place) → slice_get items flow.0 ≡ Some place
      → IsPlaceOf setup (plans_of r) entries flow.0 place
  own-at place at = here setup (plans_of r) is.given entries items r.table (cells_of r.cells) is.after flow place at

  pub fit-of : (node : NodeNo) (args : List Value) → CallIsNext setup entries flow.0 node args
      → HasFit setup.meaning setup.program node.0 args
  fit-of = let given = is.given in
      fits setup given.kinds given.lawful given.sound given.fit entries legal flow.0

  pub ready-of : (inputs : Inputs) → IsNextCall setup entries flow.0 inputs
      → IsReady setup.meaning setup.program inputs
  ready-of = let given = is.given in
      readies setup given.kinds given.lawful given.sound given.fit entries legal flow.0

  pub at-within : IsAtCall setup entries flow.0 → flow.0 < length setup.items
  at-within (node, args, call) = call-item setup entries flow.0 node args call

  -- ---- a call that comes next

  module _ (node : NodeNo) (coming : IsComing setup (plans_of r) items flow.0 (nexts.Call node)) (place : Place)
      (at : slice_get items flow.0 ≡ Some place) where
    -- what comes at the place that was read
    there : IsComing setup (plans_of r) items flow.0 (nexts.Call node)
    there = coming

    same-place : (let p = coming.place in p ≡ place)
    same-place = let e = sym coming.is_place ∙ at in cc

    pub call-is : CallIsNext setup entries flow.0 node (values_at place.local)
    call-is = subst (λ (p : Place). CallIsNext setup entries flow.0 node (values_at p.local)) same-place
        (call-next setup (plans_of r) is.given entries items r.table (cells_of r.cells) is.after flow node coming)

    pub known-next : IsKnown setup.meaning setup.program node.0
    known-next = let fit = fit-of node (values_at place.local) call-is in fit.known

    pub called-there : (let own = own-at place at in called_in own.plan place.local ≡ Some node)
    called-there =
        let c : IsComing setup (plans_of r) items flow.0 (nexts.Call node) = record {
          place = place;
          is_place = at;
          plan = coming.plan;
          is_plan = coming.is_plan;
          coming = subst (λ (p : Place). next_in coming.plan (matches_in setup) p.local ≡ Some (nexts.Call node))
              same-place coming.coming;
        } in
        let own = own-at place at in
        next-called own.plan (matches_in setup) place.local node
        (coming-there setup (plans_of r) is.given entries items r.table (cells_of r.cells) is.after flow
        (nexts.Call node) c)

    pub may-answer : HasPlan (plans_of r) setup.items flow.0 (λ plan. MayAnswer plan place.local)
    may-answer = place-may_answer setup (plans_of r) entries legal flow.0 place (own-at place at) node called-there

    -- the cells that it reads
    key-of_class : (c : Option ClassNo) → option_map (key_in setup.program place.session) c ≡ key_of setup flow.0 c
    key-of_class None = refl
    key-of_class (Some class) = sym (place-key_for setup (plans_of r) entries legal flow.0 place (own-at place at)
        class)

    pub read-right : (read : List CellMap) → AreRead setup.meaning setup.program (cells_of r.cells) place.session node.0
        read → read ≡ cells_read setup flow.0 node.0 entries
    read-right read are =
        let known = known-next in
        let sig = known.sig in
        let after = is.after in
        let key_is : (name : List ℕ) → option_map (key_in setup.program place.session)
        (class_in setup.program (declared setup.program node.0) name) ≡ cell_key setup flow.0 node.0 name =
        λ name. key-of_class (class_named setup.program node.0 name) in
        let same : Some are.classes ≡ Some (classes_by setup.program (declared setup.program node.0) sig.cells) =
        sym are.are_classes ∙ classes-known setup.meaning setup.program node.0 known
        (let given = is.given in known-guarded setup.meaning setup.program given.kinds given.sound node.0 known) in
        let classes : are.classes ≡ classes_by setup.program (declared setup.program node.0) sig.cells = cc in
        are.read_
        ∙ ap (cells_under setup.program (cells_of r.cells) place.session) classes
        ∙ map-map _ _ sig.cells
        ∙ (λ i. map (λ (use_ : CellUse). cell_at (after.cells_ i) (key_is use_.name i)) sig.cells)
        ∙ sym (cells_read-known setup flow.0 node.0 entries known)

    pub begins-right : (inputs : Inputs) → inputs.node ≡ node → inputs.args ≡ values_at place.local
        → AreRead setup.meaning setup.program (cells_of r.cells) place.session node.0 inputs.cells
        → IsNextCall setup entries flow.0 inputs
    begins-right inputs node_is args_are are = record {
      next = subst (λ (n : NodeNo). CallIsNext setup entries flow.0 n inputs.args) (sym node_is)
          (subst (λ (vs : List Value). CallIsNext setup entries flow.0 node vs) (sym args_are) call-is);
      cells_ = read-right inputs.cells are ∙ ap (λ (n : NodeNo). cells_read setup flow.0 n.0 entries) (sym node_is);
    }

    -- the keys of its node's classes
    keys-right : (keys : List Key) → keys ≡ keys_by setup.program place.session (declared setup.program node.0)
        → AreKeys setup flow.0 node.0 keys
    keys-right keys are =
        let own = own-at place at in
        record {
          item = own.item;
          is_item = own.is_item;
          line = own.line;
          is_line = own.is_line;
          keys_ = are ∙ ap (λ (session : ℕ). map (λ (hold : Hold). key_in setup.program session hold.class)
              (declared setup.program node.0)) own.session;
        }

  -- what comes at the flow's place is the call that is its next event
  pub call-there : (node : NodeNo) (args : List Value) → CallIsNext setup entries flow.0 node args → (next : Next)
      → IsComing setup (plans_of r) items flow.0 next → IsComing setup (plans_of r) items flow.0 (nexts.Call node)
  call-there node args call next coming =
      let within = call-item setup entries flow.0 node args call in
      let (own, is_own) = call-coming meaning r is flow within next coming node args call in
      own-there own (subst (λ (n : Next). IsComing setup (plans_of r) items flow.0 n) is_own coming)
    where
      own-there : (own : NodeNo) → IsComing setup (plans_of r) items flow.0 (nexts.Call own)
          → IsComing setup (plans_of r) items flow.0 (nexts.Call node)
      own-there own there =
          let place = there.place in
          let same = calls-unique setup entries flow.0 own node (values_at place.local) args
          (call-is own there place there.is_place) call in
          subst (λ (n : NodeNo). IsComing setup (plans_of r) items flow.0 (nexts.Call n)) same.0 there

  -- ---- a call that is made

  module _ (call : CallMade) (may : MayCall setup entries flow call) where
    pub call-within : flow.0 < length setup.items
    call-within = call-item setup entries flow.0 call.node call.args may.next

  module _ (call : CallMade) (may : MayCall setup entries flow call)
      (coming : IsComing setup (plans_of r) items flow.0 (nexts.Call call.node)) (place : Place)
      (at : slice_get items flow.0 ≡ Some place)
      (new : Place) (answered : HasPlan (plans_of r) setup.items flow.0
      (λ plan. let answer = call.answer in IsAnswered plan place.local answer new.local))
      (session : new.session ≡ place.session)
      (stands : new.stands ≡ place.stands)
      (cells : Kept) (put : let answer = call.answer in cells_of cells ≡ applied setup.program
      (keys_by setup.program place.session (declared setup.program call.node.0)) (cells_of r.cells) answer.puts)
      (made : List Entry)
      (added : made ≡ entries ++ record { flow = flow; event = Call call } ∷ []) where
    abbrev answer : Answer
    answer = call.answer

    abbrev Made : Fields L
    Made = record {
      alloc = r.alloc;
      setup = r.setup;
      places = with_item r.places flow.0 new;
      table = r.table;
      cells = cells;
      live = r.live;
      reads = r.reads;
      made = made;
    }

    args-same : values_at place.local ≡ call.args
    args-same = (calls-unique setup entries flow.0 call.node call.node (values_at place.local) call.args
        (call-is call.node coming place at) may.next).1

    cells-put : cells_of cells ≡ after_event setup flow.0 (cells_after setup entries) (Call call)
    cells-put =
        let after = is.after in
        let are_keys = keys-right call.node coming place at
        (keys_by setup.program place.session (declared setup.program call.node.0)) refl in
        put ∙ ap (λ (ks : List Key). applied setup.program ks (cells_of r.cells) answer.puts) are_keys.keys_
        ∙ applied-after_puts setup flow.0 call.node.0 (keys_at setup are_keys.item are_keys.line call.node.0)
        (cells_of r.cells) answer.puts
        (key_named-keys_at setup flow.0 call.node.0 are_keys.item are_keys.line are_keys.is_item are_keys.is_line)
        ∙ ap (λ (cs : Cells). after_puts setup flow.0 call.node.0 cs answer.puts) after.cells_

    pub made-running : AreFields meaning Made
    made-running = record {
      given = is.given;
      after = subst (λ (es : List Entry). IsAfter setup (plans_of r) es (slice_set items flow.0 new) r.table
          (cells_of cells)) (sym added)
          (moved-call setup (plans_of r) is.given entries items r.table (cells_of r.cells) is.after flow place new at
          call may answered session stands (own-at place at)
          (called-there call.node coming place at) args-same (cells_of cells) cells-put);
      live = is.live ∙ sym (live-still entries flow (Call call) (length setup.items) refl) ∙ ap
          (λ (es : List Entry). live_in es (length setup.items)) (sym added);
      reads_ = is.reads_;
    }

    pub made-adds : AddsCall meaning (state_of r) (state_of Made) flow call
    made-adds = record {
      may = may;
      new_ = λ i. record (state_of r) { entries = added i };
    }
