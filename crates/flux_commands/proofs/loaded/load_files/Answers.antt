use Rattle.std.proofs.Common.{refl}
use Rattle.flux_commands.specs.Origins.{named}
use Rattle.flux_commands.specs.steps.Loading.{IsUnloaded}
use Rattle.flux_commands.proofs.Passed.{passed}
use Rattle.flux_commands.proofs.Loading.{program_unchecked, items_unread, items_faulty, has_program, has_sources, asks_first, asks_second, asks_more}
use Rattle.flux_commands.proofs.loaded.load_files.Goals as goal

-- ---- the program

pub returns-in_err-checked-clause-asked : goal.returns-in_err-checked-clause-asked
returns-in_err-checked-clause-asked g c =
    asks_first (g.L.Meaning.meaning c.args.library.now) (g.S.Store.files c.args.store.now) c.args.file.now c.args.items.now _ _ c.load_program.ensures.asked

pub returns-in_err-checked-clause-refused : goal.returns-in_err-checked-clause-refused
returns-in_err-checked-clause-refused g c =
    let meaning = g.L.Meaning.meaning c.args.library.now in
    let told = g.S.Store.files c.args.store.now in
    passed (IsUnloaded meaning told (named c.args.file.now) (named c.args.items.now)) c.in_err-checked.field-0.0 c.from_residual.result c.from_residual.ensures.1
    (program_unchecked meaning told (named c.args.file.now) (named c.args.items.now) c.args.file.now refl c.in_err-checked.field-0.0 c.in_err-checked.ensures.refused)

-- ---- the items

pub returns-in_err-items_text-clause-asked : goal.returns-in_err-items_text-clause-asked
returns-in_err-items_text-clause-asked g c =
    let meaning = g.L.Meaning.meaning c.args.library.now in
    let told = g.S.Store.files c.args.store.now in
    let own = c.in_ok-checked.ensures.checked in
    asks_second meaning told c.args.file.now c.args.items.now _ _ _ c.load_program.ensures.asked c.load.ensures.asked _
    (has_program meaning own.text c.in_ok-checked.checked.program c.in_ok-checked.checked.sigs.nodes c.in_ok-checked.checked.order.nodes c.in_ok-checked.checked.sets.nodes c.in_ok-checked.checked.sizes own.is told (named c.args.file.now) own.gives)

pub returns-in_err-items_text-clause-refused : goal.returns-in_err-items_text-clause-refused
returns-in_err-items_text-clause-refused g c =
    let meaning = g.L.Meaning.meaning c.args.library.now in
    let told = g.S.Store.files c.args.store.now in
    let own = c.in_ok-checked.ensures.checked in
    let unread = rw c.load_program.ensures.kept at c.in_err-items_text.ensures.unread in
    passed (IsUnloaded meaning told (named c.args.file.now) (named c.args.items.now)) c.in_err-items_text.field-0.0 c.from_residual-in_err-items_text.result c.from_residual-in_err-items_text.ensures.1
    (items_unread meaning own.text c.in_ok-checked.checked.program c.in_ok-checked.checked.sigs.nodes c.in_ok-checked.checked.order.nodes c.in_ok-checked.checked.sets.nodes c.in_ok-checked.checked.sizes own.is told (named c.args.file.now) own.gives
    (named c.args.items.now) c.args.file.now c.args.items.now refl refl c.in_err-items_text.field-0.0 unread)

pub items_of-requires : goal.items_of-requires
items_of-requires g c =
    let own = c.in_ok-checked.ensures.checked in
    has_sources (g.L.Meaning.meaning c.args.library.now) own.text c.in_ok-checked.checked.program c.in_ok-checked.checked.sigs.nodes c.in_ok-checked.checked.order.nodes c.in_ok-checked.checked.sets.nodes c.in_ok-checked.checked.sizes own.is

pub returns-in_err-items-clause-asked : goal.returns-in_err-items-clause-asked
returns-in_err-items-clause-asked g c =
    let meaning = g.L.Meaning.meaning c.args.library.now in
    let told = g.S.Store.files c.args.store.now in
    let own = c.in_ok-checked.ensures.checked in
    asks_second meaning told c.args.file.now c.args.items.now _ _ _ c.load_program.ensures.asked c.load.ensures.asked _
    (has_program meaning own.text c.in_ok-checked.checked.program c.in_ok-checked.checked.sigs.nodes c.in_ok-checked.checked.order.nodes c.in_ok-checked.checked.sets.nodes c.in_ok-checked.checked.sizes own.is told (named c.args.file.now) own.gives)

pub returns-in_err-items-clause-refused : goal.returns-in_err-items-clause-refused
returns-in_err-items-clause-refused g c =
    let meaning = g.L.Meaning.meaning c.args.library.now in
    let told = g.S.Store.files c.args.store.now in
    let own = c.in_ok-checked.ensures.checked in
    let more = rw c.load_program.ensures.kept at c.in_ok-items_text.ensures.found in
    let refused = rw c.as_bytes.ensures at c.in_err-items.ensures.refused in
    passed (IsUnloaded meaning told (named c.args.file.now) (named c.args.items.now)) c.in_err-items.field-0.0 c.from_residual-in_err-items.result c.from_residual-in_err-items.ensures.1
    (items_faulty meaning own.text c.in_ok-checked.checked.program c.in_ok-checked.checked.sigs.nodes c.in_ok-checked.checked.order.nodes c.in_ok-checked.checked.sets.nodes c.in_ok-checked.checked.sizes own.is told (named c.args.file.now) own.gives
    (named c.args.items.now) c.in_ok-items_text.items_text more c.in_err-items.field-0.0 refused)

-- ---- both

pub returns-clause-asked : goal.returns-clause-asked
returns-clause-asked g c =
    let meaning = g.L.Meaning.meaning c.args.library.now in
    let told = g.S.Store.files c.args.store.now in
    let own = c.in_ok-checked.ensures.checked in
    asks_second meaning told c.args.file.now c.args.items.now _ _ _ c.load_program.ensures.asked c.load.ensures.asked _
    (has_program meaning own.text c.in_ok-checked.checked.program c.in_ok-checked.checked.sigs.nodes c.in_ok-checked.checked.order.nodes c.in_ok-checked.checked.sets.nodes c.in_ok-checked.checked.sizes own.is told (named c.args.file.now) own.gives)

pub returns-clause-both : goal.returns-clause-both
returns-clause-both g c = asks_more _ _ _ c.args.file.now c.args.items.now c.load_program.ensures.asked c.load.ensures.asked

pub returns-clause-loaded : goal.returns-clause-loaded
returns-clause-loaded g c =
    let own = c.in_ok-checked.ensures.checked in
    record {
      text = own.text;
      gives = own.gives;
      checked = own.is;
      items_text = c.in_ok-items_text.items_text;
      gives_items = rw c.load_program.ensures.kept at c.in_ok-items_text.ensures.found;
      are = rw c.as_bytes.ensures at c.in_ok-items.ensures.items;
    }
