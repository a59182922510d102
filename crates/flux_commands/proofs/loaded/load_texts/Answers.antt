use Rattle.std.proofs.Common.{refl}
use Rattle.flux_commands.specs.Origins.{made}
use Rattle.flux_commands.specs.steps.Loading.{IsUnloaded}
use Rattle.flux_commands.proofs.Passed.{passed}
use Rattle.flux_commands.proofs.Loading.{program_faulty, items_faulty, has_sources}
use Rattle.flux_commands.proofs.loaded.load_texts.Goals as goal

pub returns-in_err-checked-clause-refused : goal.returns-in_err-checked-clause-refused
returns-in_err-checked-clause-refused g c = λ told.
    let meaning = g.L.Meaning.meaning c.args.library.now in
    passed (IsUnloaded meaning told (made c.args.text.now) (made c.args.items_text.now)) c.in_err-checked.field-0.0 c.from_residual.result c.from_residual.ensures.1
    (program_faulty meaning told (made c.args.text.now) (made c.args.items_text.now) c.args.text.now c.in_err-checked.field-0.0 refl c.in_err-checked.ensures.refused)

pub items_of-requires : goal.items_of-requires
items_of-requires g c =
    has_sources (g.L.Meaning.meaning c.args.library.now) c.args.text.now c.in_ok-checked.checked.program c.in_ok-checked.checked.sigs.nodes c.in_ok-checked.checked.order.nodes c.in_ok-checked.checked.sets.nodes c.in_ok-checked.checked.sizes c.in_ok-checked.ensures.checked

pub returns-in_err-items-clause-refused : goal.returns-in_err-items-clause-refused
returns-in_err-items-clause-refused g c = λ told.
    let meaning = g.L.Meaning.meaning c.args.library.now in
    passed (IsUnloaded meaning told (made c.args.text.now) (made c.args.items_text.now)) c.in_err-items.field-0.0 c.from_residual-in_err-items.result c.from_residual-in_err-items.ensures.1
    (items_faulty meaning c.args.text.now c.in_ok-checked.checked.program c.in_ok-checked.checked.sigs.nodes c.in_ok-checked.checked.order.nodes c.in_ok-checked.checked.sets.nodes c.in_ok-checked.checked.sizes c.in_ok-checked.ensures.checked told (made c.args.text.now) refl
    (made c.args.items_text.now) c.args.items_text.now refl c.in_err-items.field-0.0 c.in_err-items.ensures.refused)

pub returns-clause-loaded : goal.returns-clause-loaded
returns-clause-loaded g c = λ told. record {
  text = c.args.text.now;
  gives = refl;
  checked = c.in_ok-checked.ensures.checked;
  items_text = c.args.items_text.now;
  gives_items = refl;
  are = c.in_ok-items.ensures.items;
}
