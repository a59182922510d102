use Rattle.std.proofs.Common.{◌≡◌, ◌==◌, ℕ, false, List, sym, subst, ◌∙◌}
use Rattle.std.proofs.lemmas.Bool.{eqb-true}
use Rattle.flow_model.specs.declared.journals.Entry.{Entry}
use Rattle.flow_model.specs.Legal.{IsWhole}
use Rattle.flow_state.specs.States.{SetupState, setup_by}
use Rattle.flow_core.specs.States.{setup_in}
use Rattle.flux_serve.proofs.AtOnceDriven.{whole-none-live}
use Rattle.flux_serve.proofs.batches_at_once.run_queues.Goals as goal

pub returns-clause-whole : goal.returns-clause-whole
returns-clause-whole g c none =
    let meaning = g.L.Meaning.meaning in
    let core = c.drive-core.result in
    let on = c.drive-core.ensures.on in
    let whole = c.none_live_is_whole.ensures core c.into_parts-journal.ensures.kept (sym c.live-whole.ensures ∙ eqb-true c.live-whole.result 0 none) in
    let journal = c.into_parts-journal.result.0 in
    let E : List Entry → Type 0 = λ e. IsWhole (setup_in meaning core) e in
    let S : SetupState g.row.L.Denot → Type 0 = λ s. IsWhole (setup_by meaning s) journal.entries in
    subst S on.setup_ (subst E (sym c.into_parts-journal.ensures.journal) whole)

pub returns-clause-broken : goal.returns-clause-broken
returns-clause-broken g c broken whole =
    let meaning = g.L.Meaning.meaning in
    let core = c.drive-core.result in
    let on = c.drive-core.ensures.on in
    let journal = c.into_parts-journal.result.0 in
    let E : List Entry → Type 0 = λ e. IsWhole (setup_in meaning core) e in
    let S : SetupState g.row.L.Denot → Type 0 = λ s. IsWhole (setup_by meaning s) journal.entries in
    let all = subst E c.into_parts-journal.ensures.journal (subst S (sym on.setup_) whole) in
    let none : c.live-whole.result ≡ 0 = c.live-whole.ensures ∙ whole-none-live (setup_in meaning core) core.entries all in
    let N : ℕ → Type 0 = λ n. (n == 0) ≡ false in
    let no : (0 == 0) ≡ false = subst N none broken in
    absurd cc
