use Rattle.std.proofs.Common.{◌≡◌, List, sym, ap, subst, ◌∙◌}
use Rattle.std.specs.Arc.{arc_value}
use Rattle.flux_values.specs.Meanings.{LibraryMeaning}
use Rattle.flux_model.specs.declared.programs.Program.{Program}
use Rattle.flow_model.specs.declared.journals.Journal.{Journal}
use Rattle.flow_model.specs.Setup.{Setup}
use Rattle.flux_laws.specs.Hoisted.{locks_of}
use Rattle.flux_journal.specs.Journals.{ReadsAs}
use Rattle.flux_audit.specs.declared.verdicts.Verdict.{Verdict}
use Rattle.flux_audit.specs.Verdicts.{HasVerdict}
use Rattle.flux_swarms.specs.Swarms.{Reads, IsSwarmText}
use Rattle.flux_runs.specs.Setups.{setup_of}
use Rattle.flux_commands.proofs.Swarming.{right_reads, swarm_printed}
use Rattle.flux_commands.proofs.audited.swarm_text.Goals as goal

pub print_swarm-requires-clause-reads : goal.print_swarm-requires-clause-reads
print_swarm-requires-clause-reads g c =
    let meaning : LibraryMeaning = g.L.Meaning.meaning (arc_value c.args.library) in
    let p : Program = c.args.checked.program in
    let text = c.args.journal.now in
    let own : Setup = setup_of p (locks_of p) c.args.items meaning in
    let yes = subst (λ (v : Verdict). HasVerdict own text v) c.in-Yes.is c.in_ok-program.ensures.has in
    let same : c.deref.result.now ≡ p = c.deref.ensures ∙ c.in_ok-program.ensures.same in
    subst (λ (q : Program). Reads q text) (sym same)
    (right_reads meaning p c.args.items c.requires.can text c.in-Yes.events yes)

pub returns-in-Yes : goal.returns-in-Yes
returns-in-Yes g c =
    let meaning : LibraryMeaning = g.L.Meaning.meaning (arc_value c.args.library) in
    let other : LibraryMeaning = g.L.Meaning.meaning c.deref-in-Yes.result.now in
    let p : Program = c.args.checked.program in
    let text = c.args.journal.now in
    let hash = c.args.hash.now in
    let printed : List _ = c.in_ok-text-in-Yes.text in
    let library = g.met.L.Library in
    let own : Setup = setup_of p (locks_of p) c.args.items meaning in
    let yes = subst (λ (v : Verdict). HasVerdict own text v) c.in-Yes.is c.in_ok-program.ensures.has in
    let same : c.deref.result.now ≡ p = c.deref.ensures ∙ c.in_ok-program.ensures.same in
    let means : other ≡ meaning = ap g.L.Meaning.meaning (c.deref-in-Yes.ensures ∙ c.in_ok-own.ensures) in
    let told = subst
    (λ (q : Program). (journal : Journal) → ReadsAs q text journal → IsSwarmText other q journal.entries hash printed)
    same c.in_ok-text-in-Yes.ensures in
    rw c.text.ensures (swarm_printed meaning p c.args.items c.requires.can text c.legal_calls_are_right.ensures
    (library.lawful (arc_value c.args.library)) hash printed c.in-Yes.events yes
    (subst
    (λ (m : LibraryMeaning). (journal : Journal) → ReadsAs p text journal → IsSwarmText m p journal.entries hash printed)
    means told))
