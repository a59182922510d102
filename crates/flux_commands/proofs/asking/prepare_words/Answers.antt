use Rattle.flux_cli.specs.Asking.{asked}
use Rattle.std.proofs.Common.{◌≡◌, inl, inr, refl}
use Rattle.flux_commands.specs.declared.refusals.Refusal.TheVariants as refusals
use Rattle.flux_commands.specs.declared.statuses.Status.{Status}
use Rattle.flux_commands.specs.declared.statuses.Status.TheVariants as statuses
use Rattle.flux_commands.specs.BuiltIn.{built_in}
use Rattle.flux_commands.specs.Told.{Told}
use Rattle.flux_commands.specs.Prepared.{prepared_status}
use Rattle.flux_commands.proofs.Passed.{passed_status}
use Rattle.flux_commands.proofs.Words.{nothing_asked, words_due}
use Rattle.flux_commands.proofs.asking.prepare_words.Goals as goal

pub returns-in_err-wanted-clause-asked : goal.returns-in_err-wanted-clause-asked
returns-in_err-wanted-clause-asked g c =
    let told : Told = record { files = g.S.Store.files c.args.store.now; folders = g.F.Folder.folders c.args.folder.now } in
    nothing_asked built_in c.args.words.now told (prepared_status c.from_residual.result) _ _
    (inr (passed_status (λ (s : Status). s ≡ statuses.Memory) refusals.Memory c.from_residual.result c.from_residual.ensures.1 refl))

pub returns-in-None-clause-asked : goal.returns-in-None-clause-asked
returns-in-None-clause-asked g c =
    let told : Told = record { files = g.S.Store.files c.args.store.now; folders = g.F.Folder.folders c.args.folder.now } in
    nothing_asked built_in c.args.words.now told statuses.Usage _ _ (inl (rw c.in-None.is at c.in_ok-wanted.ensures.none))

pub returns-in-None-clause-complete : goal.returns-in-None-clause-complete
returns-in-None-clause-complete g c = λ command spells. let none = rw c.in-None.is at c.in_ok-wanted.ensures.none in absurd (none command spells)

pub returns-in-Some-clause-complete : goal.returns-in-Some-clause-complete
returns-in-Some-clause-complete g c =
    let told : Told = record { files = g.S.Store.files c.args.store.now; folders = g.F.Folder.folders c.args.folder.now } in
    let only = rw c.in-Some.is at c.in_ok-wanted.ensures.command in
    words_due built_in c.args.words.now told (asked c.in-Some.wanted) (prepared_status c.prepare_asked.result) only c.prepare_asked.ensures.complete
