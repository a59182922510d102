-- A program that is ready to be served is what the words and the files decide.
use Rattle.std.proofs.Common.{◌≡◌, ℕ, ◌⊎◌, inl, inr, List, [], Result, Ok, Err, IfOk, IfErr, refl, sym, ap, subst}
use Rattle.std.specs.Result.{IsErrAnd}
use Rattle.flux_values.specs.Meanings.{LibraryMeaning}
use Rattle.flux_library.specs.Documents.{DocMap}
use Rattle.flux_outside.specs.declared.stores.File.TheVariants.{Found}
use Rattle.flux_model.specs.declared.programs.Program.{Program}
use Rattle.flux_model.specs.declared.programs.NodeNo.{NodeNo}
use Rattle.flux_model.specs.declared.programs.Hold.{Hold}
use Rattle.flux_model.specs.declared.signatures.NodeSig.{NodeSig}
use Rattle.flux_syntax.specs.ProgramOfText.{program_of}
use Rattle.flux_hoist.specs.declared.checked.Checked.{Checked}
use Rattle.flux_check.specs.Checked.{IsChecked}
use Rattle.flux_doors.specs.declared.framing.Framing.{Framing}
use Rattle.flux_sources.specs.Sources.{IsServed, IsNotServed}
use Rattle.flux_cli.specs.Forms.{Serving}
use Rattle.flux_cli.specs.Commands.{Command, serve, Spells}
use Rattle.flux_commands.specs.declared.files.TheConstants.{PROGRAM_FILE_LIMIT}
use Rattle.flux_commands.specs.declared.prepared.Prepared.{Prepared}
use Rattle.flux_commands.specs.declared.prepared.Prepared.TheVariants.{Text}
use Rattle.flux_commands.specs.declared.refusals.Refusal.{Refusal}
use Rattle.flux_commands.specs.declared.refusals.Refusal.TheVariants as refusals
use Rattle.flux_commands.specs.declared.statuses.Status.{Status}
use Rattle.flux_commands.specs.Told.{Files, Folders, Told, Gives}
use Rattle.flux_commands.specs.Origins.{named}
use Rattle.flux_commands.specs.Documents.{AreDocs}
use Rattle.flux_commands.specs.Inputs.{HasProgram, HasServable}
use Rattle.flux_commands.specs.Answers.{Libraries, IsAnswer}
use Rattle.flux_commands.specs.Refusals.{status_of, line_of}
use Rattle.flux_commands.specs.steps.Refusals.{IsRefused}
use Rattle.flux_commands.specs.steps.Preparing.{IsPrepared}
use Rattle.flux_commands.specs.Counts.{CountsBoth, CountsBothRefusal}
use Rattle.flux_commands.specs.Due.{AnswersDue, AnswersWords}
use Rattle.flux_commands.specs.Prepared.{prepared_status}
use Rattle.flux_commands.specs.Ready.{IsReady, as_text}
use Rattle.flux_commands.proofs.Loading.{has_program, for_library}
use Rattle.flux_commands.proofs.Documented.{due_prepared}

-- ---- errors that `?` passes on

-- what is so of the error's status is so of what is ready, as a text
pub passed_text : {T : Type 0} (P : Status → Type 0) (own : Refusal) (result : Result T Refusal) → IsErrAnd result (λ e. e ≡ own) → P (status_of own) → P (prepared_status (as_text result))
passed_text P own (Ok x) is p = absurd is
passed_text P own (Err e) is p = subst (λ (r : Refusal). P (status_of r)) (sym is) p

-- and its counts
pub passed_counts : {T : Type 0} (own : Refusal) (result : Result T Refusal) (s t f g : ℕ) → IsErrAnd result (λ e. e ≡ own) → CountsBothRefusal own s t f g → CountsBoth (as_text result) s t f g
passed_counts own (Ok x) s t f g is counts = absurd is
passed_counts own (Err e) s t f g is counts = subst (λ (r : Refusal). CountsBothRefusal r s t f g) (sym is) counts

-- two facts of what is there are one more
pub if_ok_both : {T : Type 0} (P Q R : T → Type 0) (result : Result T Refusal) → ((x : T) → P x → Q x → R x) → IfOk result P → IfOk result Q → IfOk result R
if_ok_both P Q R (Ok x) both p q = both x p q
if_ok_both P Q R (Err e) both p q = tt

-- ---- a program that is ready

module _ (meaning : LibraryMeaning) (text : List ℕ) (program : Program) (sigs : List NodeSig) (order : List NodeNo) (sets : List (List Hold)) (sizes : List ℕ) (c : IsChecked meaning text program sigs order sets sizes) (told : Files) (file : List ℕ) (gives : Gives told file PROGRAM_FILE_LIMIT (Found text)) where
  pub not_served : (serving : Serving) → IsNotServed meaning program → IsRefused meaning (serve file serving) told refusals.NotServed
  not_served serving none = inl (
    record {
      decls = c.decls;
      has = has_program meaning text program sigs order sets sizes c told (named file) gives;
      none = subst (IsNotServed meaning) c.checked.is none;
    },
    refl,
  )

pub is_ready : (meaning : LibraryMeaning) (text : List ℕ) (checked : Checked) (framing : Framing) (told : Files) (file : List ℕ)
    → IsChecked meaning text checked.program checked.sigs.nodes checked.order.nodes checked.sets.nodes checked.sizes → Gives told file PROGRAM_FILE_LIMIT (Found text) → IsServed meaning checked.program framing
    → IsReady meaning told (named file) checked framing
is_ready meaning text checked framing told file c gives source = record {
  decls = c.decls;
  has = has_program meaning text checked.program checked.sigs.nodes checked.order.nodes checked.sets.nodes checked.sizes c told (named file) gives;
  is = c.checked.is;
  sound = for_library meaning text checked.program checked.sigs.nodes checked.order.nodes checked.sets.nodes checked.sizes c;
  source = source;
}

-- its file has a program that can be served
unfoldable pub has_servable : (meaning : LibraryMeaning) (told : Files) (file : List ℕ) (checked : Checked) (framing : Framing) → IsReady meaning told (named file) checked framing → HasServable meaning told (named file)
has_servable meaning told file checked framing ready = record {
  decls = ready.decls;
  has = ready.has;
  framing = framing;
  source = subst (λ (p : Program). IsServed meaning p framing) ready.is ready.source;
}

-- ---- what is due, after the documents

module _ (library : Libraries) (file : List ℕ) (serving : Serving) (files : Files) (folders : Folders) (docs : DocMap) (are : AreDocs folders serving.docs docs) where
  servable_text : {T : Type 0} (result : Result T Refusal) → IfOk result (λ x. HasServable (library docs) files (named file)) → IfOk (as_text result) (IsPrepared (library docs) (serve file serving) files)
  servable_text (Ok x) there = (refl, there)
  servable_text (Err e) there = tt

  refused_text : {T : Type 0} (result : Result T Refusal) → IfErr result (IsRefused (library docs) (serve file serving) files) → IfErr (as_text result) (IsRefused (library docs) (serve file serving) files)
  refused_text (Ok x) refused = tt
  refused_text (Err e) refused = refused

  pub due_ready : {T : Type 0} (result : Result T Refusal) → IfOk result (λ x. HasServable (library docs) files (named file)) → IfErr result (IsRefused (library docs) (serve file serving) files)
      → AnswersDue library (serve file serving) (record { files = files; folders = folders }) (prepared_status (as_text result))
  due_ready result there refused = due_prepared library (serve file serving) files folders docs (as_text result) are (servable_text result there) (refused_text result refused) (λ tells stands. tt)

-- ---- the words

-- there was no memory for them
module _ (library : Libraries) (words : List (List ℕ)) (told : Told) (own : Refusal) (short : own ≡ refusals.Memory) where
  pub short_answer : IsAnswer library words told (status_of own) [] (line_of own)
  short_answer = subst (λ (r : Refusal). IsAnswer library words told (status_of r) [] (line_of r)) (sym short) (inr (inr (refl, refl, refl)))

  pub short_due : AnswersWords library words told (status_of own)
  short_due command spelled tells due text line decided = inr (inr (ap status_of short))

  pub short_counts : (s f : ℕ) → CountsBothRefusal own s s f f
  short_counts s f = subst (λ (r : Refusal). CountsBothRefusal r s s f f) (sym short) (record { store_ = refl; folder_ = refl })

-- they spell one command
pub only_due : (library : Libraries) (words : List (List ℕ)) (told : Told) (command : Command) (status : Status) → ((other : Command) → Spells words other → command ≡ other) → AnswersDue library command told status → AnswersWords library words told status
only_due library words told command status only due other spelled = subst (λ (x : Command). AnswersDue library x told status) (only other spelled) due
