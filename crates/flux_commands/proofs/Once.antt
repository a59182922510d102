-- With their documents, a command and what it reads decide one status.
use Rattle.std.proofs.Common.{◌≡◌, ℕ, inl, inr, ◌⊎◌, List, length, Some, None, IsSome, Ok, refl, sym, subst, ◌∙◌}
use Rattle.flux_values.specs.Meanings.{LibraryMeaning}
use Rattle.flux_outside.specs.declared.stores.File.{File}
use Rattle.flux_outside.specs.declared.stores.File.TheVariants.{Found, Missing, Longer}
use Rattle.flux_faults.specs.declared.faults.StaticFault.{StaticFault}
use Rattle.flux_model.specs.Locks.{AreLocks}
use Rattle.flux_model.specs.declared.items.Item.{Item}
use Rattle.flux_model.proofs.Hoisting.{locks_once}
use Rattle.flux_syntax.specs.declared.declarations.Decl.{Decl}
use Rattle.flux_syntax.specs.Declares.{Declares}
use Rattle.flux_syntax.specs.ProgramOfText.{program_of}
use Rattle.flux_syntax.proofs.Texts.{one_list, no_decls}
use Rattle.flux_check.specs.Judgement.{AreSound, IsTextFault}
use Rattle.flux_sources.specs.Sources.{IsServed}
use Rattle.flux_check.proofs.Exclusive.{not_both}
use Rattle.flux_items.specs.declared.rules.ItemRules.{ItemRules}
use Rattle.flux_items.specs.Items.{AreItemsOf}
use Rattle.flux_values.specs.Answers.{IsOrMemory}
use Rattle.flux_items.specs.declared.rules.ItemFault.TheVariants as item_faults
use Rattle.flux_items.specs.Faults.{IsFaultOf}
use Rattle.flux_items.proofs.OneAnswer.{no_items_and_fault, answers_items}
use Rattle.flow_model.specs.declared.journals.Journal.{Journal}
use Rattle.flow_model.specs.Setup.{Setup}
use Rattle.flux_audit.specs.declared.verdicts.Verdict.{Verdict}
use Rattle.flux_audit.specs.declared.verdicts.Verdict.TheVariants as verdicts
use Rattle.flux_audit.specs.Verdicts.{HasVerdict}
use Rattle.flux_audit.proofs.Judging.{one_verdict}
use Rattle.flux_cli.specs.Commands.{Command, check, plan, format, run, audit, load, serve, help, simulate, swarm}
use Rattle.flux_commands.specs.declared.files.TheConstants.{PROGRAM_FILE_LIMIT, ITEMS_FILE_LIMIT, JOURNAL_FILE_LIMIT}
use Rattle.flux_commands.specs.declared.statuses.Status.{Status}
use Rattle.flux_commands.specs.declared.statuses.Status.TheVariants as statuses
use Rattle.flux_commands.specs.Told.{Files, Gives, IsLost}
use Rattle.flux_commands.specs.Origins.{Origin, named, made, GivesText, TellsText}
use Rattle.flux_commands.specs.Commands.{ReadsProgram, TellsFiles}
use Rattle.flux_commands.specs.Inputs.{HasDecls, HasProgram, HasItems, GivesItems, HasServable, HasUnservable}
use Rattle.flux_commands.specs.Items.{rules_of, rules_in, kinds_in}
use Rattle.flux_commands.specs.Audited.{setup_given, IsAudited}
use Rattle.flux_commands.specs.Swarmed.{IsSwarmed}
use Rattle.flux_runs.specs.Setups.{setup_of}
use Rattle.flux_commands.specs.Printed.{IsPrinted, IsRefuted}
use Rattle.flux_commands.specs.Causes.{IsStaticOf, IsStatic, IsItemsText, IsItems, AreItemsLost, IsJournalLost, IsMissing, IsUnserved}
use Rattle.flux_commands.specs.steps.Preparing.{AreRead, ReadsItems, IsFirm}

-- ---- one text, one list of declarations, one program

found_is : (told : Files) (name : List ℕ) (max : ℕ) (a b : File) → IsSome told → Gives told name max a → Gives told name max b → a ≡ b
found_is None name max a b tells x y = absurd cc
found_is (Some files) name max a b tells x y = x.same ∙ sym y.same

file_is : (told : Files) (name : List ℕ) (max : ℕ) (a b : List ℕ) → IsSome told → Gives told name max (Found a) → Gives told name max (Found b) → a ≡ b
file_is told name max a b tells x y = let e = found_is told name max (Found a) (Found b) tells x y in cc

pub text_is : (told : Files) (from : Origin) (max : ℕ) (a b : List ℕ) → TellsText told from → GivesText told from max a → GivesText told from max b → a ≡ b
text_is told (named name) max a b tells x y = file_is told name max a b tells x y
text_is told (made own) max a b tells x y = x ∙ sym y

pub not_lost : (told : Files) (name : List ℕ) (max : ℕ) (text : List ℕ) → IsSome told → Gives told name max (Found text) → IsLost told name max → ⊥
not_lost told name max text tells x (inl y) = let e = found_is told name max (Found text) Missing tells x y in absurd cc
not_lost told name max text tells x (inr y) = let e = found_is told name max (Found text) Longer tells x y in absurd cc

pub decls_is : (told : Files) (program : Origin) (a b : List Decl) → TellsText told program → HasDecls told program a → HasDecls told program b → a ≡ b
decls_is told program a b tells x y = one_list x.text a b x.declared (subst (Declares b) (text_is told program PROGRAM_FILE_LIMIT y.text x.text tells y.gives x.gives) y.declared)

-- sound declarations have one list of rules
pub rules_same : (meaning : LibraryMeaning) (decls other : List Decl) (one : AreSound meaning decls) (two : AreSound meaning other) → other ≡ decls → rules_in meaning other two ≡ rules_in meaning decls one
rules_same meaning decls other one two same =
    let locks : two.locks ≡ one.locks = locks_once (program_of decls) two.locks one.locks (subst (λ (ds : List Decl). AreLocks (program_of ds) two.locks) same two.are_locks) one.are_locks in
    λ i. rules_of (program_of (same i)) (kinds_in meaning (same i)) (locks i)

-- ---- what excludes what

module _ (meaning : LibraryMeaning) (told : Files) where
  -- the text that has a fault is the one that the command reads
  pub gives_here : (program other : Origin) (text : List ℕ) → other ≡ program → GivesText told other PROGRAM_FILE_LIMIT text → GivesText told program PROGRAM_FILE_LIMIT text
  gives_here program other text same gives = subst (λ (from : Origin). GivesText told from PROGRAM_FILE_LIMIT text) same gives

  module _ (program : Origin) (tells : TellsText told program) where
    declared_here : (text : List ℕ) (decls : List Decl) → HasDecls told program decls → GivesText told program PROGRAM_FILE_LIMIT text → Declares decls text
    declared_here text decls h gives = subst (Declares decls) (text_is told program PROGRAM_FILE_LIMIT h.text text tells h.gives gives) h.declared

    -- a sound program has no fault
    pub not_faulty : (text : List ℕ) (fault : StaticFault) (decls : List Decl) → HasProgram meaning told program decls → GivesText told program PROGRAM_FILE_LIMIT text → IsTextFault meaning text fault → ⊥
    not_faulty text fault decls h gives stands =
        not_both meaning text fault (record { decls = decls; declared = declared_here text decls h.has gives; sound = h.sound }) stands

    -- a program that is there isn't lost
    pub program_there : (decls : List Decl) → HasDecls told program decls → (name : List ℕ) → program ≡ named name → IsSome told → IsLost told name PROGRAM_FILE_LIMIT → ⊥
    program_there decls h name is some lost =
        not_lost told name PROGRAM_FILE_LIMIT h.text some (subst (λ (from : Origin). GivesText told from PROGRAM_FILE_LIMIT h.text) is h.gives) lost

    -- ---- items

    module _ (items : Origin) (tells_items : TellsText told items) where
      rules_here : (a b : HasItems meaning told program items) → let x = a.program_ in let y = b.program_ in rules_in meaning b.decls y.sound ≡ rules_in meaning a.decls x.sound
      rules_here a b = let x = a.program_ in let y = b.program_ in rules_same meaning a.decls b.decls x.sound y.sound (decls_is told program b.decls a.decls tells y.has x.has)

      texts_here : (a b : HasItems meaning told program items) → b.text ≡ a.text
      texts_here a b = text_is told items ITEMS_FILE_LIMIT b.text a.text tells_items b.gives a.gives

      -- a fault of the items is one of this text
      pub fault_here : (a : HasItems meaning told program items) (line : List ℕ) (is : IsItemsText meaning told program items line) → let x = a.program_ in IsFaultOf (rules_in meaning a.decls x.sound) is.fault a.text
      fault_here a line is = let x = a.program_ in
          subst (λ (t : List ℕ). IsFaultOf (rules_in meaning a.decls x.sound) is.fault t) (texts_here a is.has)
          (subst (λ (r : ItemRules). IsFaultOf r is.fault (let b = is.has in b.text)) (rules_here a is.has) is.stands)

      module _ (read : AreRead meaning told program) where
        -- a text that gives items has no fault
        pub no_fault : (line : List ℕ) → GivesItems meaning told program items → IsItemsText meaning told program items line → ⊥
        no_fault line g is = let h = g.has in let x = h.program_ in
            no_items_and_fault (rules_in meaning h.decls x.sound) (read.rules h.decls x) h.text g.its is.fault g.are (fault_here h line is)

        of_ok : (own its : List Item) → IsOrMemory {A = List Item} item_faults.Memory (Ok own) (Ok its) → its ≡ own
        of_ok own its (inl e) = cc
        of_ok own its (inr e) = absurd cc

        -- and gives one list of them
        items_are : (a b : GivesItems meaning told program items) → b.its ≡ a.its
        items_are a b = let h = a.has in let x = h.program_ in let k = b.has in
            let theirs = subst (λ (t : List ℕ). AreItemsOf (rules_in meaning h.decls x.sound) b.its t) (texts_here h k) (subst (λ (r : ItemRules). AreItemsOf r b.its k.text) (rules_here h k) b.are) in
            of_ok a.its b.its (answers_items (rules_in meaning h.decls x.sound) (read.rules h.decls x) h.text (Ok b.its) theirs a.its a.are)

        setups_are : (a b : GivesItems meaning told program items) → setup_given b ≡ setup_given a
        setups_are a b = let h = a.has in let x = h.program_ in let k = b.has in let y = k.program_ in
            let decls = decls_is told program k.decls h.decls tells y.has x.has in
            let sound = x.sound in let other = y.sound in
            let locks : other.locks ≡ sound.locks = locks_once (program_of h.decls) other.locks sound.locks (subst (λ (ds : List Decl). AreLocks (program_of ds) other.locks) decls other.are_locks) sound.are_locks in
            λ i. setup_of (program_of (decls i)) (locks i) (items_are a b i) meaning

        -- a journal has one verdict
        pub one_verdict_here : (journal : List ℕ) (first second : Verdict) → IsSome told → IsAudited meaning told program items journal first → IsAudited meaning told program items journal second → first ≡ second
        one_verdict_here journal first second some a b = let g = a.given in let h = g.has in let x = h.program_ in
            let text = file_is told journal JOURNAL_FILE_LIMIT b.text a.text some b.gives a.gives in
            one_verdict (setup_given a.given) a.text first second (read.named_ h.decls x) a.has_verdict
            (subst (λ (t : List ℕ). HasVerdict (setup_given a.given) t second) text (subst (λ (s : Setup). HasVerdict s b.text second) (setups_are a.given b.given) b.has_verdict))

-- ---- one status

-- a status with what it says: a text that is printed, or a line
abbrev pub View : LibraryMeaning → Command → Files → Status → List ℕ → List ℕ → Type 0
View meaning command told status text line =
    ((status ≡ statuses.Done) × IsPrinted meaning command told text) ⊎ (((status ≡ statuses.No) × IsRefuted meaning command told text)
    ⊎ (((status ≡ statuses.Static) × IsStatic meaning command told line)
    ⊎ (((status ≡ statuses.Items) × IsItems meaning command told line) ⊎ (((status ≡ statuses.Missing) × IsMissing meaning command told line)
    ⊎ ((status ≡ statuses.NotServed) × IsUnserved meaning command told line)))))

-- what a command's program is read from, where it goes on to items, and what these are read from
abbrev HasSound : LibraryMeaning → Files → Origin → Type 0
HasSound meaning told program = (decls : List Decl) × HasProgram meaning told program decls

module _ (meaning : LibraryMeaning) (told : Files) where
  tells_program : (command : Command) (program : Origin) → TellsFiles told command → ReadsProgram command program → TellsText told program
  tells_program (check file) program tells reads = subst (TellsText told) (sym reads) tells
  tells_program (plan file) program tells reads = subst (TellsText told) (sym reads) tells
  tells_program (format file) program tells reads = subst (TellsText told) (sym reads) tells
  tells_program (run file items options) program tells reads = subst (TellsText told) (sym reads) tells
  tells_program (audit file items journal docs) program tells reads = subst (TellsText told) (sym reads) tells
  tells_program (load count first runtime) program tells reads = subst (TellsText told) (sym reads) tt
  tells_program (serve file serving) program tells reads = subst (TellsText told) (sym reads) tells
  tells_program help program tells reads = absurd reads
  tells_program (simulate file items simulating) program tells reads = subst (TellsText told) (sym reads) tells
  tells_program (swarm file items journal hash docs) program tells reads = subst (TellsText told) (sym reads) tells

  -- both are the program's
  same_program : (command : Command) (a b : Origin) → ReadsProgram command a → ReadsProgram command b → a ≡ b
  same_program (check file) a b x y = x ∙ sym y
  same_program (plan file) a b x y = x ∙ sym y
  same_program (format file) a b x y = x ∙ sym y
  same_program (run file items options) a b x y = x ∙ sym y
  same_program (audit file items journal docs) a b x y = x ∙ sym y
  same_program (load count first runtime) a b x y = x ∙ sym y
  same_program (serve file serving) a b x y = x ∙ sym y
  same_program help a b x y = absurd x
  same_program (simulate file items simulating) a b x y = x ∙ sym y
  same_program (swarm file items journal hash docs) a b x y = x ∙ sym y

  -- a file is read, so that files are reported
  some_read : (command : Command) (name : List ℕ) → TellsFiles told command → ReadsProgram command (named name) → IsSome told
  some_read (check file) name tells reads = tells
  some_read (plan file) name tells reads = tells
  some_read (format file) name tells reads = tells
  some_read (run file items options) name tells reads = tells
  some_read (audit file items journal docs) name tells reads = tells
  some_read (load count first runtime) name tells reads = absurd cc
  some_read (serve file serving) name tells reads = tells
  some_read help name tells reads = absurd reads
  some_read (simulate file items simulating) name tells reads = tells
  some_read (swarm file items journal hash docs) name tells reads = tells

  -- ---- what comes after a sound program
  pub record IsSoundOf (command : Command) : Type 0 where
    pub program : Origin
    pub reads : ReadsProgram command program
    pub decls : List Decl
    pub has : HasDecls told program decls
    pub no_fault : (text : List ℕ) (fault : StaticFault) → TellsText told program → GivesText told program PROGRAM_FILE_LIMIT text → IsStaticOf meaning command text fault → ⊥

  pub sound_of : (command : Command) (program : Origin) → ReadsProgram command program → (decls : List Decl) → HasProgram meaning told program decls
      → ((text : List ℕ) (fault : StaticFault) → IsStaticOf meaning command text fault → IsTextFault meaning text fault) → IsSoundOf command
  sound_of command program reads decls h is = record {
    program = program;
    reads = reads;
    decls = decls;
    has = h.has;
    no_fault = λ text fault tells gives stands. not_faulty meaning told program tells text fault decls h gives (is text fault stands);
  }

  -- what can be formatted has none of the faults that formatting looks for
  pub format_sound : (file : List ℕ) (decls : List Decl) → HasDecls told (named file) decls → IsSoundOf (format file)
  format_sound file decls h = record {
    program = named file;
    reads = refl;
    decls = decls;
    has = h;
    no_fault = λ t fault tells gives stands. no_decls fault.kind fault.at t decls stands.0 (declared_here meaning told (named file) tells t decls h gives);
  }

  printed_sound : (command : Command) (text : List ℕ) → IsPrinted meaning command told text → (command ≡ help) ⊎ IsSoundOf command
  printed_sound (check file) text p = inr (sound_of (check file) (named file) refl p.decls p.has (λ t f s. s))
  printed_sound (plan file) text p = inr (sound_of (plan file) (named file) refl p.decls p.has (λ t f s. s))
  printed_sound (format file) text (decls, h, is) = inr (format_sound file decls h)
  printed_sound (run file items options) text p = let g = p.given in let h = g.has in inr (sound_of (run file items options) (named file) refl h.decls h.program_ (λ t f s. s))
  printed_sound (audit file items journal docs) text (events, a, is) = let g = a.given in let h = g.has in inr (sound_of (audit file items journal docs) (named file) refl h.decls h.program_ (λ t f s. s))
  printed_sound (load count first runtime) text p = let g = p.given in let h = g.has in inr (sound_of (load count first runtime) _ refl h.decls h.program_ (λ t f s. s))
  printed_sound (serve file serving) text p = let ready = p.1 in inr (sound_of (serve file serving) (named file) refl ready.decls ready.has (λ t f s. s))
  printed_sound help text p = inl refl
  printed_sound (simulate file items simulating) text p = let g = p.given in let h = g.has in inr (sound_of (simulate file items simulating) (named file) refl h.decls h.program_ (λ t f s. s))
  printed_sound (swarm file items journal hash docs) text p = let g = p.given in let h = g.has in inr (sound_of (swarm file items journal hash docs) (named file) refl h.decls h.program_ (λ t f s. s))

  refuted_sound : (command : Command) (text : List ℕ) → IsRefuted meaning command told text → IsSoundOf command
  refuted_sound (audit file items journal docs) text (line, rule, a, is) = let g = a.given in let h = g.has in sound_of (audit file items journal docs) (named file) refl h.decls h.program_ (λ t f s. s)
  refuted_sound (swarm file items journal hash docs) text (line, rule, a, is) = let g = a.given in let h = g.has in sound_of (swarm file items journal hash docs) (named file) refl h.decls h.program_ (λ t f s. s)
  refuted_sound other text r = absurd r

  items_sound : (command : Command) (line : List ℕ) → IsItems meaning command told line → IsSoundOf command
  items_sound (run file items options) line i = let h = i.has in sound_of (run file items options) (named file) refl h.decls h.program_ (λ t f s. s)
  items_sound (audit file items journal docs) line i = let h = i.has in sound_of (audit file items journal docs) (named file) refl h.decls h.program_ (λ t f s. s)
  items_sound (load count first runtime) line i = let h = i.has in sound_of (load count first runtime) _ refl h.decls h.program_ (λ t f s. s)
  items_sound (simulate file items simulating) line i = let h = i.has in sound_of (simulate file items simulating) (named file) refl h.decls h.program_ (λ t f s. s)
  items_sound (swarm file items journal hash docs) line i = let h = i.has in sound_of (swarm file items journal hash docs) (named file) refl h.decls h.program_ (λ t f s. s)
  items_sound other line i = absurd i

  missed_sound : (command : Command) (name : List ℕ) → AreItemsLost meaning command told name ⊎ IsJournalLost meaning command told name → IsSoundOf command
  missed_sound (run file items options) name (inl l) = sound_of (run file items options) (named file) refl l.decls l.program_ (λ t f s. s)
  missed_sound (audit file items journal docs) name (inl l) = sound_of (audit file items journal docs) (named file) refl l.decls l.program_ (λ t f s. s)
  missed_sound (audit file items journal docs) name (inr l) = let g = l.given in let h = g.has in sound_of (audit file items journal docs) (named file) refl h.decls h.program_ (λ t f s. s)
  missed_sound (simulate file items simulating) name (inl l) = sound_of (simulate file items simulating) (named file) refl l.decls l.program_ (λ t f s. s)
  missed_sound (swarm file items journal hash docs) name (inl l) = sound_of (swarm file items journal hash docs) (named file) refl l.decls l.program_ (λ t f s. s)
  missed_sound (swarm file items journal hash docs) name (inr l) = let g = l.given in let h = g.has in sound_of (swarm file items journal hash docs) (named file) refl h.decls h.program_ (λ t f s. s)
  missed_sound other name (inl l) = absurd l
  missed_sound other name (inr l) = absurd l

  module _ (command : Command) (tells : TellsFiles told command) where
    -- a sound program has no fault
    pub sound_static : (line : List ℕ) → IsSoundOf command → IsStatic meaning command told line → ⊥
    sound_static line sound s =
        sound.no_fault s.text s.fault (tells_program command sound.program tells sound.reads)
        (gives_here meaning told sound.program s.program s.text (same_program command s.program sound.program s.reads sound.reads) s.gives) s.stands

    -- and isn't lost
    sound_lost : (name : List ℕ) → IsSoundOf command → ReadsProgram command (named name) × IsLost told name PROGRAM_FILE_LIMIT → ⊥
    sound_lost name sound (reads, lost) =
        program_there meaning told sound.program (tells_program command sound.program tells sound.reads) sound.decls sound.has name
        (same_program command sound.program (named name) sound.reads reads) (some_read command name tells reads) lost

    static_lost : (line : List ℕ) (name : List ℕ) → IsStatic meaning command told line → ReadsProgram command (named name) × IsLost told name PROGRAM_FILE_LIMIT → ⊥
    static_lost line name s (reads, lost) =
        not_lost told name PROGRAM_FILE_LIMIT s.text (some_read command name tells reads)
        (gives_here meaning told (named name) s.program s.text (same_program command s.program (named name) s.reads reads) s.gives) lost

    pub printed_static : (text line : List ℕ) → IsPrinted meaning command told text → IsStatic meaning command told line → ⊥
    printed_static text line p s = elim (printed_sound command text p) [
      | inl e ↦ by_help command e s.reads
      | inr sound ↦ sound_static line sound s
    ]
      where
        by_help : (own : Command) → own ≡ help → ReadsProgram own s.program → ⊥
        by_help own e reads = subst (λ (c : Command). ReadsProgram c s.program) e reads

    static_missing : (said line : List ℕ) → IsStatic meaning command told said → IsMissing meaning command told line → ⊥
    static_missing said line s m = elim m.lost [
      | inl lost ↦ static_lost said m.name s lost
      | inr late ↦ sound_static said (missed_sound command m.name late) s
    ]

  -- ---- what rests on items: one thing alone
  pub late_missing : (command : Command) (line : List ℕ) → TellsFiles told command → IsSoundOf command → IsMissing meaning command told line → (name : List ℕ) × (AreItemsLost meaning command told name ⊎ IsJournalLost meaning command told name)
  late_missing command line tells sound m = elim m.lost [
    | inl lost ↦ absurd (sound_lost command tells m.name sound lost)
    | inr late ↦ (m.name, late)
  ]

  printed_late : (command : Command) (text : List ℕ) (name : List ℕ) → TellsFiles told command → IsPrinted meaning command told text → AreItemsLost meaning command told name ⊎ IsJournalLost meaning command told name → ⊥
  printed_late (run file items options) text name tells p (inl l) = let g = p.given in let h = g.has in not_lost told items ITEMS_FILE_LIMIT h.text tells h.gives l.lost
  printed_late (audit file items journal docs) text name tells p (inl l) = let a = p.1 in let g = a.given in let h = g.has in not_lost told items ITEMS_FILE_LIMIT h.text tells h.gives l.lost
  printed_late (audit file items journal docs) text name tells p (inr l) = let a = p.1 in not_lost told journal JOURNAL_FILE_LIMIT a.text tells a.gives l.lost
  printed_late (simulate file items simulating) text name tells p (inl l) = let g = p.given in let h = g.has in not_lost told items ITEMS_FILE_LIMIT h.text tells h.gives l.lost
  printed_late (swarm file items journal hash docs) text name tells p (inl l) = let g = p.given in let h = g.has in not_lost told items ITEMS_FILE_LIMIT h.text tells h.gives l.lost
  printed_late (swarm file items journal hash docs) text name tells p (inr l) = not_lost told journal JOURNAL_FILE_LIMIT p.journal_text tells p.gives l.lost
  printed_late other text name tells p (inl l) = absurd l
  printed_late other text name tells p (inr l) = absurd l

  refuted_late : (command : Command) (text : List ℕ) (name : List ℕ) → TellsFiles told command → IsRefuted meaning command told text → AreItemsLost meaning command told name ⊎ IsJournalLost meaning command told name → ⊥
  refuted_late (audit file items journal docs) text name tells r (inl l) = let a = r.2 in let g = a.given in let h = g.has in not_lost told items ITEMS_FILE_LIMIT h.text tells h.gives l.lost
  refuted_late (audit file items journal docs) text name tells r (inr l) = let a = r.2 in not_lost told journal JOURNAL_FILE_LIMIT a.text tells a.gives l.lost
  refuted_late (swarm file items journal hash docs) text name tells r (inl l) = let a = r.2 in let g = a.given in let h = g.has in not_lost told items ITEMS_FILE_LIMIT h.text tells h.gives l.lost
  refuted_late (swarm file items journal hash docs) text name tells r (inr l) = let a = r.2 in not_lost told journal JOURNAL_FILE_LIMIT a.text tells a.gives l.lost
  refuted_late other text name tells r late = absurd r

  items_late : (command : Command) (line : List ℕ) (name : List ℕ) → TellsFiles told command → ReadsItems meaning command told → IsItems meaning command told line → AreItemsLost meaning command told name ⊎ IsJournalLost meaning command told name → ⊥
  items_late (run file items options) line name tells read i (inl l) = let h = i.has in not_lost told items ITEMS_FILE_LIMIT h.text tells h.gives l.lost
  items_late (audit file items journal docs) line name tells read i (inl l) = let h = i.has in not_lost told items ITEMS_FILE_LIMIT h.text tells h.gives l.lost
  items_late (audit file items journal docs) line name tells read i (inr l) = no_fault meaning told (named file) tells (named items) tells read line l.given i
  items_late (simulate file items simulating) line name tells read i (inl l) = let h = i.has in not_lost told items ITEMS_FILE_LIMIT h.text tells h.gives l.lost
  items_late (swarm file items journal hash docs) line name tells read i (inl l) = let h = i.has in not_lost told items ITEMS_FILE_LIMIT h.text tells h.gives l.lost
  items_late (swarm file items journal hash docs) line name tells read i (inr l) = no_fault meaning told (named file) tells (named items) tells read line l.given i
  items_late other line name tells read i (inl l) = absurd l
  items_late other line name tells read i (inr l) = absurd l

  printed_items : (command : Command) (text line : List ℕ) → TellsFiles told command → ReadsItems meaning command told → IsPrinted meaning command told text → IsItems meaning command told line → ⊥
  printed_items (run file items options) text line tells read p i = no_fault meaning told (named file) tells (named items) tells read line p.given i
  printed_items (audit file items journal docs) text line tells read p i = let a = p.1 in no_fault meaning told (named file) tells (named items) tells read line a.given i
  printed_items (load count first runtime) text line tells read p i = no_fault meaning told _ tt _ tt read line p.given i
  printed_items (simulate file items simulating) text line tells read p i = no_fault meaning told (named file) tells (named items) tells read line p.given i
  printed_items (swarm file items journal hash docs) text line tells read p i = no_fault meaning told (named file) tells (named items) tells read line p.given i
  printed_items other text line tells read p i = absurd i

  refuted_items : (command : Command) (text line : List ℕ) → TellsFiles told command → ReadsItems meaning command told → IsRefuted meaning command told text → IsItems meaning command told line → ⊥
  refuted_items (audit file items journal docs) text line tells read r i = let a = r.2 in no_fault meaning told (named file) tells (named items) tells read line a.given i
  refuted_items (swarm file items journal hash docs) text line tells read r i = let a = r.2 in no_fault meaning told (named file) tells (named items) tells read line a.given i
  refuted_items other text line tells read r i = absurd r

  -- a swarm is printed after a journal that is right
  swarm_right : (program items : Origin) (journal hash text : List ℕ) → IsSwarmed meaning told program items journal hash text → (events : ℕ) × IsAudited meaning told program items journal (verdicts.Yes events)
  swarm_right program items journal hash text p = let s = p.is in let own : Journal = s.journal in
      (length own.entries, record { given = p.given; text = p.journal_text; gives = p.gives; has_verdict = (own, s.is_true, refl) })

  printed_refuted : (command : Command) (text other : List ℕ) → TellsFiles told command → ReadsItems meaning command told → IsPrinted meaning command told text → IsRefuted meaning command told other → ⊥
  printed_refuted (audit file items journal docs) text other tells read p r =
      let e = one_verdict_here meaning told (named file) tells (named items) tells read journal (verdicts.Yes p.0) (verdicts.No r.0 r.1) tells p.1 r.2 in absurd cc
  printed_refuted (swarm file items journal hash docs) text other tells read p r =
      let a = swarm_right (named file) (named items) journal hash text p in
      let e = one_verdict_here meaning told (named file) tells (named items) tells read journal (verdicts.Yes a.0) (verdicts.No r.0 r.1) tells a.1 r.2 in absurd cc
  printed_refuted own text other tells read p r = absurd r

-- ---- programs that can't be served

module _ (meaning : LibraryMeaning) (told : Files) where
  -- a program can be served, or it can't
  pub served_unserved : (program : Origin) → TellsText told program → HasServable meaning told program → HasUnservable meaning told program → ⊥
  served_unserved program tells s u =
      let can = s.has in
      let no = u.has in
      let same = decls_is told program s.decls u.decls tells can.has no.has in
      u.none s.framing (subst (λ (ds : List Decl). IsServed meaning (program_of ds) s.framing) same s.source)

  printed_unserved : (command : Command) (text line : List ℕ) → TellsFiles told command → IsPrinted meaning command told text → IsUnserved meaning command told line → ⊥
  printed_unserved (serve file serving) text line tells p u = served_unserved (named file) tells p.1 u.0
  printed_unserved other text line tells p u = absurd u

  refuted_unserved : (command : Command) (text line : List ℕ) → IsRefuted meaning command told text → IsUnserved meaning command told line → ⊥
  refuted_unserved (serve file serving) text line r u = r
  refuted_unserved other text line r u = absurd u

  static_unserved : (command : Command) (said line : List ℕ) → TellsFiles told command → IsStatic meaning command told said → IsUnserved meaning command told line → ⊥
  static_unserved (serve file serving) said line tells s u = let no = u.0 in
      not_faulty meaning told (named file) tells s.text s.fault no.decls no.has (gives_here meaning told (named file) s.program s.text s.reads s.gives) s.stands
  static_unserved other said line tells s u = absurd u

  items_unserved : (command : Command) (said line : List ℕ) → IsItems meaning command told said → IsUnserved meaning command told line → ⊥
  items_unserved (serve file serving) said line i u = i
  items_unserved other said line i u = absurd u

  missing_unserved : (command : Command) (said line : List ℕ) → TellsFiles told command → IsMissing meaning command told said → IsUnserved meaning command told line → ⊥
  missing_unserved (serve file serving) said line tells m u = one m.lost
    where
      one : ((named m.name ≡ named file) × IsLost told m.name PROGRAM_FILE_LIMIT) ⊎ (⊥ ⊎ ⊥) → ⊥
      one (inl (same, lost)) = let no = u.0 in let has = no.has in program_there meaning told (named file) tells no.decls has.has m.name (sym same) tells lost
      one (inr (inl never)) = never
      one (inr (inr never)) = never
  missing_unserved other said line tells m u = absurd u

module _ (meaning : LibraryMeaning) (told : Files) (command : Command) (tells : TellsFiles told command) where
  abbrev Views : Status → List ℕ → List ℕ → Type 0
  Views = View meaning command told

  -- a missing file beside a sound program is that of items or of a journal
  sound_missing : (line : List ℕ) → IsSoundOf meaning told command → ((name : List ℕ) → AreItemsLost meaning command told name ⊎ IsJournalLost meaning command told name → ⊥) → IsMissing meaning command told line → ⊥
  sound_missing line sound never m = let late = late_missing meaning told command line tells sound m in never late.0 late.1

  printed_missing : (text line : List ℕ) → IsPrinted meaning command told text → IsMissing meaning command told line → ⊥
  printed_missing text line p m = elim (printed_sound meaning told command text p) [
    | inl e ↦ by_help command e m.lost
    | inr sound ↦ sound_missing line sound (λ name late. printed_late meaning told command text name tells p late) m
  ]
    where
      by_help : (own : Command) → own ≡ help → (ReadsProgram own (named m.name) × IsLost told m.name PROGRAM_FILE_LIMIT) ⊎ (AreItemsLost meaning own told m.name ⊎ IsJournalLost meaning own told m.name) → ⊥
      by_help own e lost = none (subst (λ (c : Command). (ReadsProgram c (named m.name) × IsLost told m.name PROGRAM_FILE_LIMIT) ⊎ (AreItemsLost meaning c told m.name ⊎ IsJournalLost meaning c told m.name)) e lost)
        where
          none : (⊥ × IsLost told m.name PROGRAM_FILE_LIMIT) ⊎ (⊥ ⊎ ⊥) → ⊥
          none (inl (read, lost)) = read
          none (inr (inl late)) = late
          none (inr (inr late)) = late

  refuted_missing : (text line : List ℕ) → IsRefuted meaning command told text → IsMissing meaning command told line → ⊥
  refuted_missing text line r m = sound_missing line (refuted_sound meaning told command text r) (λ name late. refuted_late meaning told command text name tells r late) m

  items_missing : (said line : List ℕ) → ReadsItems meaning command told → IsItems meaning command told said → IsMissing meaning command told line → ⊥
  items_missing said line read i m = sound_missing line (items_sound meaning told command said i) (λ name late. items_late meaning told command said name tells read i late) m

  refuted_static : (text line : List ℕ) → IsRefuted meaning command told text → IsStatic meaning command told line → ⊥
  refuted_static text line r s = sound_static meaning told command tells line (refuted_sound meaning told command text r) s

  items_static : (said line : List ℕ) → IsItems meaning command told said → IsStatic meaning command told line → ⊥
  items_static said line i s = sound_static meaning told command tells line (items_sound meaning told command said i) s

  -- the status that rests on items has its rules
  reads : (s own : Status) → s ≡ own → IsFirm meaning command told s → IsFirm meaning command told own
  reads s own e firm = subst (IsFirm meaning command told) e firm

  pub same_view : (s r : Status) (t l u m : List ℕ) → IsFirm meaning command told s → Views s t l → Views r u m → s ≡ r
  same_view s r t l u m firm (inl (a, p)) (inl (b, q)) = a ∙ sym b
  same_view s r t l u m firm (inl (a, p)) (inr (inl (b, q))) = absurd (printed_refuted meaning told command t u tells (reads s statuses.Done a firm tells tt) p q)
  same_view s r t l u m firm (inl (a, p)) (inr (inr (inl (b, q)))) = absurd (printed_static meaning told command tells t m p q)
  same_view s r t l u m firm (inl (a, p)) (inr (inr (inr (inl (b, q))))) = absurd (printed_items meaning told command t m tells (reads s statuses.Done a firm tells tt) p q)
  same_view s r t l u m firm (inl (a, p)) (inr (inr (inr (inr (inl (b, q)))))) = absurd (printed_missing t m p q)
  same_view s r t l u m firm (inr (inl (a, p))) (inl (b, q)) = absurd (printed_refuted meaning told command u t tells (reads s statuses.No a firm tells tt) q p)
  same_view s r t l u m firm (inr (inl (a, p))) (inr (inl (b, q))) = a ∙ sym b
  same_view s r t l u m firm (inr (inl (a, p))) (inr (inr (inl (b, q)))) = absurd (refuted_static t m p q)
  same_view s r t l u m firm (inr (inl (a, p))) (inr (inr (inr (inl (b, q))))) = absurd (refuted_items meaning told command t m tells (reads s statuses.No a firm tells tt) p q)
  same_view s r t l u m firm (inr (inl (a, p))) (inr (inr (inr (inr (inl (b, q)))))) = absurd (refuted_missing t m p q)
  same_view s r t l u m firm (inr (inr (inl (a, p)))) (inl (b, q)) = absurd (printed_static meaning told command tells u l q p)
  same_view s r t l u m firm (inr (inr (inl (a, p)))) (inr (inl (b, q))) = absurd (refuted_static u l q p)
  same_view s r t l u m firm (inr (inr (inl (a, p)))) (inr (inr (inl (b, q)))) = a ∙ sym b
  same_view s r t l u m firm (inr (inr (inl (a, p)))) (inr (inr (inr (inl (b, q))))) = absurd (items_static m l q p)
  same_view s r t l u m firm (inr (inr (inl (a, p)))) (inr (inr (inr (inr (inl (b, q)))))) = absurd (static_missing meaning told command tells l m p q)
  same_view s r t l u m firm (inr (inr (inr (inl (a, p))))) (inl (b, q)) = absurd (printed_items meaning told command u l tells (reads s statuses.Items a firm tells tt) q p)
  same_view s r t l u m firm (inr (inr (inr (inl (a, p))))) (inr (inl (b, q))) = absurd (refuted_items meaning told command u l tells (reads s statuses.Items a firm tells tt) q p)
  same_view s r t l u m firm (inr (inr (inr (inl (a, p))))) (inr (inr (inl (b, q)))) = absurd (items_static l m p q)
  same_view s r t l u m firm (inr (inr (inr (inl (a, p))))) (inr (inr (inr (inl (b, q))))) = a ∙ sym b
  same_view s r t l u m firm (inr (inr (inr (inl (a, p))))) (inr (inr (inr (inr (inl (b, q)))))) = absurd (items_missing l m (reads s statuses.Items a firm tells tt) p q)
  same_view s r t l u m firm (inr (inr (inr (inr (inl (a, p)))))) (inl (b, q)) = absurd (printed_missing u l q p)
  same_view s r t l u m firm (inr (inr (inr (inr (inl (a, p)))))) (inr (inl (b, q))) = absurd (refuted_missing u l q p)
  same_view s r t l u m firm (inr (inr (inr (inr (inl (a, p)))))) (inr (inr (inl (b, q)))) = absurd (static_missing meaning told command tells m l q p)
  same_view s r t l u m firm (inr (inr (inr (inr (inl (a, p)))))) (inr (inr (inr (inl (b, q))))) = absurd (items_missing m l (reads s statuses.Missing a firm tells tt) q p)
  same_view s r t l u m firm (inr (inr (inr (inr (inl (a, p)))))) (inr (inr (inr (inr (inl (b, q)))))) = a ∙ sym b
  same_view s r t l u m firm (inl (a, p)) (inr (inr (inr (inr (inr (b, q)))))) = absurd (printed_unserved meaning told command t m tells p q)
  same_view s r t l u m firm (inr (inl (a, p))) (inr (inr (inr (inr (inr (b, q)))))) = absurd (refuted_unserved meaning told command t m p q)
  same_view s r t l u m firm (inr (inr (inl (a, p)))) (inr (inr (inr (inr (inr (b, q)))))) = absurd (static_unserved meaning told command l m tells p q)
  same_view s r t l u m firm (inr (inr (inr (inl (a, p))))) (inr (inr (inr (inr (inr (b, q)))))) = absurd (items_unserved meaning told command l m p q)
  same_view s r t l u m firm (inr (inr (inr (inr (inl (a, p)))))) (inr (inr (inr (inr (inr (b, q)))))) = absurd (missing_unserved meaning told command l m tells p q)
  same_view s r t l u m firm (inr (inr (inr (inr (inr (a, p)))))) (inl (b, q)) = absurd (printed_unserved meaning told command u l tells q p)
  same_view s r t l u m firm (inr (inr (inr (inr (inr (a, p)))))) (inr (inl (b, q))) = absurd (refuted_unserved meaning told command u l q p)
  same_view s r t l u m firm (inr (inr (inr (inr (inr (a, p)))))) (inr (inr (inl (b, q)))) = absurd (static_unserved meaning told command m l tells q p)
  same_view s r t l u m firm (inr (inr (inr (inr (inr (a, p)))))) (inr (inr (inr (inl (b, q))))) = absurd (items_unserved meaning told command m l q p)
  same_view s r t l u m firm (inr (inr (inr (inr (inr (a, p)))))) (inr (inr (inr (inr (inl (b, q)))))) = absurd (missing_unserved meaning told command m l tells q p)
  same_view s r t l u m firm (inr (inr (inr (inr (inr (a, p)))))) (inr (inr (inr (inr (inr (b, q)))))) = a ∙ sym b
