-- What words ask for, or why they ask for nothing.
use Rattle.std.proofs.Common.{◌≡◌, ℕ, Bool, true, false, ◌-◌, ◌≤◌, List, [], ◌∷◌, length, take, drop, get_or, ap, sym, refl, subst, subst₂, arith, codes, ◌∙◌}
use Rattle.std.specs.Prelude.{Option, Some, None, IfNone, IfOk, Result, Ok, Err, option_map, option_copied}
use Rattle.std.specs.Option.{is_some}
use Rattle.std.proofs.lemmas.List.{take_all}
use Rattle.std.specs.Borrow.{Bor}
use Rattle.flux_values.specs.declared.failures.Memory.{Memory}
use Rattle.nodes_tracker.specs.Asks.{hash_of}
use Rattle.flux_cli.specs.declared.names.CommandName.{CommandName}
use Rattle.flux_cli.specs.declared.names.CommandName.TheVariants as names
use Rattle.flux_cli.specs.declared.given.Files.{Files}
use Rattle.flux_cli.specs.declared.given.Files.TheVariants as files
use Rattle.flux_cli.specs.declared.given.Given.{Given}
use Rattle.flux_cli.specs.declared.values.Runtime.{Runtime}
use Rattle.flux_cli.specs.declared.values.JournalFormat.{JournalFormat}
use Rattle.flux_cli.specs.declared.loads.TheConstants.{LOAD_LIMIT, FIRST_LIMIT}
use Rattle.flux_cli.specs.declared.commands.Asked.{Asked}
use Rattle.flux_cli.specs.Names.{IsNamed}
use Rattle.flux_cli.specs.Parts.{Part, BeginWith}
use Rattle.flux_cli.specs.Values.{SpellsNumber, IsRuntime, IsFormat, IsPort, IsBatches}
use Rattle.flux_cli.specs.Costs.{IsProcessors, AreCosts}
use Rattle.flux_cli.specs.Replies.{IsReplying}
use Rattle.flux_cli.specs.Forms.{RunOptions, Serving, Simulating, HasParts, HasNoServing, HasNoSimulating, FitsRun, FitsAudit, FitsLoad, FitsServe, FitsSimulate, FitsSwarm}
use Rattle.flux_cli.specs.Commands.{Command, check, plan, format, run, audit, load, serve, help, simulate, swarm, name_of, FollowsName, Spells, SpellsNone, IsServe, NeedsThreads}
use Rattle.flux_cli.specs.Asking.{asked}
use Rattle.flux_cli.specs.steps.Given.{files_of, listed, IsGiven, IsTooMuch}
use Rattle.flux_cli.specs.steps.Asking.{IsAsked, IsCommand, IsAskedBehind, IsServeRead}
use Rattle.flux_cli.proofs.Gathered.{fits_given, takes_less, few_run, few_audit, few_load, few_serve, few_simulate, few_swarm}
use Rattle.flux_cli.proofs.OneCommand.{one_name, one_command}

pub if_none : {A : Type 0} (r : Option A) (P : Type 0) → P → IfNone r P
if_none None P p = p
if_none (Some x) P p = tt

-- a value is given
pub some_given : (value : Option (Bor (List ℕ))) (r : Bool) → r ≡ is_some value → r ≡ true → listed value ≡ [] → ⊥
some_given None r same is none = let e : false ≡ true = sym same ∙ is in absurd cc
some_given (Some x) r same is none = absurd cc

-- or none is
pub none_given : (value : Option (Bor (List ℕ))) (r : Bool) → r ≡ is_some value → r ≡ false → listed value ≡ []
none_given None r same is = refl
none_given (Some x) r same is = let e : true ≡ false = sym same ∙ is in absurd cc

-- ---- words that are no command of a name

abbrev pub Nothing : CommandName → List (List ℕ) → Type 0
Nothing name words = (command : Command) → IsCommand name words command → ⊥

pub none_of_run : (words : List (List ℕ)) → ((file items : List ℕ) (options : RunOptions) → HasParts words (FitsRun file items options) → ⊥) → Nothing names.Run words
none_of_run words none (run file items options) c = none file items options c.behind
none_of_run words none command c = let e = c.is in absurd cc

pub none_of_audit : (words : List (List ℕ)) → ((file items journal : List ℕ) (docs : Option (List ℕ)) → HasParts words (FitsAudit file items journal docs) → ⊥) → Nothing names.Audit words
none_of_audit words none (audit file items journal docs) c = none file items journal docs c.behind
none_of_audit words none command c = let e = c.is in absurd cc

pub none_of_load : (words : List (List ℕ)) → ((count first : ℕ) (runtime : Runtime) → HasParts words (FitsLoad count first runtime) → ⊥) → Nothing names.Load words
none_of_load words none (load count first runtime) c = none count first runtime c.behind
none_of_load words none command c = let e = c.is in absurd cc

pub none_of_serve : (words : List (List ℕ)) → ((file : List ℕ) (serving : Serving) → HasParts words (FitsServe file serving) → ⊥) → Nothing names.Serve words
none_of_serve words none (serve file serving) c = none file serving c.behind
none_of_serve words none command c = let e = c.is in absurd cc

pub none_of_simulate : (words : List (List ℕ)) → ((file items : List ℕ) (simulating : Simulating) → HasParts words (FitsSimulate file items simulating) → ⊥) → Nothing names.Simulate words
none_of_simulate words none (simulate file items simulating) c = none file items simulating c.behind
none_of_simulate words none command c = let e = c.is in absurd cc

pub none_of_swarm : (words : List (List ℕ))
    → ((file items journal hash : List ℕ) (docs : Option (List ℕ)) → HasParts words (FitsSwarm file items journal hash docs) → ⊥)
    → Nothing names.Swarm words
none_of_swarm words none (swarm file items journal hash docs) c = none file items journal hash docs c.behind
none_of_swarm words none command c = let e = c.is in absurd cc

-- more than four words, or an option twice
module _ (words : List (List ℕ)) (much : (parts : List Part) → BeginWith parts words [] → IsTooMuch parts) where
  pub run_of_too_much : Nothing names.Run words
  run_of_too_much = none_of_run words (λ file items options has. takes_less words (FitsRun file items options) (few_run file items options) much has)

  pub audit_of_too_much : Nothing names.Audit words
  audit_of_too_much = none_of_audit words (λ file items journal docs has. takes_less words (FitsAudit file items journal docs) (few_audit file items journal docs) much has)

  pub load_of_too_much : Nothing names.Load words
  load_of_too_much = none_of_load words (λ count first runtime has. takes_less words (FitsLoad count first runtime) (few_load count first runtime) much has)

  pub serve_of_too_much : (file : List ℕ) (serving : Serving) → HasParts words (FitsServe file serving) → ⊥
  serve_of_too_much file serving has = takes_less words (FitsServe file serving) (few_serve file serving) much has

  pub simulate_of_too_much : Nothing names.Simulate words
  simulate_of_too_much = none_of_simulate words (λ file items simulating has. takes_less words (FitsSimulate file items simulating) (few_simulate file items simulating) much has)

  pub swarm_of_too_much : Nothing names.Swarm words
  swarm_of_too_much = none_of_swarm words (λ file items journal hash docs has.
      takes_less words (FitsSwarm file items journal hash docs) (few_swarm file items journal hash docs) much has)

not_one : (fs : Files) (file : List ℕ) → ((x : Bor (List ℕ)) → fs ≡ files.One x → ⊥) → files_of fs ≡ file ∷ [] → ⊥
not_one files.None file other e = let n = ap length e in omega arith
not_one (files.One x) file other e = other x (λ i. files.One x)
not_one (files.Two x y) file other e = let n = ap length e in omega arith
not_one (files.Three x y z) file other e = let n = ap length e in omega arith
not_one (files.Four x y z v) file other e = let n = ap length e in omega arith

not_two : (fs : Files) (file items : List ℕ) → ((x y : Bor (List ℕ)) → fs ≡ files.Two x y → ⊥) → files_of fs ≡ file ∷ items ∷ [] → ⊥
not_two files.None file items other e = let n = ap length e in omega arith
not_two (files.One x) file items other e = let n = ap length e in omega arith
not_two (files.Two x y) file items other e = other x y (λ i. files.Two x y)
not_two (files.Three x y z) file items other e = let n = ap length e in omega arith
not_two (files.Four x y z v) file items other e = let n = ap length e in omega arith

not_three : (fs : Files) (file items journal : List ℕ) → ((x y z : Bor (List ℕ)) → fs ≡ files.Three x y z → ⊥) → files_of fs ≡ file ∷ items ∷ journal ∷ [] → ⊥
not_three files.None file items journal other e = let n = ap length e in omega arith
not_three (files.One x) file items journal other e = let n = ap length e in omega arith
not_three (files.Two x y) file items journal other e = let n = ap length e in omega arith
not_three (files.Three x y z) file items journal other e = other x y z (λ i. files.Three x y z)
not_three (files.Four x y z v) file items journal other e = let n = ap length e in omega arith

not_four : (fs : Files) (file items journal digits : List ℕ) → ((x y z v : Bor (List ℕ)) → fs ≡ files.Four x y z v → ⊥)
    → files_of fs ≡ file ∷ items ∷ journal ∷ digits ∷ [] → ⊥
not_four files.None file items journal digits other e = let n = ap length e in omega arith
not_four (files.One x) file items journal digits other e = let n = ap length e in omega arith
not_four (files.Two x y) file items journal digits other e = let n = ap length e in omega arith
not_four (files.Three x y z) file items journal digits other e = let n = ap length e in omega arith
not_four (files.Four x y z v) file items journal digits other e = other x y z v (λ i. files.Four x y z v)

module _ (words : List (List ℕ)) (given : Given) (is : IsGiven words given) where
  pub run_fits : (file items : List ℕ) (options : RunOptions) → HasParts words (FitsRun file items options) → FitsRun file items options is.parts
  run_fits file items options has = fits_given words given is (FitsRun file items options) has

  audit_fits : (file items journal : List ℕ) (docs : Option (List ℕ)) → HasParts words (FitsAudit file items journal docs) → FitsAudit file items journal docs is.parts
  audit_fits file items journal docs has = fits_given words given is (FitsAudit file items journal docs) has

  pub load_fits : (count first : ℕ) (runtime : Runtime) → HasParts words (FitsLoad count first runtime) → FitsLoad count first runtime is.parts
  load_fits count first runtime has = fits_given words given is (FitsLoad count first runtime) has

  serve_fits : (file : List ℕ) (serving : Serving) → HasParts words (FitsServe file serving) → FitsServe file serving is.parts
  serve_fits file serving has = fits_given words given is (FitsServe file serving) has

  simulate_fits : (file items : List ℕ) (simulating : Simulating) → HasParts words (FitsSimulate file items simulating) → FitsSimulate file items simulating is.parts
  simulate_fits file items simulating has = fits_given words given is (FitsSimulate file items simulating) has

  swarm_fits : (file items journal hash : List ℕ) (docs : Option (List ℕ)) → HasParts words (FitsSwarm file items journal hash docs)
      → FitsSwarm file items journal hash docs is.parts
  swarm_fits file items journal hash docs has = fits_given words given is (FitsSwarm file items journal hash docs) has

  no_serving : listed given.port ≡ [] → listed given.batches ≡ [] → listed given.at_once ≡ [] → HasNoServing is.parts
  no_serving p b a = record { no_port = sym is.holds.port_ ∙ p; no_batches = sym is.holds.batches_ ∙ b; no_at_once = sym is.holds.at_once_ ∙ a }

  -- an option that `serve` alone has is given
  serving_given : (listed given.port ≡ [] → listed given.batches ≡ [] → listed given.at_once ≡ [] → ⊥) → HasNoServing is.parts → ⊥
  serving_given some none = some (is.holds.port_ ∙ none.no_port) (is.holds.batches_ ∙ none.no_batches) (is.holds.at_once_ ∙ none.no_at_once)

  no_simulating : listed given.processors ≡ [] → listed given.costs ≡ [] → HasNoSimulating is.parts
  no_simulating p c = record { no_processors = sym is.holds.processors_ ∙ p; no_costs = sym is.holds.costs_ ∙ c }

  -- an option that `simulate` alone has is given
  simulating_given : (listed given.processors ≡ [] → listed given.costs ≡ [] → ⊥) → HasNoSimulating is.parts → ⊥
  simulating_given some none = some (is.holds.processors_ ∙ none.no_processors) (is.holds.costs_ ∙ none.no_costs)

  -- ---- `run`

  pub run_of_serving : (listed given.port ≡ [] → listed given.batches ≡ [] → listed given.at_once ≡ [] → ⊥) → Nothing names.Run words
  run_of_serving some = none_of_run words (λ file items options has. serving_given some (run_fits file items options has).no_serving)

  pub run_of_simulating : (listed given.processors ≡ [] → listed given.costs ≡ [] → ⊥) → Nothing names.Run words
  run_of_simulating some = none_of_run words (λ file items options has. simulating_given some (run_fits file items options has).no_simulating)

  pub run_of_files : ((x y : Bor (List ℕ)) → given.files ≡ files.Two x y → ⊥) → Nothing names.Run words
  run_of_files other = none_of_run words (λ file items options has.
      not_two given.files file items other (is.holds.words_ ∙ (run_fits file items options has).files))

  pub run_of_format : ((format : JournalFormat) → IsFormat (listed given.journal) format → ⊥) → Nothing names.Run words
  run_of_format none = none_of_run words (λ file items options has.
      none options.journal (subst (λ (l : List (List ℕ)). IsFormat l options.journal) (sym is.holds.journal_) (run_fits file items options has).journal_))

  pub run_of_runtime : ((runtime : Runtime) → IsRuntime (listed given.runtime) runtime → ⊥) → Nothing names.Run words
  run_of_runtime none = none_of_run words (λ file items options has.
      none options.runtime (subst (λ (l : List (List ℕ)). IsRuntime l options.runtime) (sym is.holds.runtime_) (run_fits file items options has).runtime_))

  pub run_given : (file items : List ℕ) (runtime : Runtime) (journal : JournalFormat) → files_of given.files ≡ file ∷ items ∷ [] → IsRuntime (listed given.runtime) runtime → IsFormat (listed given.journal) journal → listed given.port ≡ [] → listed given.batches ≡ [] → listed given.at_once ≡ []
      → listed given.processors ≡ [] → listed given.costs ≡ []
      → HasParts words (FitsRun file items (record { runtime = runtime; docs = option_copied given.docs; journal = journal }))
  run_given file items runtime journal files_ r j p b a n c = record {
    parts = is.parts;
    laid = is.laid;
    fits = record {
      files = sym is.holds.words_ ∙ files_;
      runtime_ = subst (λ (l : List (List ℕ)). IsRuntime l runtime) is.holds.runtime_ r;
      docs_ = sym is.holds.docs_;
      journal_ = subst (λ (l : List (List ℕ)). IsFormat l journal) is.holds.journal_ j;
      no_serving = no_serving p b a;
      no_simulating = no_simulating n c;
    };
  }

  -- ---- `audit`

  pub audit_of_serving : (listed given.port ≡ [] → listed given.batches ≡ [] → listed given.at_once ≡ [] → ⊥) → Nothing names.Audit words
  audit_of_serving some = none_of_audit words (λ file items journal docs has. serving_given some (audit_fits file items journal docs has).no_serving)

  pub audit_of_simulating : (listed given.processors ≡ [] → listed given.costs ≡ [] → ⊥) → Nothing names.Audit words
  audit_of_simulating some = none_of_audit words (λ file items journal docs has. simulating_given some (audit_fits file items journal docs has).no_simulating)

  pub audit_of_files : ((x y z : Bor (List ℕ)) → given.files ≡ files.Three x y z → ⊥) → Nothing names.Audit words
  audit_of_files other = none_of_audit words (λ file items journal docs has.
      not_three given.files file items journal other (is.holds.words_ ∙ (audit_fits file items journal docs has).files))

  pub audit_of_options : ((listed given.runtime ≡ []) → (listed given.journal ≡ []) → ⊥) → Nothing names.Audit words
  audit_of_options some = none_of_audit words (λ file items journal docs has. let fits = audit_fits file items journal docs has in
      some (is.holds.runtime_ ∙ fits.no_runtime) (is.holds.journal_ ∙ fits.no_journal))

  pub audit_given : (file items journal : List ℕ) → files_of given.files ≡ file ∷ items ∷ journal ∷ [] → listed given.runtime ≡ [] → listed given.journal ≡ [] → listed given.port ≡ [] → listed given.batches ≡ [] → listed given.at_once ≡ []
      → listed given.processors ≡ [] → listed given.costs ≡ []
      → HasParts words (FitsAudit file items journal (option_copied given.docs))
  audit_given file items journal files_ r j p b a n c = record {
    parts = is.parts;
    laid = is.laid;
    fits = record {
      files = sym is.holds.words_ ∙ files_;
      docs_ = sym is.holds.docs_;
      no_runtime = sym is.holds.runtime_ ∙ r;
      no_journal = sym is.holds.journal_ ∙ j;
      no_serving = no_serving p b a;
      no_simulating = no_simulating n c;
    };
  }

  -- ---- `load`

  pub load_of_serving : (listed given.port ≡ [] → listed given.batches ≡ [] → listed given.at_once ≡ [] → ⊥) → Nothing names.Load words
  load_of_serving some = none_of_load words (λ count first runtime has. serving_given some (load_fits count first runtime has).no_serving)

  pub load_of_options : ((listed given.docs ≡ []) → (listed given.journal ≡ []) → ⊥) → Nothing names.Load words
  load_of_options some = none_of_load words (λ count first runtime has. let fits = load_fits count first runtime has in
      some (is.holds.docs_ ∙ fits.no_docs) (is.holds.journal_ ∙ fits.no_journal))

  pub load_of_simulating : (listed given.processors ≡ [] → listed given.costs ≡ [] → ⊥) → Nothing names.Load words
  load_of_simulating some = none_of_load words (λ count first runtime has. simulating_given some (load_fits count first runtime has).no_simulating)

  pub load_of_files : ((x y : Bor (List ℕ)) → given.files ≡ files.Two x y → ⊥) → Nothing names.Load words
  load_of_files other = none_of_load words (λ count first runtime has. let fits = load_fits count first runtime has in
      not_two given.files fits.count_digits fits.first_digits other (is.holds.words_ ∙ fits.numbers))

  pub load_of_count : (x y : List ℕ) → files_of given.files ≡ x ∷ y ∷ [] → ((number : ℕ) → SpellsNumber 1 LOAD_LIMIT x number → ⊥) → Nothing names.Load words
  load_of_count x y files_ none = none_of_load words (λ count first runtime has. let fits = load_fits count first runtime has in
      let both : fits.count_digits ∷ fits.first_digits ∷ [] ≡ x ∷ y ∷ [] = sym (is.holds.words_ ∙ fits.numbers) ∙ files_ in
      let same : fits.count_digits ≡ x = cc in
      none count (subst (λ (d : List ℕ). SpellsNumber 1 LOAD_LIMIT d count) same fits.count_))

  pub load_of_first : (x y : List ℕ) → files_of given.files ≡ x ∷ y ∷ [] → ((number : ℕ) → SpellsNumber 0 FIRST_LIMIT y number → ⊥) → Nothing names.Load words
  load_of_first x y files_ none = none_of_load words (λ count first runtime has. let fits = load_fits count first runtime has in
      let both : fits.count_digits ∷ fits.first_digits ∷ [] ≡ x ∷ y ∷ [] = sym (is.holds.words_ ∙ fits.numbers) ∙ files_ in
      let same : fits.first_digits ≡ y = cc in
      none first (subst (λ (d : List ℕ). SpellsNumber 0 FIRST_LIMIT d first) same fits.first_))

  pub load_of_runtime : ((runtime : Runtime) → IsRuntime (listed given.runtime) runtime → ⊥) → Nothing names.Load words
  load_of_runtime none = none_of_load words (λ count first runtime has. let fits = load_fits count first runtime has in
      none runtime (subst (λ (l : List (List ℕ)). IsRuntime l runtime) (sym is.holds.runtime_) fits.runtime_))

  pub load_given : (x y : List ℕ) (count first : ℕ) (runtime : Runtime) → files_of given.files ≡ x ∷ y ∷ [] → SpellsNumber 1 LOAD_LIMIT x count → SpellsNumber 0 FIRST_LIMIT y first
      → IsRuntime (listed given.runtime) runtime → listed given.docs ≡ [] → listed given.journal ≡ [] → listed given.port ≡ [] → listed given.batches ≡ [] → listed given.at_once ≡ []
      → listed given.processors ≡ [] → listed given.costs ≡ [] → HasParts words (FitsLoad count first runtime)
  load_given x y count first runtime files_ n k r d j p b a m c = record {
    parts = is.parts;
    laid = is.laid;
    fits = record {
      count_digits = x;
      first_digits = y;
      numbers = sym is.holds.words_ ∙ files_;
      count_ = n;
      first_ = k;
      runtime_ = subst (λ (l : List (List ℕ)). IsRuntime l runtime) is.holds.runtime_ r;
      no_docs = sym is.holds.docs_ ∙ d;
      no_journal = sym is.holds.journal_ ∙ j;
      no_serving = no_serving p b a;
      no_simulating = no_simulating m c;
    };
  }

  -- ---- `serve`

  pub serve_of_files : ((x : Bor (List ℕ)) → given.files ≡ files.One x → ⊥) → (file : List ℕ) (serving : Serving) → HasParts words (FitsServe file serving) → ⊥
  serve_of_files other file serving has = not_one given.files file other (is.holds.words_ ∙ (serve_fits file serving has).files)

  pub serve_of_journal : (listed given.journal ≡ [] → ⊥) → (file : List ℕ) (serving : Serving) → HasParts words (FitsServe file serving) → ⊥
  serve_of_journal some file serving has = some (is.holds.journal_ ∙ (serve_fits file serving has).no_journal)

  pub serve_of_simulating : (listed given.processors ≡ [] → listed given.costs ≡ [] → ⊥) → (file : List ℕ) (serving : Serving) → HasParts words (FitsServe file serving) → ⊥
  serve_of_simulating some file serving has = simulating_given some (serve_fits file serving has).no_simulating

  pub serve_of_port : ((port : ℕ) → IsPort (listed given.port) port → ⊥) → (file : List ℕ) (serving : Serving) → HasParts words (FitsServe file serving) → ⊥
  serve_of_port none file serving has = none serving.port (subst (λ (l : List (List ℕ)). IsPort l serving.port) (sym is.holds.port_) (serve_fits file serving has).port_)

  pub serve_of_batches : ((batches : ℕ) → IsBatches (listed given.batches) batches → ⊥) → (file : List ℕ) (serving : Serving) → HasParts words (FitsServe file serving) → ⊥
  serve_of_batches none file serving has = none serving.batches (subst (λ (l : List (List ℕ)). IsBatches l serving.batches) (sym is.holds.batches_) (serve_fits file serving has).batches_)

  -- all but when replies are written is read
  pub serve_given : (file : Bor (List ℕ)) (port batches : ℕ) → files_of given.files ≡ file.now ∷ [] → IsPort (listed given.port) port → IsBatches (listed given.batches) batches → listed given.journal ≡ []
      → listed given.processors ≡ [] → listed given.costs ≡ []
      → IsServeRead words (Some (record { file = file; port = port; batches = batches; docs = given.docs; runtime = given.runtime; at_once = given.at_once }))
  serve_given file port batches files_ p b j n c = record {
    to = λ replying r. record {
      parts = is.parts;
      laid = is.laid;
      fits = record {
        files = sym is.holds.words_ ∙ files_;
        port_ = subst (λ (l : List (List ℕ)). IsPort l port) is.holds.port_ p;
        batches_ = subst (λ (l : List (List ℕ)). IsBatches l batches) is.holds.batches_ b;
        docs_ = sym is.holds.docs_;
        replying_ = subst₂ (λ (l m : List (List ℕ)). IsReplying l m replying) is.holds.runtime_ is.holds.at_once_ r;
        no_journal = sym is.holds.journal_ ∙ j;
        no_simulating = no_simulating n c;
      };
    };
    from = λ other serving has. subst₂ (λ (l m : List (List ℕ)). IsReplying l m serving.replying) (sym is.holds.runtime_) (sym is.holds.at_once_)
        (serve_fits other serving has).replying_;
  }

  -- ---- `simulate`

  pub simulate_of_serving : (listed given.port ≡ [] → listed given.batches ≡ [] → listed given.at_once ≡ [] → ⊥) → Nothing names.Simulate words
  simulate_of_serving some = none_of_simulate words (λ file items simulating has. serving_given some (simulate_fits file items simulating has).no_serving)

  pub simulate_of_options : ((listed given.runtime ≡ []) → (listed given.journal ≡ []) → ⊥) → Nothing names.Simulate words
  simulate_of_options some = none_of_simulate words (λ file items simulating has. let fits = simulate_fits file items simulating has in
      some (is.holds.runtime_ ∙ fits.no_runtime) (is.holds.journal_ ∙ fits.no_journal))

  pub simulate_of_files : ((x y : Bor (List ℕ)) → given.files ≡ files.Two x y → ⊥) → Nothing names.Simulate words
  simulate_of_files other = none_of_simulate words (λ file items simulating has.
      not_two given.files file items other (is.holds.words_ ∙ (simulate_fits file items simulating has).files))

  pub simulate_of_processors : ((processors : ℕ) → IsProcessors (listed given.processors) processors → ⊥) → Nothing names.Simulate words
  simulate_of_processors none = none_of_simulate words (λ file items simulating has.
      none simulating.processors (subst (λ (l : List (List ℕ)). IsProcessors l simulating.processors) (sym is.holds.processors_) (simulate_fits file items simulating has).processors_))

  pub simulate_of_costs : ((costs : List ℕ) → AreCosts (listed given.costs) costs → ⊥) → Nothing names.Simulate words
  simulate_of_costs none = none_of_simulate words (λ file items simulating has.
      none simulating.costs (subst (λ (l : List (List ℕ)). AreCosts l simulating.costs) (sym is.holds.costs_) (simulate_fits file items simulating has).costs_))

  pub simulate_given : (file items : List ℕ) (processors : ℕ) (costs : List ℕ) → files_of given.files ≡ file ∷ items ∷ [] → IsProcessors (listed given.processors) processors → AreCosts (listed given.costs) costs
      → listed given.runtime ≡ [] → listed given.journal ≡ [] → listed given.port ≡ [] → listed given.batches ≡ [] → listed given.at_once ≡ []
      → HasParts words (FitsSimulate file items (record { processors = processors; costs = costs; docs = option_copied given.docs }))
  simulate_given file items processors costs files_ n c r j p b a = record {
    parts = is.parts;
    laid = is.laid;
    fits = record {
      files = sym is.holds.words_ ∙ files_;
      processors_ = subst (λ (l : List (List ℕ)). IsProcessors l processors) is.holds.processors_ n;
      costs_ = subst (λ (l : List (List ℕ)). AreCosts l costs) is.holds.costs_ c;
      docs_ = sym is.holds.docs_;
      no_runtime = sym is.holds.runtime_ ∙ r;
      no_journal = sym is.holds.journal_ ∙ j;
      no_serving = no_serving p b a;
    };
  }

  -- ---- `swarm`

  pub swarm_of_serving : (listed given.port ≡ [] → listed given.batches ≡ [] → listed given.at_once ≡ [] → ⊥) → Nothing names.Swarm words
  swarm_of_serving some = none_of_swarm words (λ file items journal hash docs has.
      serving_given some (swarm_fits file items journal hash docs has).no_serving)

  pub swarm_of_simulating : (listed given.processors ≡ [] → listed given.costs ≡ [] → ⊥) → Nothing names.Swarm words
  swarm_of_simulating some = none_of_swarm words (λ file items journal hash docs has.
      simulating_given some (swarm_fits file items journal hash docs has).no_simulating)

  pub swarm_of_files : ((x y z v : Bor (List ℕ)) → given.files ≡ files.Four x y z v → ⊥) → Nothing names.Swarm words
  swarm_of_files other = none_of_swarm words (λ file items journal hash docs has.
      let fits = swarm_fits file items journal hash docs has in
      not_four given.files file items journal fits.digits other (is.holds.words_ ∙ fits.files))

  pub swarm_of_options : ((listed given.runtime ≡ []) → (listed given.journal ≡ []) → ⊥) → Nothing names.Swarm words
  swarm_of_options some = none_of_swarm words (λ file items journal hash docs has.
      let fits = swarm_fits file items journal hash docs has in
      some (is.holds.runtime_ ∙ fits.no_runtime) (is.holds.journal_ ∙ fits.no_journal))

  pub swarm_of_hash : (x y z digits : List ℕ) → files_of given.files ≡ x ∷ y ∷ z ∷ digits ∷ [] → None ≡ hash_of digits
      → Nothing names.Swarm words
  swarm_of_hash x y z digits files_ none = none_of_swarm words (λ file items journal hash docs has.
      let fits = swarm_fits file items journal hash docs has in
      let all : file ∷ items ∷ journal ∷ fits.digits ∷ [] ≡ x ∷ y ∷ z ∷ digits ∷ [] = sym (is.holds.words_ ∙ fits.files) ∙ files_ in
      let same : digits ≡ fits.digits = cc in
      let e : None ≡ Some hash = none ∙ ap hash_of same ∙ fits.hash_ in
      absurd cc)

  pub swarm_given : (file items journal digits hash : List ℕ) → files_of given.files ≡ file ∷ items ∷ journal ∷ digits ∷ []
      → hash_of digits ≡ Some hash → listed given.runtime ≡ [] → listed given.journal ≡ []
      → listed given.port ≡ [] → listed given.batches ≡ [] → listed given.at_once ≡ [] → listed given.processors ≡ [] → listed given.costs ≡ []
      → HasParts words (FitsSwarm file items journal hash (option_copied given.docs))
  swarm_given file items journal digits hash files_ h r j p b a n c = record {
    parts = is.parts;
    laid = is.laid;
    fits = record {
      digits = digits;
      files = sym is.holds.words_ ∙ files_;
      hash_ = h;
      docs_ = sym is.holds.docs_;
      no_runtime = sym is.holds.runtime_ ∙ r;
      no_journal = sym is.holds.journal_ ∙ j;
      no_serving = no_serving p b a;
      no_simulating = no_simulating n c;
    };
  }

-- ---- all words

-- the one command that words spell is what is read
one_asked : (words : List (List ℕ)) (found : Option Asked) (command : Command) → IsAsked words found → Spells words command → option_map asked found ≡ Some command
one_asked words (Some a) command is spells = ap Some (one_command words (asked a) command is spells)
one_asked words None command none spells = absurd (none command spells)

pub all_asked : (words : List (List ℕ)) (result : Result (Option Asked) Memory) (command : Command) → IfOk result (IsAsked words) → Spells words command → IfOk result (λ found. option_map asked found ≡ Some command)
all_asked words (Ok found) command is spells = one_asked words found command is spells
all_asked words (Err e) command is spells = tt

-- what words spell has their name, and the words after it
pub behind_name : (words rest : List (List ℕ)) (first : List ℕ) (name : CommandName) (command : Command) → words ≡ first ∷ rest → IsNamed name first → Spells words command → IsCommand name rest command
behind_name words rest first name command are named spells =
    let both : spells.first ∷ spells.rest ≡ first ∷ rest = sym spells.are ∙ are in
    let same_first : spells.first ≡ first = cc in
    let same_rest : spells.rest ≡ rest = cc in
    record {
      is = one_name (name_of command) name first (subst (IsNamed (name_of command)) same_first spells.named) named;
      behind = subst (FollowsName command) same_rest spells.behind;
    }

-- a name and the words after it
pub spelled_whole : (words rest : List (List ℕ)) (first : List ℕ) (name : CommandName) (command : Command) → words ≡ first ∷ rest → IsNamed name first → IsCommand name rest command → Spells words command
spelled_whole words rest first name command are named is = record { first = first; rest = rest; are = are; named = subst (λ (n : CommandName). IsNamed n first) (sym is.is) named; behind = is.behind }

asked_whole : (words rest : List (List ℕ)) (first : List ℕ) (name : CommandName) (found : Option Asked) → words ≡ first ∷ rest → IsNamed name first → IsAskedBehind name rest found → IsAsked words found
asked_whole words rest first name (Some a) are named is = spelled_whole words rest first name (asked a) are named is
asked_whole words rest first name None are named none = λ command spells. none command (behind_name words rest first name command are named spells)

-- a first word and those after it
pub first_and_rest : (words : List (List ℕ)) (first : List ℕ) → 1 ≤ length words → first ≡ get_or words 0 first → words ≡ first ∷ take (length words - 1) (drop 1 words)
first_and_rest [] first some is = absurd (omega arith)
first_and_rest (v ∷ words) first some is =
    ap (λ (w : List ℕ). w ∷ words) (sym is) ∙ ap (λ (l : List (List ℕ)). first ∷ l) (sym (take_all (length (v ∷ words) - 1) words (omega arith)))

pub asked_behind : {E : Type 0} (words : List (List ℕ)) (first word : List ℕ) (name : CommandName) (result : Result (Option Asked) E) → 1 ≤ length words → first ≡ get_or words 0 first → first ≡ word → IsNamed name word
    → IfOk result (IsAskedBehind name (take (length words - 1) (drop 1 words))) → IfOk result (IsAsked words)
asked_behind words first word name (Err e) some is same named read = tt
asked_behind words first word name (Ok found) some is same named read =
    asked_whole words (take (length words - 1) (drop 1 words)) first name found (first_and_rest words first some is) (subst (IsNamed name) (sym same) named) read

pub none_named : (words : List (List ℕ)) (first word : List ℕ) → 1 ≤ length words → first ≡ get_or words 0 first → first ≡ word → ((name : CommandName) → IsNamed name word → ⊥) → SpellsNone words
none_named [] first word some is same none command spells = absurd (omega (arith, some))
none_named (v ∷ words) first word some is same none command spells =
    let both : spells.first ∷ spells.rest ≡ v ∷ words = sym spells.are in
    let heads : spells.first ≡ v = cc in
    none (name_of command) (subst (IsNamed (name_of command)) (heads ∙ sym is ∙ same) spells.named)

-- ---- whether words spell `serve`

module _ (words : List (List ℕ)) where
  abbrev behind : List (List ℕ)
  behind = take (length words - 1) (drop 1 words)

  -- after the word `serve`, a file and how it is served are a command that does
  pub serve_spelled : (first word : List ℕ) → 1 ≤ length words → first ≡ get_or words 0 first → first ≡ word → word ≡ codes "serve"
      → (file : List ℕ) × (serving : Serving) × HasParts behind (FitsServe file serving) → (command : Command) × Spells words command × IsServe command
  serve_spelled first word some is same named (file, serving, has) =
      (serve file serving, record { first = first; rest = behind; are = first_and_rest words first some is; named = same ∙ named; behind = has }, tt)

  rest_is : (first : List ℕ) (rest : List (List ℕ)) → words ≡ first ∷ rest → behind ≡ rest
  rest_is first rest are = ap (λ (ws : List (List ℕ)). take (length ws - 1) (drop 1 ws)) are ∙ take_all (length (first ∷ rest) - 1) rest (omega arith)

  -- and no other command does
  pub serve_found : (command : Command) × Spells words command × IsServe command → (file : List ℕ) × (serving : Serving) × HasParts behind (FitsServe file serving)
  serve_found (serve file serving, spells, is) = (file, serving, subst (λ (ws : List (List ℕ)). HasParts ws (FitsServe file serving)) (sym (rest_is spells.first spells.rest spells.are)) spells.behind)
  serve_found (check file, spells, is) = absurd is
  serve_found (plan file, spells, is) = absurd is
  serve_found (format file, spells, is) = absurd is
  serve_found (run file items options, spells, is) = absurd is
  serve_found (audit file items journal docs, spells, is) = absurd is
  serve_found (load count first runtime, spells, is) = absurd is
  serve_found (help, spells, is) = absurd is
  serve_found (simulate file items simulating, spells, is) = absurd is
  serve_found (swarm file items journal hash docs, spells, is) = absurd is

-- `serve` needs threads
pub serve_needs : (command : Command) → IsServe command → NeedsThreads command
serve_needs (serve file serving) is = tt
serve_needs other is = absurd is
