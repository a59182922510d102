-- What is given by the parts so far, and by all.
use Rattle.std.proofs.Common.{◌≡◌, inl, inr, ℕ, ◌<◌, ◌≤◌, List, [], ◌∷◌, ◌++◌, length, sym, ap, ◌∙◌, subst, arith}
use Rattle.std.specs.Prelude.{Option, Some, None, option_to_list}
use Rattle.std.proofs.lemmas.List.{length-append}
use Rattle.flux_cli.specs.declared.names.OptionName.{OptionName}
use Rattle.flux_cli.specs.declared.names.OptionName.TheVariants.{Runtime, Docs, Journal, Port, Batches, AtOnce, Processors, Costs}
use Rattle.flux_cli.specs.declared.given.Given.{Given}
use Rattle.flux_cli.specs.declared.values.Runtime as values
use Rattle.flux_cli.specs.declared.values.JournalFormat.{JournalFormat}
use Rattle.flux_cli.specs.Values.{IsRuntime, IsFormat, IsPort, IsBatches}
use Rattle.flux_cli.specs.Costs.{IsProcessors, AreCosts}
use Rattle.flux_cli.specs.declared.replies.Replying.{Replying}
use Rattle.flux_cli.specs.declared.replies.Replying.TheVariants as replies
use Rattle.flux_cli.specs.Replies.{IsAtOnce, IsReplying}
use Rattle.flux_cli.specs.Forms.{RunOptions, Serving, Simulating, HasParts, FitsRun, FitsAudit, FitsLoad, FitsServe, FitsSimulate, FitsSwarm}
use Rattle.flux_cli.specs.Parts.{Part, word, option, Begins, BeginWith, if_for, words_in, values_of}
use Rattle.flux_cli.specs.steps.Given.{files_of, listed, HoldsAll, Adds, IsFull, IsTooMuch, IsGiven, AreSoFar}
use Rattle.flux_cli.proofs.Laid.{begin_more, past, one_part, one_parting, words_in-append, values_of-append, if_for-same}

-- the parts so far, and what is given by them
abbrev pub AreAllSoFar : List (List ℕ) → List (List ℕ) → Given → Type 0
AreAllSoFar words rest given =
    AreSoFar words rest (files_of given.files) (listed given.runtime) (listed given.docs) (listed given.journal) (listed given.port) (listed given.batches)
    (listed given.at_once) (listed given.processors) (listed given.costs)

value_more : (name : OptionName) (before after : List (List ℕ)) (parts : List Part) (p : Part) → before ≡ values_of name parts → after ≡ before ++ values_of name (p ∷ []) → after ≡ values_of name (parts ++ p ∷ [])
value_more name before after parts p is adds = adds ∙ ap (λ (l : List (List ℕ)). l ++ values_of name (p ∷ [])) is ∙ sym (values_of-append name parts (p ∷ []))

pub one_more : (words rest next : List (List ℕ)) (before after : Given) (p : Part) → AreAllSoFar words rest before → Begins p rest next → Adds before after p → AreAllSoFar words next after
one_more words rest next before after p sofar begins adds = record {
  parts = sofar.parts ++ p ∷ [];
  front = begin_more sofar.parts p words rest next sofar.front begins;
  holds = record {
    words_ = adds.words_ ∙ ap (λ (l : List (List ℕ)). l ++ words_in (p ∷ [])) sofar.holds.words_ ∙ sym (words_in-append sofar.parts (p ∷ []));
    runtime_ = value_more Runtime (listed before.runtime) (listed after.runtime) sofar.parts p sofar.holds.runtime_ adds.runtime_;
    docs_ = value_more Docs (listed before.docs) (listed after.docs) sofar.parts p sofar.holds.docs_ adds.docs_;
    journal_ = value_more Journal (listed before.journal) (listed after.journal) sofar.parts p sofar.holds.journal_ adds.journal_;
    port_ = value_more Port (listed before.port) (listed after.port) sofar.parts p sofar.holds.port_ adds.port_;
    batches_ = value_more Batches (listed before.batches) (listed after.batches) sofar.parts p sofar.holds.batches_ adds.batches_;
    at_once_ = value_more AtOnce (listed before.at_once) (listed after.at_once) sofar.parts p sofar.holds.at_once_ adds.at_once_;
    processors_ = value_more Processors (listed before.processors) (listed after.processors) sofar.parts p sofar.holds.processors_ adds.processors_;
    costs_ = value_more Costs (listed before.costs) (listed after.costs) sofar.parts p sofar.holds.costs_ adds.costs_;
  };
}

none_more : (rest : List (List ℕ)) → (rest ≡ [] → ⊥) → ((p : Part) (next : List (List ℕ)) → Begins p rest next → ⊥) → (more : List Part) → BeginWith more rest [] → ⊥
none_more rest some none [] laid = some laid
none_more rest some none (p ∷ more) laid = none p laid.0 laid.1

-- where no part begins the rest, the words have no parts
pub none_there : (words rest : List (List ℕ)) (given : Given) → AreAllSoFar words rest given → (rest ≡ [] → ⊥) → ((p : Part) (next : List (List ℕ)) → Begins p rest next → ⊥) → (all : List Part) → BeginWith all words [] → ⊥
none_there words rest given sofar some none all laid =
    let on = past sofar.parts all words rest sofar.front laid in
    none_more rest some none on.more on.laid

twice : (name : OptionName) (values : List (List ℕ)) (v : List ℕ) (sofar more all : List Part) → values ≡ values_of name sofar → length values ≡ 1 → all ≡ sofar ++ option name v ∷ more → 1 < length (values_of name all)
twice name values v sofar more all holds full e =
    let is : values_of name all ≡ values_of name sofar ++ (if_for name name v ++ values_of name more) = ap (values_of name) e ∙ values_of-append name sofar (option name v ∷ more) in
    omega (arith, ap length is, length-append (values_of name sofar) (if_for name name v ++ values_of name more), length-append (if_for name name v) (values_of name more), ap length (if_for-same name v), ap length holds, full)

full_too_much : (given : Given) (sofar more all : List Part) (p : Part) → HoldsAll given sofar → IsFull given p → all ≡ sofar ++ p ∷ more → IsTooMuch all
full_too_much given sofar more all (word a) holds full e =
    let is : words_in all ≡ words_in sofar ++ a ∷ words_in more = ap words_in e ∙ words_in-append sofar (word a ∷ more) in
    inl (omega (arith, ap length is, length-append (words_in sofar) (a ∷ words_in more), ap length holds.words_, full))
full_too_much given sofar more all (option Runtime v) holds full e = inr (Runtime, twice Runtime (listed given.runtime) v sofar more all holds.runtime_ full e)
full_too_much given sofar more all (option Docs v) holds full e = inr (Docs, twice Docs (listed given.docs) v sofar more all holds.docs_ full e)
full_too_much given sofar more all (option Journal v) holds full e = inr (Journal, twice Journal (listed given.journal) v sofar more all holds.journal_ full e)
full_too_much given sofar more all (option Port v) holds full e = inr (Port, twice Port (listed given.port) v sofar more all holds.port_ full e)
full_too_much given sofar more all (option Batches v) holds full e = inr (Batches, twice Batches (listed given.batches) v sofar more all holds.batches_ full e)
full_too_much given sofar more all (option AtOnce v) holds full e = inr (AtOnce, twice AtOnce (listed given.at_once) v sofar more all holds.at_once_ full e)
full_too_much given sofar more all (option Processors v) holds full e = inr (Processors, twice Processors (listed given.processors) v sofar more all holds.processors_ full e)
full_too_much given sofar more all (option Costs v) holds full e = inr (Costs, twice Costs (listed given.costs) v sofar more all holds.costs_ full e)

too_much_more : (rest next : List (List ℕ)) (given : Given) (p : Part) (sofar more all : List Part) → (rest ≡ [] → ⊥) → HoldsAll given sofar → Begins p rest next → IsFull given p → all ≡ sofar ++ more → BeginWith more rest [] → IsTooMuch all
too_much_more rest next given p sofar [] all some holds begins full e laid = absurd (some laid)
too_much_more rest next given p sofar (q ∷ more) all some holds begins full e laid =
    let same = one_part p q rest next laid.0 begins laid.1 in
    full_too_much given sofar more all p holds full (e ∙ ap (λ (x : Part). sofar ++ x ∷ more) (sym same.0))

-- where there is no room for a part, there is too much
pub too_much_there : (words rest next : List (List ℕ)) (given : Given) (p : Part) → AreAllSoFar words rest given → (rest ≡ [] → ⊥) → Begins p rest next → IsFull given p → (all : List Part) → BeginWith all words [] → IsTooMuch all
too_much_there words rest next given p sofar some begins full all laid =
    let on = past sofar.parts all words rest sofar.front laid in
    too_much_more rest next given p sofar.parts on.more all some sofar.holds begins full on.are on.laid

pub all_given : (words rest : List (List ℕ)) (given : Given) → AreAllSoFar words rest given → rest ≡ [] → IsGiven words given
all_given words rest given sofar none = record { parts = sofar.parts; laid = subst (λ (r : List (List ℕ)). BeginWith sofar.parts words r) none sofar.front; holds = sofar.holds }

-- ---- what commands take

-- no command takes more words than four, nor an option twice
pub record IsFew (parts : List Part) : Type 0 where
  pub words_ : length (words_in parts) ≤ 4
  pub once : (name : OptionName) → length (values_of name parts) ≤ 1

not_too_much : (parts : List Part) → IsFew parts → IsTooMuch parts → ⊥
not_too_much parts few (inl more) = let most = few.words_ in omega (arith, most, more)
not_too_much parts few (inr (name, more)) = let most = few.once name in omega (arith, most, more)

pub takes_less : (words : List (List ℕ)) (Fits : List Part → Type 0) → ((parts : List Part) → Fits parts → IsFew parts) → ((parts : List Part) → BeginWith parts words [] → IsTooMuch parts) → HasParts words Fits → ⊥
takes_less words Fits few much has = not_too_much has.parts (few has.parts has.fits) (much has.parts has.laid)

-- what fits a command is what was gathered
pub fits_given : (words : List (List ℕ)) (given : Given) (is : IsGiven words given) (Fits : List Part → Type 0) → HasParts words Fits → Fits is.parts
fits_given words given is Fits has = subst Fits (one_parting has.parts is.parts words has.laid is.laid) has.fits

-- ---- lists of values that hold one at most

runtime_once : (vs : List (List ℕ)) (runtime : values.Runtime) → IsRuntime vs runtime → length vs ≤ 1
runtime_once [] runtime is = omega arith
runtime_once (v ∷ []) runtime is = omega arith
runtime_once (v ∷ w ∷ vs) runtime is = absurd is

format_once : (vs : List (List ℕ)) (journal : JournalFormat) → IsFormat vs journal → length vs ≤ 1
format_once [] journal is = omega arith
format_once (v ∷ []) journal is = omega arith
format_once (v ∷ w ∷ vs) journal is = absurd is

docs_once : (vs : List (List ℕ)) (docs : Option (List ℕ)) → vs ≡ option_to_list docs → length vs ≤ 1
docs_once vs None is = omega (arith, ap length is)
docs_once vs (Some d) is = omega (arith, ap length is)

none_once : (vs : List (List ℕ)) → vs ≡ [] → length vs ≤ 1
none_once vs is = omega (arith, ap length is)

port_once : (vs : List (List ℕ)) (port : ℕ) → IsPort vs port → length vs ≤ 1
port_once [] port is = absurd is
port_once (v ∷ []) port is = omega arith
port_once (v ∷ w ∷ vs) port is = absurd is

batches_once : (vs : List (List ℕ)) (batches : ℕ) → IsBatches vs batches → length vs ≤ 1
batches_once [] batches is = omega arith
batches_once (v ∷ []) batches is = omega arith
batches_once (v ∷ w ∷ vs) batches is = absurd is

processors_once : (vs : List (List ℕ)) (processors : ℕ) → IsProcessors vs processors → length vs ≤ 1
processors_once [] processors is = absurd is
processors_once (v ∷ []) processors is = omega arith
processors_once (v ∷ w ∷ vs) processors is = absurd is

costs_once : (vs : List (List ℕ)) (costs : List ℕ) → AreCosts vs costs → length vs ≤ 1
costs_once [] costs is = omega arith
costs_once (v ∷ []) costs is = omega arith
costs_once (v ∷ w ∷ vs) costs is = absurd is

at_once_once : (vs : List (List ℕ)) (workers : ℕ) → IsAtOnce vs workers → length vs ≤ 1
at_once_once [] workers is = absurd is
at_once_once (v ∷ []) workers is = omega arith
at_once_once (v ∷ w ∷ vs) workers is = absurd is

replying_once : (runtimes at_once : List (List ℕ)) (replying : Replying) → IsReplying runtimes at_once replying
    → (length runtimes ≤ 1) × (length at_once ≤ 1)
replying_once runtimes at_once (replies.AtEnd runtime) is = (runtime_once runtimes runtime is.1, none_once at_once is.0)
replying_once runtimes at_once (replies.AtOnce workers) is = (none_once runtimes is.0, at_once_once at_once workers.count is.1)

-- each option is given once at most
record AreOnce (parts : List Part) : Type 0 where
  runtime_ : length (values_of Runtime parts) ≤ 1
  docs_ : length (values_of Docs parts) ≤ 1
  journal_ : length (values_of Journal parts) ≤ 1
  port_ : length (values_of Port parts) ≤ 1
  batches_ : length (values_of Batches parts) ≤ 1
  at_once_ : length (values_of AtOnce parts) ≤ 1
  processors_ : length (values_of Processors parts) ≤ 1
  costs_ : length (values_of Costs parts) ≤ 1

by_name : (parts : List Part) → AreOnce parts → (name : OptionName) → length (values_of name parts) ≤ 1
by_name parts own Runtime = own.runtime_
by_name parts own Docs = own.docs_
by_name parts own Journal = own.journal_
by_name parts own Port = own.port_
by_name parts own Batches = own.batches_
by_name parts own AtOnce = own.at_once_
by_name parts own Processors = own.processors_
by_name parts own Costs = own.costs_

pub few_run : (file items : List ℕ) (options : RunOptions) (parts : List Part) → FitsRun file items options parts → IsFew parts
few_run file items options parts fits = record {
  words_ = omega (arith, ap length fits.files);
  once = by_name parts (record {
    runtime_ = runtime_once (values_of Runtime parts) options.runtime fits.runtime_;
    docs_ = docs_once (values_of Docs parts) options.docs fits.docs_;
    journal_ = format_once (values_of Journal parts) options.journal fits.journal_;
    port_ = none_once (values_of Port parts) fits.no_serving.no_port;
    batches_ = none_once (values_of Batches parts) fits.no_serving.no_batches;
    at_once_ = none_once (values_of AtOnce parts) fits.no_serving.no_at_once;
    processors_ = none_once (values_of Processors parts) fits.no_simulating.no_processors;
    costs_ = none_once (values_of Costs parts) fits.no_simulating.no_costs;
  });
}

pub few_audit : (file items journal : List ℕ) (docs : Option (List ℕ)) (parts : List Part) → FitsAudit file items journal docs parts → IsFew parts
few_audit file items journal docs parts fits = record {
  words_ = omega (arith, ap length fits.files);
  once = by_name parts (record {
    runtime_ = none_once (values_of Runtime parts) fits.no_runtime;
    docs_ = docs_once (values_of Docs parts) docs fits.docs_;
    journal_ = none_once (values_of Journal parts) fits.no_journal;
    port_ = none_once (values_of Port parts) fits.no_serving.no_port;
    batches_ = none_once (values_of Batches parts) fits.no_serving.no_batches;
    at_once_ = none_once (values_of AtOnce parts) fits.no_serving.no_at_once;
    processors_ = none_once (values_of Processors parts) fits.no_simulating.no_processors;
    costs_ = none_once (values_of Costs parts) fits.no_simulating.no_costs;
  });
}

pub few_load : (count first : ℕ) (runtime : values.Runtime) (parts : List Part) → FitsLoad count first runtime parts → IsFew parts
few_load count first runtime parts fits = record {
  words_ = omega (arith, ap length fits.numbers);
  once = by_name parts (record {
    runtime_ = runtime_once (values_of Runtime parts) runtime fits.runtime_;
    docs_ = none_once (values_of Docs parts) fits.no_docs;
    journal_ = none_once (values_of Journal parts) fits.no_journal;
    port_ = none_once (values_of Port parts) fits.no_serving.no_port;
    batches_ = none_once (values_of Batches parts) fits.no_serving.no_batches;
    at_once_ = none_once (values_of AtOnce parts) fits.no_serving.no_at_once;
    processors_ = none_once (values_of Processors parts) fits.no_simulating.no_processors;
    costs_ = none_once (values_of Costs parts) fits.no_simulating.no_costs;
  });
}

pub few_serve : (file : List ℕ) (serving : Serving) (parts : List Part) → FitsServe file serving parts → IsFew parts
few_serve file serving parts fits = record {
  words_ = omega (arith, ap length fits.files);
  once = by_name parts (record {
    runtime_ = (replying_once (values_of Runtime parts) (values_of AtOnce parts) serving.replying fits.replying_).0;
    docs_ = docs_once (values_of Docs parts) serving.docs fits.docs_;
    journal_ = none_once (values_of Journal parts) fits.no_journal;
    port_ = port_once (values_of Port parts) serving.port fits.port_;
    batches_ = batches_once (values_of Batches parts) serving.batches fits.batches_;
    at_once_ = (replying_once (values_of Runtime parts) (values_of AtOnce parts) serving.replying fits.replying_).1;
    processors_ = none_once (values_of Processors parts) fits.no_simulating.no_processors;
    costs_ = none_once (values_of Costs parts) fits.no_simulating.no_costs;
  });
}

pub few_simulate : (file items : List ℕ) (simulating : Simulating) (parts : List Part) → FitsSimulate file items simulating parts → IsFew parts
few_simulate file items simulating parts fits = record {
  words_ = omega (arith, ap length fits.files);
  once = by_name parts (record {
    runtime_ = none_once (values_of Runtime parts) fits.no_runtime;
    docs_ = docs_once (values_of Docs parts) simulating.docs fits.docs_;
    journal_ = none_once (values_of Journal parts) fits.no_journal;
    port_ = none_once (values_of Port parts) fits.no_serving.no_port;
    batches_ = none_once (values_of Batches parts) fits.no_serving.no_batches;
    at_once_ = none_once (values_of AtOnce parts) fits.no_serving.no_at_once;
    processors_ = processors_once (values_of Processors parts) simulating.processors fits.processors_;
    costs_ = costs_once (values_of Costs parts) simulating.costs fits.costs_;
  });
}

pub few_swarm : (file items journal hash : List ℕ) (docs : Option (List ℕ)) (parts : List Part)
    → FitsSwarm file items journal hash docs parts → IsFew parts
few_swarm file items journal hash docs parts fits = record {
  words_ = omega (arith, ap length fits.files);
  once = by_name parts (record {
    runtime_ = none_once (values_of Runtime parts) fits.no_runtime;
    docs_ = docs_once (values_of Docs parts) docs fits.docs_;
    journal_ = none_once (values_of Journal parts) fits.no_journal;
    port_ = none_once (values_of Port parts) fits.no_serving.no_port;
    batches_ = none_once (values_of Batches parts) fits.no_serving.no_batches;
    at_once_ = none_once (values_of AtOnce parts) fits.no_serving.no_at_once;
    processors_ = none_once (values_of Processors parts) fits.no_simulating.no_processors;
    costs_ = none_once (values_of Costs parts) fits.no_simulating.no_costs;
  });
}
