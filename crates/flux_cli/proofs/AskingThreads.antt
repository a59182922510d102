-- Which words ask for threads.
use Rattle.std.proofs.Common.{◌≡◌, ℕ, Bool, false, refl, ◌≤◌, ◌-◌, List, [], ◌∷◌, length, take, drop, get_or, sym, subst}
use Rattle.std.specs.Prelude.{◌↔◌, IsTrue, Option, Some, None}
use Rattle.std.specs.Option.{is_some}
use Rattle.std.specs.Borrow.{Bor}
use Rattle.flux_cli.specs.declared.names.CommandName.{CommandName}
use Rattle.flux_cli.specs.declared.names.CommandName.TheVariants as names
use Rattle.flux_cli.specs.declared.given.Given.{Given}
use Rattle.flux_cli.specs.declared.values.JournalFormat.{JournalFormat}
use Rattle.flux_cli.specs.declared.loads.TheConstants.{LOAD_LIMIT, FIRST_LIMIT}
use Rattle.flux_cli.specs.Names.{IsNamed}
use Rattle.flux_cli.specs.Values.{SpellsNumber, IsRuntime, IsFormat}
use Rattle.flux_cli.specs.Forms.{Serving, HasParts, FitsServe}
use Rattle.flux_cli.specs.Commands.{Command, check, plan, format, run, audit, load, serve, help, simulate, swarm, Spells, SpellsNone, NeedsThreads}
use Rattle.flux_cli.specs.steps.Given.{files_of, listed, IsGiven}
use Rattle.flux_cli.specs.steps.Found.{IsThreaded}
use Rattle.flux_cli.specs.steps.Asking.{IsCommand, AskThreads}
use Rattle.flux_cli.proofs.Forms.{Nothing, run_fits, load_fits, run_given, load_given, behind_name, spelled_whole, first_and_rest}

-- a false answer, where it isn't so
pub not_so : (P : Type 0) → (P → ⊥) → IsTrue false ↔ P
not_so P none = ((λ e. absurd cc), (λ p. absurd (none p)))

-- a value that isn't given
pub none_listed : (value : Option (Bor (List ℕ))) → false ≡ is_some value → listed value ≡ []
none_listed None e = refl
none_listed (Some x) e = absurd cc

-- where the words are no command of a name, none asks for threads
pub nothing_asks : (name : CommandName) (words : List (List ℕ)) → Nothing name words → IsTrue false ↔ AskThreads name words
nothing_asks name words none = not_so (AskThreads name words) (λ asks. none asks.command asks.is)

-- names of commands that run no items
pub calm : (name : CommandName) (words : List (List ℕ)) → (names.Run ≡ name → ⊥) → (names.Load ≡ name → ⊥) → (names.Serve ≡ name → ⊥) → IsTrue false ↔ AskThreads name words
calm name words no_run no_load no_serve = not_so (AskThreads name words) (λ asks. by asks.command asks.is asks.needs)
  where
    by : (command : Command) → IsCommand name words command → NeedsThreads command → ⊥
    by (check file) c needs = needs
    by (plan file) c needs = needs
    by (format file) c needs = needs
    by (run file items options) c needs = no_run c.is
    by (audit file items journal docs) c needs = needs
    by (load count first runtime) c needs = no_load c.is
    by (serve file serving) c needs = no_serve c.is
    by help c needs = needs
    by (simulate file items simulating) c needs = needs
    by (swarm file items journal hash docs) c needs = needs

module _ (words : List (List ℕ)) (given : Given) (is : IsGiven words given) (r : Bool) (told : IsTrue r ↔ IsThreaded (listed given.runtime)) where
  pub run_asks : (file items : List ℕ) (journal : JournalFormat) → files_of given.files ≡ file ∷ items ∷ [] → IsFormat (listed given.journal) journal → listed given.port ≡ [] → listed given.batches ≡ [] → listed given.at_once ≡ []
      → listed given.processors ≡ [] → listed given.costs ≡ [] → IsTrue r ↔ AskThreads names.Run words
  run_asks file items journal files_ format_ p b a n c = (
    (λ e. let threaded = told.0 e in record {
      command = run file items _;
      is = record { is = refl; behind = run_given words given is file items threaded.runtime journal files_ threaded.is format_ p b a n c };
      needs = threaded.starts;
    }),
    (λ asks. told.1 (by asks.command asks.is asks.needs)),
  )
    where
      by : (command : Command) → IsCommand names.Run words command → NeedsThreads command → IsThreaded (listed given.runtime)
      by (run f i m) c needs = record {
        runtime = m.runtime;
        is = subst (λ (l : List (List ℕ)). IsRuntime l m.runtime) (sym is.holds.runtime_) (run_fits words given is f i m c.behind).runtime_;
        starts = needs;
      }
      by (load count first runtime) c needs = let e = c.is in absurd cc
      by (serve f s) c needs = let e = c.is in absurd cc
      by (check f) c needs = absurd needs
      by (plan f) c needs = absurd needs
      by (format f) c needs = absurd needs
      by (audit f i j docs) c needs = absurd needs
      by help c needs = absurd needs
      by (simulate f i m) c needs = absurd needs
      by (swarm f i j h docs) c needs = absurd needs

  pub load_asks : (x y : List ℕ) (count first : ℕ) → files_of given.files ≡ x ∷ y ∷ [] → SpellsNumber 1 LOAD_LIMIT x count → SpellsNumber 0 FIRST_LIMIT y first
      → listed given.docs ≡ [] → listed given.journal ≡ [] → listed given.port ≡ [] → listed given.batches ≡ [] → listed given.at_once ≡ []
      → listed given.processors ≡ [] → listed given.costs ≡ [] → IsTrue r ↔ AskThreads names.Load words
  load_asks x y count first files_ n k d j p b a m c = (
    (λ e. let threaded = told.0 e in record {
      command = load count first threaded.runtime;
      is = record { is = refl; behind = load_given words given is x y count first threaded.runtime files_ n k threaded.is d j p b a m c };
      needs = threaded.starts;
    }),
    (λ asks. told.1 (by asks.command asks.is asks.needs)),
  )
    where
      by : (command : Command) → IsCommand names.Load words command → NeedsThreads command → IsThreaded (listed given.runtime)
      by (load n k runtime) c needs = record {
        runtime = runtime;
        is = subst (λ (l : List (List ℕ)). IsRuntime l runtime) (sym is.holds.runtime_) (load_fits words given is n k runtime c.behind).runtime_;
        starts = needs;
      }
      by (run f i m) c needs = let e = c.is in absurd cc
      by (serve f s) c needs = let e = c.is in absurd cc
      by (check f) c needs = absurd needs
      by (plan f) c needs = absurd needs
      by (format f) c needs = absurd needs
      by (audit f i j docs) c needs = absurd needs
      by help c needs = absurd needs
      by (simulate f i m) c needs = absurd needs
      by (swarm f i j h docs) c needs = absurd needs

-- `serve` asks for threads
pub serve_asks : (words : List (List ℕ)) (r : Bool) → IsTrue r ↔ ((file : List ℕ) × (serving : Serving) × HasParts words (FitsServe file serving)) → IsTrue r ↔ AskThreads names.Serve words
serve_asks words r told = (
  (λ e. let has = told.0 e in record { command = serve has.0 has.1; is = record { is = refl; behind = has.2 }; needs = tt }),
  (λ asks. told.1 (by asks.command asks.is)),
)
  where
    by : (command : Command) → IsCommand names.Serve words command → (file : List ℕ) × (serving : Serving) × HasParts words (FitsServe file serving)
    by (serve f s) c = (f, s, c.behind)
    by other c = let e = c.is in absurd cc

-- words need threads where those after their name ask for them
pub needs_behind : (words : List (List ℕ)) (first word : List ℕ) (name : CommandName) (r : Bool) → 1 ≤ length words → first ≡ get_or words 0 first → first ≡ word → IsNamed name word
    → IsTrue r ↔ AskThreads name (take (length words - 1) (drop 1 words)) → IsTrue r ↔ ((command : Command) × Spells words command × NeedsThreads command)
needs_behind words first word name r some is same named told =
    let rest = take (length words - 1) (drop 1 words) in
    let are = first_and_rest words first some is in
    let own = subst (IsNamed name) (sym same) named in (
      (λ e. let asks = told.0 e in (asks.command, spelled_whole words rest first name asks.command are own asks.is, asks.needs)),
      (λ so. told.1 (record { command = so.0; is = behind_name words rest first name so.0 are own so.1; needs = so.2 })),
    )

pub none_needs : (words : List (List ℕ)) → SpellsNone words → IsTrue false ↔ ((command : Command) × Spells words command × NeedsThreads command)
none_needs words none = not_so ((command : Command) × Spells words command × NeedsThreads command) (λ so. none so.0 so.1)
