-- Words spell one command.
use Rattle.std.proofs.Common.{◌≡◌, inl, inr, ℕ, ◌+◌, List, [], ◌∷◌, length, get_or, eqb, if◌then◌else◌, Option, Some, None, refl, sym, ap, ◌∙◌, subst, arith}
use Rattle.std.specs.Prelude.{option_to_list}
use Rattle.nodes_tracker.specs.Asks.{hash_of}
use Rattle.flux_cli.specs.declared.names.CommandName.{CommandName}
use Rattle.flux_cli.specs.declared.names.CommandName.TheVariants as commands
use Rattle.flux_cli.specs.declared.names.OptionName.TheVariants as names
use Rattle.flux_cli.specs.declared.values.Runtime.{Runtime}
use Rattle.flux_cli.specs.declared.loads.TheConstants.{LOAD_LIMIT, FIRST_LIMIT}
use Rattle.flux_cli.specs.Names.{IsNamed}
use Rattle.flux_cli.specs.Parts.{Part, values_of}
use Rattle.flux_cli.specs.Values.{SpellsNumber}
use Rattle.flux_cli.specs.Forms.{RunOptions, Serving, Simulating, IsFile, HasParts, FitsRun, FitsAudit, FitsLoad, FitsServe, FitsSimulate, FitsSwarm}
use Rattle.flux_cli.specs.Commands.{Command, check, plan, format, run, audit, load, serve, help, simulate, swarm, name_of, FollowsName, Spells}
use Rattle.flux_cli.proofs.Laid.{one_parting}
use Rattle.flux_cli.proofs.Numbers.{one_number, one_runtime, one_format, one_port, one_batches, one_replying}
use Rattle.flux_cli.proofs.CostLists.{one_processors, one_costs}

-- ---- one name

-- the first letter of a command's name twice, and the second one, as a number
letters : CommandName → ℕ
letters commands.Check = 302
letters commands.Plan = 332
letters commands.Format = 315
letters commands.Run = 345
letters commands.Audit = 311
letters commands.Load = 327
letters commands.Serve = 331
letters commands.Help = 309
letters commands.Simulate = 335
letters commands.Swarm = 349

-- what a word's first letters tell of the command: `--help` is `help`
told_by : List ℕ → ℕ
told_by word = let first = get_or word 0 0 in if eqb first 45 then 309 else first + first + get_or word 1 0

told : (name : CommandName) (word : List ℕ) → IsNamed name word → told_by word ≡ letters name
unfolding told_by letters
told commands.Check word is = ap told_by is
told commands.Plan word is = ap told_by is
told commands.Format word is = ap told_by is
told commands.Run word is = ap told_by is
told commands.Audit word is = ap told_by is
told commands.Load word is = ap told_by is
told commands.Serve word is = ap told_by is
told commands.Help word (inl is) = ap told_by is
told commands.Help word (inr is) = ap told_by is
told commands.Simulate word is = ap told_by is
told commands.Swarm word is = ap told_by is

by_letters : (a b : CommandName) → letters a ≡ letters b → a ≡ b
unfolding letters
by_letters commands.Check commands.Check e = refl
by_letters commands.Plan commands.Plan e = refl
by_letters commands.Format commands.Format e = refl
by_letters commands.Run commands.Run e = refl
by_letters commands.Audit commands.Audit e = refl
by_letters commands.Load commands.Load e = refl
by_letters commands.Serve commands.Serve e = refl
by_letters commands.Help commands.Help e = refl
by_letters commands.Simulate commands.Simulate e = refl
by_letters commands.Swarm commands.Swarm e = refl
by_letters a b e = absurd (omega (arith, e))

pub one_name : (a b : CommandName) (word : List ℕ) → IsNamed a word → IsNamed b word → a ≡ b
one_name a b word is also = by_letters a b (sym (told a word is) ∙ told b word also)

-- ---- what follows it

one_file : (words : List (List ℕ)) (f g : List ℕ) → IsFile f words → IsFile g words → f ≡ g
one_file words f g a b = let e : f ∷ [] ≡ g ∷ [] = sym a.0 ∙ b.0 in cc

one_option : (a b : Option (List ℕ)) → option_to_list a ≡ option_to_list b → a ≡ b
one_option None None e = refl
one_option None (Some y) e = absurd (let n = ap length e in omega arith)
one_option (Some x) None e = absurd (let n = ap length e in omega arith)
one_option (Some x) (Some y) e = cc

same_options : (a b : RunOptions) → a.runtime ≡ b.runtime → a.docs ≡ b.docs → a.journal ≡ b.journal → a ≡ b
same_options a b r d j = λ i. record { runtime = r i; docs = d i; journal = j i }

same_run : (f i g j : List ℕ) (m n : RunOptions) (parts : List Part) → FitsRun f i m parts → FitsRun g j n parts → run f i m ≡ run g j n
same_run f i g j m n parts a b =
    let files : f ∷ i ∷ [] ≡ g ∷ j ∷ [] = sym a.files ∙ b.files in
    let options = same_options m n (one_runtime (values_of names.Runtime parts) m.runtime n.runtime a.runtime_ b.runtime_) (one_option m.docs n.docs (sym a.docs_ ∙ b.docs_)) (one_format (values_of names.Journal parts) m.journal n.journal a.journal_ b.journal_) in
    cc (files, options)

same_audit : (f i j g k l : List ℕ) (d e : Option (List ℕ)) (parts : List Part) → FitsAudit f i j d parts → FitsAudit g k l e parts → audit f i j d ≡ audit g k l e
same_audit f i j g k l d e parts a b =
    let files : f ∷ i ∷ j ∷ [] ≡ g ∷ k ∷ l ∷ [] = sym a.files ∙ b.files in
    let docs = one_option d e (sym a.docs_ ∙ b.docs_) in
    cc (files, docs)

same_load : (n k m l : ℕ) (r s : Runtime) (parts : List Part) → FitsLoad n k r parts → FitsLoad m l s parts → load n k r ≡ load m l s
same_load n k m l r s parts a b =
    let words : a.count_digits ∷ a.first_digits ∷ [] ≡ b.count_digits ∷ b.first_digits ∷ [] = sym a.numbers ∙ b.numbers in
    let counts : b.count_digits ≡ a.count_digits = cc in
    let firsts : b.first_digits ≡ a.first_digits = cc in
    let count = one_number 1 LOAD_LIMIT a.count_digits n m a.count_ (subst (λ (d : List ℕ). SpellsNumber 1 LOAD_LIMIT d m) counts b.count_) in
    let first = one_number 0 FIRST_LIMIT a.first_digits k l a.first_ (subst (λ (d : List ℕ). SpellsNumber 0 FIRST_LIMIT d l) firsts b.first_) in
    let runtime = one_runtime (values_of names.Runtime parts) r s a.runtime_ b.runtime_ in
    cc (count, first, runtime)

same_serving : (a b : Serving) → a.port ≡ b.port → a.batches ≡ b.batches → a.docs ≡ b.docs → a.replying ≡ b.replying → a ≡ b
same_serving a b p n d r = λ i. record { port = p i; batches = n i; docs = d i; replying = r i }

same_serve : (f g : List ℕ) (m n : Serving) (parts : List Part) → FitsServe f m parts → FitsServe g n parts → serve f m ≡ serve g n
same_serve f g m n parts a b =
    let files : f ∷ [] ≡ g ∷ [] = sym a.files ∙ b.files in
    let serving = same_serving m n (one_port (values_of names.Port parts) m.port n.port a.port_ b.port_) (one_batches (values_of names.Batches parts) m.batches n.batches a.batches_ b.batches_)
    (one_option m.docs n.docs (sym a.docs_ ∙ b.docs_))
    (one_replying (values_of names.Runtime parts) (values_of names.AtOnce parts) m.replying n.replying a.replying_ b.replying_) in
    cc (files, serving)

same_simulating : (a b : Simulating) → a.processors ≡ b.processors → a.costs ≡ b.costs → a.docs ≡ b.docs → a ≡ b
same_simulating a b p c d = λ i. record { processors = p i; costs = c i; docs = d i }

same_simulate : (f i g j : List ℕ) (m n : Simulating) (parts : List Part) → FitsSimulate f i m parts → FitsSimulate g j n parts → simulate f i m ≡ simulate g j n
same_simulate f i g j m n parts a b =
    let files : f ∷ i ∷ [] ≡ g ∷ j ∷ [] = sym a.files ∙ b.files in
    let simulating = same_simulating m n (one_processors (values_of names.Processors parts) m.processors n.processors a.processors_ b.processors_)
    (one_costs (values_of names.Costs parts) m.costs n.costs a.costs_ b.costs_) (one_option m.docs n.docs (sym a.docs_ ∙ b.docs_)) in
    cc (files, simulating)

same_swarm : (f i j h g k l m : List ℕ) (d e : Option (List ℕ)) (parts : List Part)
    → FitsSwarm f i j h d parts → FitsSwarm g k l m e parts → swarm f i j h d ≡ swarm g k l m e
same_swarm f i j h g k l m d e parts a b =
    let words : f ∷ i ∷ j ∷ a.digits ∷ [] ≡ g ∷ k ∷ l ∷ b.digits ∷ [] = sym a.files ∙ b.files in
    let digits : a.digits ≡ b.digits = cc in
    let hashes : Some h ≡ Some m = sym a.hash_ ∙ ap hash_of digits ∙ b.hash_ in
    let docs = one_option d e (sym a.docs_ ∙ b.docs_) in
    cc (words, hashes, docs)

-- both fit the same parts
on_parts : (words : List (List ℕ)) (First Second : List Part → Type 0) (X : Type 0) → HasParts words First → HasParts words Second → ((parts : List Part) → First parts → Second parts → X) → X
on_parts words First Second X a b f = f b.parts (subst First (one_parting a.parts b.parts words a.laid b.laid) a.fits) b.fits

one_behind : (words : List (List ℕ)) (a b : Command) → letters (name_of a) ≡ letters (name_of b) → FollowsName a words → FollowsName b words → a ≡ b
unfolding letters
one_behind words (check f) (check g) e s t = ap check (one_file words f g s t)
one_behind words (plan f) (plan g) e s t = ap plan (one_file words f g s t)
one_behind words (format f) (format g) e s t = ap format (one_file words f g s t)
one_behind words (run f i m) (run g j n) e s t = on_parts words (FitsRun f i m) (FitsRun g j n) (run f i m ≡ run g j n) s t (same_run f i g j m n)
one_behind words (audit f i j d) (audit g k l c) e s t = on_parts words (FitsAudit f i j d) (FitsAudit g k l c) (audit f i j d ≡ audit g k l c) s t (same_audit f i j g k l d c)
one_behind words (load n k r) (load m l q) e s t = on_parts words (FitsLoad n k r) (FitsLoad m l q) (load n k r ≡ load m l q) s t (same_load n k m l r q)
one_behind words (serve f m) (serve g n) e s t = on_parts words (FitsServe f m) (FitsServe g n) (serve f m ≡ serve g n) s t (same_serve f g m n)
one_behind words help help e s t = refl
one_behind words (simulate f i m) (simulate g j n) e s t = on_parts words (FitsSimulate f i m) (FitsSimulate g j n) (simulate f i m ≡ simulate g j n) s t (same_simulate f i g j m n)
one_behind words (swarm f i j h d) (swarm g k l m c) e s t =
    on_parts words (FitsSwarm f i j h d) (FitsSwarm g k l m c) (swarm f i j h d ≡ swarm g k l m c) s t
    (same_swarm f i j h g k l m d c)
one_behind words a b e s t = absurd (omega (arith, e))

-- ---- one command

pub one_command : (words : List (List ℕ)) (a b : Command) → Spells words a → Spells words b → a ≡ b
one_command words a b s t =
    let both : s.first ∷ s.rest ≡ t.first ∷ t.rest = sym s.are ∙ t.are in
    let first : s.first ≡ t.first = cc in
    let rest : s.rest ≡ t.rest = cc in
    let name = one_name (name_of a) (name_of b) t.first (subst (IsNamed (name_of a)) first s.named) t.named in
    one_behind t.rest a b (ap letters name) (subst (FollowsName a) rest s.behind) t.behind
