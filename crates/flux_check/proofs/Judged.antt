-- What the steps of checking give is the judgement of the declarations and of the text.
use Rattle.std.proofs.Common.{◌≡◌, ◌<◌, ℕ, zero, suc, inl, inr, Bool, true, false, if◌then◌else◌, List, [], ◌∷◌, ◌++◌, length, map, Option, Some, None, refl, sym, ap, subst, ◌∙◌, arith, append_assoc}
use Rattle.std.specs.List.{slice_get, AllByRecursion}
use Rattle.std.proofs.lemmas.List.{append-nil}
use Rattle.flux_check.proofs.Numbered.{all_at}
use Rattle.flux_values.specs.Meanings.{LibraryMeaning}
use Rattle.flux_faults.specs.declared.faults.FaultKind.{FaultKind}
use Rattle.flux_faults.specs.declared.faults.FaultKind.TheVariants.{Cycle, HandlerTypes, NoSession}
use Rattle.flux_faults.specs.declared.faults.CheckFault.{CheckFault}
use Rattle.flux_faults.specs.declared.faults.CheckFault.TheVariants as causes
use Rattle.flux_model.specs.declared.programs.Program.{Program}
use Rattle.flux_model.specs.declared.programs.NodeNo.{NodeNo}
use Rattle.flux_model.specs.declared.programs.Node.{Node}
use Rattle.flux_model.specs.declared.programs.Hold.{Hold}
use Rattle.flux_model.specs.declared.named.Named.{Named}
use Rattle.flux_model.specs.declared.signatures.NodeSig.{NodeSig}
use Rattle.flux_model.specs.Numbered.{AreBelow, IsNumbered}
use Rattle.flux_model.specs.Leading.{leads_to, leads_in, numbers_of}
use Rattle.flux_model.specs.Children.{IsIn}
use Rattle.flux_model.specs.Ordering.{IsOrder, IsLed, HasCycle, IsCycle, IsLowestCycle}
use Rattle.flux_model.specs.Kinds.{sig_at}
use Rattle.flux_model.specs.Locks.{AreLocks}
use Rattle.flux_model.specs.Soundness.{HasSession}
use Rattle.flux_model.specs.Texts.{node_name}
use Rattle.flux_syntax.specs.declared.declarations.Word.{Word}
use Rattle.flux_syntax.specs.declared.declarations.Decl.{Decl}
use Rattle.flux_syntax.specs.Declares.{Declares}
use Rattle.flux_syntax.specs.Unexpected as syntax
use Rattle.flux_syntax.specs.Words.{naming, known, and_name, names_after, names_of, unless_known, first_words_after, first_words}
use Rattle.flux_syntax.specs.ProgramOfText.{places, program_of}
use Rattle.flux_syntax.specs.Least.{Row, fault_or, first_fault, IsLeastFault}
use Rattle.flux_syntax.proofs.Standing.{all_stand, text_few}
use Rattle.flux_names.specs.Rows.{rows}
use Rattle.flux_names.specs.Resolving.{IsResolved}
use Rattle.flux_types.specs.Signatures.{nodes_of, sig_of}
use Rattle.flux_types.specs.Rows.{sig_rows, source_rows}
use Rattle.flux_types.specs.Typing.{AreTyped}
use Rattle.flux_types.proofs.Written.{sigs_same}
use Rattle.flux_edges.specs.Places.{least_of}
use Rattle.flux_edges.specs.Handlers.{unlike_handlers}
use Rattle.flux_edges.specs.Unserved.{unserved_sources}
use Rattle.flux_edges.specs.Rows.{handler_rows, session_rows}
use Rattle.flux_edges.proofs.Texts.{handlers_least, sessions_least}
use Rattle.flux_hoist.specs.Sets.{held_by}
use Rattle.flux_check.specs.Rows.{constraint_rows, size_rows, last_rows, edge_rows, later_rows}
use Rattle.flux_check.specs.Judgement.{AreOrdered, AreJoined, IsCycleOf}
use Rattle.flux_check.specs.Checked.{AreChecked, IsRefusalOf}
use Rattle.flux_check.specs.steps.Checking.{IsDeclared, AreSizes, IsCycleRefusal, IsDeclsRefusal, site_of}
use Rattle.flux_check.proofs.Firsts.{first_fault-behind, first_fault-before}
use Rattle.flux_check.proofs.Places.{fault_within}
use Rattle.flux_check.proofs.Handled.{handles_named}
use Rattle.flux_check.proofs.Kept.{checked}

-- ---- one site for each node

first_many : (names : List (List ℕ)) (decls : List Decl) → length (names_after names decls) ≡ length (names ++ map (λ word. word.text) (first_words_after names decls))
first_many names [] = ap length (sym (append-nil names))
first_many names (d ∷ decls) = one (naming d) (λ more. first_many more decls)
  where
    one : (w : Option Word) → ((more : List (List ℕ)) → length (names_after more decls) ≡ length (more ++ map (λ word. word.text) (first_words_after more decls)))
        → length (names_after (and_name names w) decls) ≡ length (names ++ map (λ word. word.text) (unless_known names w ++ first_words_after (and_name names w) decls))
    one None each = each names
    one (Some w) each = two (known names w.text) refl
      where
        two : (t : Bool) → known names w.text ≡ t
            → length (names_after (if known names w.text then names else names ++ w.text ∷ []) decls)
            ≡ length (names ++ map (λ word. word.text) ((if known names w.text then [] else w ∷ []) ++ first_words_after (if known names w.text then names else names ++ w.text ∷ []) decls))
        two true e = rw e (each names)
        two false e = rw e (each (names ++ w.text ∷ []) ∙ ap length (append_assoc names (w.text ∷ []) (map (λ word. word.text) (first_words_after (names ++ w.text ∷ []) decls))))

map_many : {A B : Type 0} (f : A → B) (xs : List A) → length (map f xs) ≡ length xs
map_many f [] = refl
map_many f (x ∷ xs) = ap suc (map_many f xs)

pub sites_many : (decls : List Decl) → length (places (first_words decls)) ≡ length (nodes_of decls)
sites_many decls =
    map_many (λ word. word.at) (first_words decls) ∙ sym (map_many (λ word. word.text) (first_words decls))
    ∙ sym (first_many [] decls) ∙ sym (map_many _ (names_of decls))

-- ---- cycles

below_of : (count x : ℕ) (numbers : List NodeNo) → AreBelow count numbers → IsIn x numbers → x < count
below_of count x [] all is = absurd is
below_of count x (n ∷ numbers) all (inl e) = omega (arith, e, all.0)
below_of count x (n ∷ numbers) all (inr i) = below_of count x numbers all.1 i

led_below : (nodes : List Node) (from x : ℕ) → AllByRecursion (λ node. AreBelow (length nodes) (leads_to node)) nodes → IsIn x (leads_in nodes from) → x < length nodes
led_below nodes from x all is = one (slice_get nodes from) refl
  where
    one : (found : Option Node) → slice_get nodes from ≡ found → x < length nodes
    one None e = let h : IsIn x (numbers_of leads_to None) = rw e at is in absurd h
    one (Some node) e = let h : IsIn x (leads_to node) = rw e at is in below_of (length nodes) x (leads_to node) (all_at (λ n. AreBelow (length nodes) (leads_to n)) nodes from node e all) h

last_below : (nodes : List Node) (from : ℕ) (others : List NodeNo) (last : NodeNo) → AllByRecursion (λ node. AreBelow (length nodes) (leads_to node)) nodes → IsLed nodes from (others ++ last ∷ []) → last.0 < length nodes
last_below nodes from [] last all led = led_below nodes from last.0 all led.0
last_below nodes from (next ∷ others) last all led = last_below nodes next.0 others last all led.1

module _ (named : Named) (path : List NodeNo) (numbered : IsNumbered named.program) (many : length named.sites.nodes ≡ length named.program.nodes) (cycle : IsLowestCycle named.program.nodes path) where
  abbrev round : IsCycle named.program.nodes path
  round = cycle.cycle

  first_site : site_of named.sites.nodes path ≡ slice_get named.sites.nodes (let first = round.first in first.0)
  first_site = ap (site_of named.sites.nodes) round.is

  no_site : site_of named.sites.nodes path ≡ None → ⊥
  no_site none =
      let below = last_below named.program.nodes _ round.others round.first numbered.nodes round.led in
      one (slice_get_here named.sites.nodes _ (omega (arith, below, many)))
    where
      slice_get_here : (xs : List ℕ) (n : ℕ) → n < length xs → slice_get xs n ≡ None → ⊥
      slice_get_here [] n lt e = omega (arith, lt)
      slice_get_here (x ∷ xs) zero lt e = absurd cc
      slice_get_here (x ∷ xs) (suc n) lt e = slice_get_here xs n (omega (arith, lt)) e

      one : (slice_get named.sites.nodes (let first = round.first in first.0) ≡ None → ⊥) → ⊥
      one never = never (sym first_site ∙ none)

  cycle_told : (at : ℕ) (names : List (List ℕ)) → site_of named.sites.nodes path ≡ Some at → names ≡ map (node_name named.program) path → IsCycleOf named (record { kind = Cycle; at = at; path = names })
  cycle_told at names site is = record { is = refl; path = path; cycle = cycle; names = is; site = sym first_site ∙ site }

  -- the same, of what the code looks at
  site_is : (sites : List ℕ) (way : List NodeNo) (found : Option ℕ) → sites ≡ named.sites.nodes → way ≡ path → found ≡ site_of sites way → found ≡ site_of named.sites.nodes path
  site_is sites way found a b f = f ∙ (rw (a, b) refl)

  pub some_site : (sites : List ℕ) (way : List NodeNo) (found : Option ℕ) → sites ≡ named.sites.nodes → way ≡ path → found ≡ site_of sites way → found ≡ None → ⊥
  some_site sites way found a b f none = no_site (sym (site_is sites way found a b f) ∙ none)

  pub cycle_found : (sites : List ℕ) (way again : List NodeNo) (found : Option ℕ) (at : ℕ) (names : List (List ℕ)) → sites ≡ named.sites.nodes → way ≡ path → found ≡ site_of sites way → found ≡ Some at → again ≡ path → names ≡ map (node_name named.program) again
      → IsCycleOf named (record { kind = Cycle; at = at; path = names })
  cycle_found sites way again found at names a b f some c is = cycle_told at names (sym (site_is sites way found a b f) ∙ some) (is ∙ ap (map (node_name named.program)) c)

-- ---- refusals of declarations

abbrev pub Acyclic : Named → Type 0
Acyclic named = HasCycle named.program.nodes → ⊥

module _ (meaning : LibraryMeaning) (decls : List Decl) where
  pub names_refused : (fault : CheckFault) → IsLeastFault (first_fault (rows meaning decls)) fault → IsDeclsRefusal meaning decls fault
  names_refused causes.Memory f = tt
  names_refused (causes.Static fault) f = inl (record { is = f.0; path = f.1 })

  module _ (named : Named) (resolved : IsResolved meaning decls named) where
    pub cycle_refused : (fault : CheckFault) → IsCycleRefusal named fault → IsDeclsRefusal meaning decls fault
    cycle_refused causes.Memory f = tt
    cycle_refused (causes.Static fault) f = inr (inl (record { named = resolved.sound; cycle = subst (λ (n : Named). IsCycleOf n fault) resolved.is f }))

    module _ (acyclic : Acyclic named) where
      are_ordered : AreOrdered meaning decls
      are_ordered = record { named = resolved.sound; acyclic = subst Acyclic resolved.is acyclic }

      later_refused : (fault : CheckFault) → IsLeastFault (first_fault (later_rows meaning decls)) fault → IsDeclsRefusal meaning decls fault
      later_refused causes.Memory f = tt
      later_refused (causes.Static fault) f = inr (inr (inl (record { ordered = are_ordered; first = record { is = f.0; path = f.1 } })))

      abbrev sigs_part : List Row
      sigs_part = sig_rows meaning decls

      abbrev handlers_part : List Row
      handlers_part = handler_rows (sig_of meaning.kind decls) decls

      abbrev sources_part : List Row
      sources_part = source_rows meaning decls

      abbrev constraints_part : List Row
      constraints_part = constraint_rows meaning decls

      -- rows in front of others
      earlier : (a b : List Row) (fault : CheckFault) → IsLeastFault (first_fault a) fault → IsLeastFault (first_fault (a ++ b)) fault
      earlier a b causes.Memory f = tt
      earlier a b (causes.Static fault) f = (first_fault-before a b (fault.kind, fault.at) f.0, f.1)

      -- rows after others of which none applies
      behind : (a b : List Row) (fault : CheckFault) → first_fault a ≡ None → IsLeastFault (first_fault b) fault → IsLeastFault (first_fault (a ++ b)) fault
      behind a b fault none f = subst (λ (x : Option (FaultKind × ℕ)). IsLeastFault x fault) (sym (first_fault-behind a b none)) f

      pub sigs_refused : (fault : CheckFault) → IsLeastFault (first_fault (sig_rows meaning decls)) fault → IsDeclsRefusal meaning decls fault
      sigs_refused fault f = later_refused fault (earlier sigs_part (edge_rows meaning decls) fault f)

      module _ (sigs : List NodeSig) (typed : AreTyped meaning decls sigs) where
        handled : fault_or HandlerTypes (least_of None (unlike_handlers (sig_at sigs) named)) None ≡ first_fault (handler_rows (sig_of meaning.kind decls) decls)
        handled =
            ap (λ (p : Option ℕ). fault_or HandlerTypes p None)
            (ap (λ (n : Named). least_of None (unlike_handlers (sig_at sigs) n)) resolved.is
            ∙ handlers_least (sig_at sigs) decls (handles_named meaning decls resolved.sound))
            ∙ ap (λ (s : ℕ → NodeSig). first_fault (handler_rows s decls)) (sigs_same meaning.kind decls sigs typed.are)

        pub handlers_refused : (fault : CheckFault) → IsLeastFault (fault_or HandlerTypes (least_of None (unlike_handlers (sig_at sigs) named)) None) fault → IsDeclsRefusal meaning decls fault
        handlers_refused fault f =
            later_refused fault (behind sigs_part (edge_rows meaning decls) fault typed.sound
            (earlier handlers_part (sources_part ++ last_rows meaning decls) fault (subst (λ (x : Option (FaultKind × ℕ)). IsLeastFault x fault) handled f)))

        module _ (fits : least_of None (unlike_handlers (sig_at sigs) named) ≡ None) where
          no_handlers : first_fault (handler_rows (sig_of meaning.kind decls) decls) ≡ None
          no_handlers = sym handled ∙ ap (λ (p : Option ℕ). fault_or HandlerTypes p None) fits

          edges : (fault : CheckFault) → IsLeastFault (first_fault (sources_part ++ last_rows meaning decls)) fault → IsDeclsRefusal meaning decls fault
          edges fault f = later_refused fault (behind sigs_part (edge_rows meaning decls) fault typed.sound (behind handlers_part (sources_part ++ last_rows meaning decls) fault no_handlers f))

          pub sources_refused : (fault : CheckFault) → IsLeastFault (first_fault (source_rows meaning decls)) fault → IsDeclsRefusal meaning decls fault
          sources_refused fault f = edges fault (earlier sources_part (last_rows meaning decls) fault f)

          module _ (sourced : first_fault (source_rows meaning decls) ≡ None) where
            pub constraints_refused : (fault : CheckFault) → IsLeastFault (first_fault (constraint_rows meaning decls)) fault → IsDeclsRefusal meaning decls fault
            constraints_refused fault f = edges fault (behind sources_part (last_rows meaning decls) fault sourced (earlier constraints_part (session_rows decls) fault f))

            served : fault_or NoSession (least_of None (unserved_sources named)) None ≡ first_fault (session_rows decls)
            served = ap (λ (p : Option ℕ). fault_or NoSession p None) (ap (λ (n : Named). least_of None (unserved_sources n)) resolved.is ∙ sessions_least decls)

            module _ (constrained : first_fault (constraint_rows meaning decls) ≡ None) where
              pub sessions_refused : (fault : CheckFault) → IsLeastFault (fault_or NoSession (least_of None (unserved_sources named)) None) fault → IsDeclsRefusal meaning decls fault
              sessions_refused fault f =
                  edges fault (behind sources_part (last_rows meaning decls) fault sourced
                  (behind constraints_part (session_rows decls) fault constrained (subst (λ (x : Option (FaultKind × ℕ)). IsLeastFault x fault) served f)))

              module _ (no_sessions : least_of None (unserved_sources named) ≡ None) where
                none_unserved : first_fault (session_rows decls) ≡ None
                none_unserved = sym served ∙ ap (λ (p : Option ℕ). fault_or NoSession p None) no_sessions

                none_later : first_fault (later_rows meaning decls) ≡ None
                none_later =
                    first_fault-behind sigs_part (edge_rows meaning decls) typed.sound
                    ∙ first_fault-behind handlers_part (sources_part ++ last_rows meaning decls) no_handlers
                    ∙ first_fault-behind sources_part (last_rows meaning decls) sourced
                    ∙ first_fault-behind constraints_part (session_rows decls) constrained
                    ∙ none_unserved

                are_joined : AreJoined meaning decls
                are_joined = record { ordered = are_ordered; later = none_later }

                program_is : named.program ≡ program_of decls
                program_is = ap (λ (n : Named). n.program) resolved.is

                module _ (sets : List (List Hold)) (locks : AreLocks named.program (held_by sets)) where
                  own_locks : AreLocks (program_of decls) (held_by sets)
                  own_locks = subst (λ (p : Program). AreLocks p (held_by sets)) program_is locks

                  pub sizes_refused : (fault : CheckFault) → IsLeastFault (first_fault (size_rows (held_by sets) decls)) fault → IsDeclsRefusal meaning decls fault
                  sizes_refused causes.Memory f = tt
                  sizes_refused (causes.Static fault) f = inr (inr (inr (record { joined = are_joined; locks = held_by sets; are_locks = own_locks; first = record { is = f.0; path = f.1 } })))

                  -- ---- sound declarations

                  module _ (order : List NodeNo) (sizes : List ℕ) (ordered : IsOrder named.program.nodes order) (sized : AreSizes (held_by sets) decls named.program sizes)
                      (sessions : AllByRecursion (HasSession named.program) named.program.sources) where
                    pub checked_is : IsDeclared decls → AreChecked meaning decls named.program sigs order sets sizes
                    checked_is (text, declared) = subst (λ (p : Program). AreChecked meaning decls p sigs order sets sizes) (sym program_is)
                        (checked meaning text decls order sigs sets sizes declared (subst IsNumbered program_is resolved.numbered)
                        (subst (λ (p : Program). IsOrder p.nodes order) program_is ordered) typed.are are_joined
                        (subst (λ (p : Program). AllByRecursion (HasSession p) p.sources) program_is sessions) own_locks (subst (λ (p : Program). AreSizes (held_by sets) decls p sizes) program_is sized))

-- ---- texts

pub text_refused : (meaning : LibraryMeaning) (text : List ℕ) (decls : List Decl) (fault : CheckFault) → Declares decls text → IsDeclsRefusal meaning decls fault → IsRefusalOf meaning text fault
text_refused meaning text decls causes.Memory declared f = tt
text_refused meaning text decls (causes.Static fault) declared f =
    let within = fault_within meaning text decls fault (all_stand decls text declared) f in
    (inr (decls, declared, f), within, omega (arith, within, text_few decls text declared))

pub reading_refused : (meaning : LibraryMeaning) (text : List ℕ) (fault : CheckFault) → syntax.IsRefusalOf text fault → IsRefusalOf meaning text fault
reading_refused meaning text causes.Memory f = tt
reading_refused meaning text (causes.Static fault) (path, faulty, (within, room)) = (inl (faulty, path), within, room)
