-- Faults of declarations are at places of their words.
use Rattle.std.proofs.Common.{◌≡◌, ◌≤◌, ◌+◌, ℕ, zero, suc, min, inl, inr, Bool, true, false, not, nat_lt, if◌then◌else◌, List, [], ◌∷◌, ◌++◌, length, map, filter, drop, Option, Some, None, refl, ap, ◌∙◌, arith}
use Rattle.std.specs.List.{list_any, flat_map, filter_map, AllByRecursion}
use Rattle.flux_check.proofs.Numbered.{all_at}
use Rattle.flux_values.specs.Meanings.{LibraryMeaning}
use Rattle.flux_faults.specs.declared.faults.FaultKind.{FaultKind}
use Rattle.flux_faults.specs.declared.faults.StaticFault.{StaticFault}
use Rattle.flux_model.specs.declared.signatures.TypeText.{TypeText}
use Rattle.flux_model.specs.declared.signatures.NodeSig.{NodeSig}
use Rattle.flux_model.specs.Types.{same_types}
use Rattle.flux_syntax.specs.declared.declarations.Word.{Word}
use Rattle.flux_syntax.specs.declared.declarations.Param.{Param}
use Rattle.flux_syntax.specs.declared.declarations.Constraint.{Constraint}
use Rattle.flux_syntax.specs.declared.declarations.Decl.{Decl}
use Rattle.flux_syntax.specs.declared.declarations.Decl.TheVariants.{Signature, Flow, Source, Typedef, Handler, Atomic, Session}
use Rattle.flux_syntax.specs.Words.{naming, defined, sourced, known, and_name, names_of, unless_known, first_words_after, first_words, listed}
use Rattle.flux_syntax.specs.ProgramOfText.{places, class_of, constraints_of, is_on}
use Rattle.flux_syntax.specs.Least.{Row, sooner, soonest, fault_or, first_fault}
use Rattle.flux_syntax.proofs.Standing.{StandsIn, fault_words, code_words, AllStandIn}
use Rattle.flux_names.specs.declared.rows.TheConstants.{NODE_LIMIT, CLASS_LIMIT}
use Rattle.flux_names.specs.Rows as names
use Rattle.flux_types.specs.Rows as types
use Rattle.flux_types.specs.Signatures.{sig_of}
use Rattle.flux_edges.specs.Rows as edges
use Rattle.flux_hoist.specs.declared.checked.TheConstants.{SIZE_LIMIT}
use Rattle.flux_check.specs.Rows.{ConstraintOn, constraints_in, is_other_scope, both_scopes_after, unprotected_in, past_limit, too_large_after, flow_size, size_rows, later_rows}
use Rattle.flux_check.specs.Judgement.{IsDeclsFault}

some_pair : (x y : FaultKind × ℕ) → ◌≡◌ {A = Option (FaultKind × ℕ)} (Some x) (Some y) → x ≡ y
some_pair x y e = cc

module _ (n : ℕ) where
  abbrev Within : Word → Type 0
  Within word = word.at ≤ n

  abbrev AllIn : List Word → Type 0
  AllIn words = AllByRecursion Within words

  abbrev DeclIn : Decl → Type 0
  DeclIn d = AllIn (fault_words d) × AllIn (code_words d)

  abbrev DeclsIn : List Decl → Type 0
  DeclsIn decls = AllByRecursion DeclIn decls

  -- ---- the least place

  soonest_in : (place : Option ℕ) (words : List Word) (at : ℕ) → ((p : ℕ) → place ≡ Some p → p ≤ n) → AllIn words → soonest place words ≡ Some at → at ≤ n
  soonest_in place [] at start all e = start at e
  soonest_in place (w ∷ words) at start all e = soonest_in (Some (sooner place w.at)) words at (λ p same. one place start p same) all.1 e
    where
      one : (place : Option ℕ) → ((p : ℕ) → place ≡ Some p → p ≤ n) → (p : ℕ) → Some (sooner place w.at) ≡ Some p → p ≤ n
      one None start p same = let h : w.at ≡ p = cc in omega (arith, h, all.0)
      one (Some q) start p same = let h : min q w.at ≡ p = cc in omega (arith, h, all.0)

  abbrev RowsIn : List Row → Type 0
  RowsIn rs = AllByRecursion (λ row. AllIn row.1) rs

  nothing_in : (place : ℕ) → ◌≡◌ {A = Option ℕ} None (Some place) → place ≤ n
  nothing_in place none = absurd cc

  fault_in : (rs : List Row) (kind : FaultKind) (at : ℕ) → RowsIn rs → first_fault rs ≡ Some (kind, at) → at ≤ n
  fault_in [] kind at all e = absurd cc
  fault_in (row ∷ rs) kind at all e = one (soonest None row.1) refl (fault_in rs kind at all.1)
    where
      one : (place : Option ℕ) → soonest None row.1 ≡ place → (first_fault rs ≡ Some (kind, at) → at ≤ n) → at ≤ n
      one None i more = more (let h : fault_or row.0 None (first_fault rs) ≡ Some (kind, at) = rw i at e in h)
      one (Some p) i more =
          let h : Some (row.0, p) ≡ Some (kind, at) = (let g : fault_or row.0 (Some p) (first_fault rs) ≡ Some (kind, at) = rw i at e in g) in
          let pair : ◌≡◌ {A = FaultKind × ℕ} (row.0, p) (kind, at) = some_pair (row.0, p) (kind, at) h in
          let same : p ≡ at = ap (λ (x : FaultKind × ℕ). x.1) pair in
          let le = soonest_in None row.1 p nothing_in all.0 i in omega (arith, same, le)

  -- ---- lists of words

  both_in : (a b : List Word) → AllIn a → AllIn b → AllIn (a ++ b)
  both_in [] b x y = y
  both_in (w ∷ a) b x y = (x.0, both_in a b x.1 y)

  left_in : (a b : List Word) → AllIn (a ++ b) → AllIn a
  left_in [] b h = tt
  left_in (w ∷ a) b h = (h.0, left_in a b h.1)

  right_in : (a b : List Word) → AllIn (a ++ b) → AllIn b
  right_in [] b h = h
  right_in (w ∷ a) b h = right_in a b h.1

  filter_in : (p : Word → Bool) (words : List Word) → AllIn words → AllIn (filter p words)
  filter_in p [] h = tt
  filter_in p (w ∷ words) h = one (p w) refl (filter_in p words h.1)
    where
      one : (t : Bool) → p w ≡ t → AllIn (filter p words) → AllIn (filter p (w ∷ words))
      one true e more = rw e (h.0, more)
      one false e more = rw e more

  drop_in : (count : ℕ) (words : List Word) → AllIn words → AllIn (drop count words)
  drop_in zero words h = (rw (drop_none words) h)
    where
      drop_none : (ws : List Word) → drop zero ws ≡ ws
      drop_none [] = refl
      drop_none (w ∷ ws) = refl
  drop_in (suc count) [] h = tt
  drop_in (suc count) (w ∷ words) h = drop_in count words h.1

  if_in : (t : Bool) (w : Word) → Within w → AllIn (if t then w ∷ [] else [])
  if_in true w h = (h, tt)
  if_in false w h = tt

  unless_in : (t : Bool) (w : Word) → Within w → AllIn (if t then [] else w ∷ [])
  unless_in true w h = tt
  unless_in false w h = (h, tt)

  listed_if_in : (t : Bool) (w : Option Word) → AllIn (listed w) → AllIn (if t then listed w else [])
  listed_if_in true w h = h
  listed_if_in false w h = tt

  flat_in : {A : Type 0} (P : A → Type 0) (f : A → List Word) → ((x : A) → P x → AllIn (f x)) → (xs : List A) → AllByRecursion P xs → AllIn (flat_map f xs)
  flat_in P f each [] h = tt
  flat_in P f each (x ∷ xs) h = both_in (f x) (flat_map f xs) (each x h.0) (flat_in P f each xs h.1)

  mapped_in : {A : Type 0} (f : A → Word) (xs : List A) → AllIn (map f xs) → AllByRecursion (λ x. Within (f x)) xs
  mapped_in f [] h = tt
  mapped_in f (x ∷ xs) h = (h.0, mapped_in f xs h.1)

  -- ---- words of declarations by what they are there for

  naming_in : (d : Decl) → DeclIn d → AllIn (listed (naming d))
  naming_in (Signature name ins outs) h = (h.0.0, tt)
  naming_in (Flow name patterns members) h = (h.0.0, tt)
  naming_in other h = tt

  defined_in : (d : Decl) → DeclIn d → AllIn (listed (defined d))
  defined_in (Typedef name function) h = (h.0.0, tt)
  defined_in other h = tt

  sourced_in : (d : Decl) → DeclIn d → AllIn (listed (sourced d))
  sourced_in (Source name target) h = (h.0.0, tt)
  sourced_in other h = tt

  handled_in : (d : Decl) → DeclIn d → AllIn (listed (names.handled d))
  handled_in (Handler node [] handler) h = (h.0.0, tt)
  handled_in (Handler node (code ∷ codes) handler) h = tt
  handled_in other h = tt

  sessioned_in : (d : Decl) → DeclIn d → AllIn (listed (names.sessioned d))
  sessioned_in (Session source function) h = (h.0.0, tt)
  sessioned_in other h = tt

  members_in : (patterns : Option (List (Option Word))) (members : List Word) → AllIn (fault_words (Flow (record { text = []; at = 0 }) patterns members)) → AllIn members
  members_in None members h = h.1
  members_in (Some patterns) members h = right_in (filter_map (λ pattern. pattern) patterns) members h.1

  flow_members : (name : Word) (patterns : Option (List (Option Word))) (members : List Word) → DeclIn (Flow name patterns members) → AllIn members
  flow_members name patterns members h = members_in patterns members (omega arith, h.0.1)

  inner_in : (d : Decl) → DeclIn d → AllIn (names.inner_names d)
  inner_in (Source name target) h = h.0.1
  inner_in (Flow name patterns members) h = flow_members name patterns members h
  inner_in (Handler node codes handler) h = h.0
  inner_in (Atomic node constraints) h = (h.0.0, tt)
  inner_in other h = tt

  used_in : (d : Decl) → DeclIn d → AllIn (names.used_names d)
  used_in d h =
      both_in (listed (sourced d)) (listed (names.sessioned d) ++ names.inner_names d) (sourced_in d h)
      (both_in (listed (names.sessioned d)) (names.inner_names d) (sessioned_in d h) (inner_in d h))

  patterns_in : (d : Decl) → DeclIn d → AllIn (names.pattern_words d)
  patterns_in (Flow name None members) h = tt
  patterns_in (Flow name (Some patterns) members) h = left_in (filter_map (λ pattern. pattern) patterns) members h.0.1
  patterns_in other h = tt

  -- ---- rows on names

  repeated_in : (sort : Decl → Option Word) → ((d : Decl) → DeclIn d → AllIn (listed (sort d))) → (before decls : List Decl) → DeclsIn decls → AllIn (names.repeated_after sort before decls)
  repeated_in sort each before [] h = tt
  repeated_in sort each before (d ∷ decls) h =
      both_in (names.listed_if (list_any (names.repeats sort d) before) (sort d)) (names.repeated_after sort (before ++ d ∷ []) decls)
      (listed_if_in (list_any (names.repeats sort d) before) (sort d) (each d h.0)) (repeated_in sort each (before ++ d ∷ []) decls h.1)

  twice_in : (decls : List Decl) → DeclsIn decls → AllIn (names.twice_named decls)
  twice_in decls h =
      both_in (names.repeated decls naming) _ (repeated_in naming naming_in [] decls h)
      (both_in (names.repeated decls defined) _ (repeated_in defined defined_in [] decls h)
      (both_in (names.repeated decls sourced) _ (repeated_in sourced sourced_in [] decls h)
      (both_in (names.repeated decls names.handled) _ (repeated_in names.handled handled_in [] decls h)
      (both_in (names.repeated decls names.sessioned) _ (repeated_in names.sessioned sessioned_in [] decls h) tt))))

  type_in : (meaning : LibraryMeaning) (param : Param) → Within param.ty → AllIn (names.unknown_type meaning param)
  type_in meaning param h = if_in _ param.ty h

  types_in : (meaning : LibraryMeaning) (d : Decl) → DeclIn d → AllIn (names.unknown_types_in meaning d)
  types_in meaning (Signature name ins outs) h =
      let i = mapped_in (λ param. param.ty) ins (left_in (map (λ param. param.ty) ins) (map (λ param. param.ty) outs) h.0.1) in
      let o = mapped_in (λ param. param.ty) outs (right_in (map (λ param. param.ty) ins) (map (λ param. param.ty) outs) h.0.1) in
      both_in (flat_map (names.unknown_type meaning) ins) (flat_map (names.unknown_type meaning) outs)
      (flat_in (λ param. Within param.ty) (names.unknown_type meaning) (type_in meaning) ins i)
      (flat_in (λ param. Within param.ty) (names.unknown_type meaning) (type_in meaning) outs o)
  types_in meaning other h = tt

  absent_in : (meaning : LibraryMeaning) (d : Decl) → DeclIn d → AllIn (names.not_in meaning d)
  absent_in meaning (Signature name ins outs) h = if_in _ name h.0.0
  absent_in meaning other h = tt

  unlike_in : (meaning : LibraryMeaning) (d : Decl) → DeclIn d → AllIn (names.unlike meaning d)
  unlike_in meaning (Signature name ins outs) h = if_in _ name h.0.0
  unlike_in meaning other h = tt

  function_in : (meaning : LibraryMeaning) (d : Decl) → DeclIn d → AllIn (names.unknown_function meaning d)
  function_in meaning (Typedef name function) h = if_in _ function h.0.1.0
  function_in meaning other h = tt

  session_in : (meaning : LibraryMeaning) (d : Decl) → DeclIn d → AllIn (names.unknown_session meaning d)
  session_in meaning (Session source function) h = if_in _ function h.0.1.0
  session_in meaning other h = tt

  first_in : (known_names : List (List ℕ)) (decls : List Decl) → DeclsIn decls → AllIn (first_words_after known_names decls)
  first_in known_names [] h = tt
  first_in known_names (d ∷ decls) h =
      both_in (unless_known known_names (naming d)) (first_words_after (and_name known_names (naming d)) decls)
      (one (naming d) (naming_in d h.0)) (first_in (and_name known_names (naming d)) decls h.1)
    where
      one : (w : Option Word) → AllIn (listed w) → AllIn (unless_known known_names w)
      one None i = tt
      one (Some w) i = unless_in (known known_names w.text) w i.0

  abbrev ConstraintIn : Constraint → Type 0
  ConstraintIn c = let w = c.name in Within w

  all_constraints : (a b : List Constraint) → AllByRecursion ConstraintIn a → AllByRecursion ConstraintIn b → AllByRecursion ConstraintIn (a ++ b)
  all_constraints [] b x y = y
  all_constraints (c ∷ a) b x y = (x.0, all_constraints a b x.1 y)

  held_in : (decls : List Decl) → DeclsIn decls → AllByRecursion ConstraintIn (flat_map constraints_of decls)
  held_in [] h = tt
  held_in (Atomic node constraints ∷ decls) h = all_constraints constraints (flat_map constraints_of decls) (mapped_in (λ c. c.name) constraints h.0.0.1) (held_in decls h.1)
  held_in (other ∷ decls) h = held_in decls h.1

  classes_in : (before constraints : List Constraint) → AllByRecursion ConstraintIn constraints → AllIn (names.class_words_after before constraints)
  classes_in before [] h = tt
  classes_in before (c ∷ constraints) h =
      both_in (names.word_if (not (list_any (is_on (class_of c)) before)) c.name) (names.class_words_after (before ++ c ∷ []) constraints)
      (if_in (not (list_any (is_on (class_of c)) before)) c.name h.0) (classes_in (before ++ c ∷ []) constraints h.1)

  abbrev CodeIn : names.CodeOn → Type 0
  CodeIn c = let w = c.number in Within w

  all_codes : (a b : List names.CodeOn) → AllByRecursion CodeIn a → AllByRecursion CodeIn b → AllByRecursion CodeIn (a ++ b)
  all_codes [] b x y = y
  all_codes (c ∷ a) b x y = (x.0, all_codes a b x.1 y)

  codes_on : (node : Word) (codes : List Word) → AllIn codes → AllByRecursion CodeIn (map (λ code. record { node = node; number = code }) codes)
  codes_on node [] h = tt
  codes_on node (c ∷ codes) h = (h.0, codes_on node codes h.1)

  codes_in : (decls : List Decl) → DeclsIn decls → AllByRecursion CodeIn (flat_map names.codes_in decls)
  codes_in [] h = tt
  codes_in (Handler node codes handler ∷ decls) h = all_codes (names.codes_in (Handler node codes handler)) (flat_map names.codes_in decls) (codes_on node codes h.0.1) (codes_in decls h.1)
  codes_in (other ∷ decls) h = codes_in decls h.1

  bad_codes_in : (before codes : List names.CodeOn) → AllByRecursion CodeIn codes → AllIn (names.bad_codes_after before codes)
  bad_codes_in before [] h = tt
  bad_codes_in before (c ∷ codes) h =
      both_in (names.word_if (names.is_bad_code before c) c.number) (names.bad_codes_after (before ++ c ∷ []) codes)
      (if_in (names.is_bad_code before c) c.number h.0) (bad_codes_in (before ++ c ∷ []) codes h.1)

  names_in : (meaning : LibraryMeaning) (decls : List Decl) → DeclsIn decls → RowsIn (names.rows meaning decls)
  names_in meaning decls h = (
    twice_in decls h,
    (
      flat_in DeclIn _ (λ d i. filter_in _ (names.used_names d) (used_in d i)) decls h,
      (
        flat_in DeclIn _ (types_in meaning) decls h,
        (
          flat_in DeclIn _ (absent_in meaning) decls h,
          (
            flat_in DeclIn _ (unlike_in meaning) decls h,
            (
              flat_in DeclIn _ (λ d i. both_in (names.unknown_function meaning d) _ (function_in meaning d i) (filter_in _ (names.pattern_words d) (patterns_in d i))) decls h,
              (
                flat_in DeclIn _ (session_in meaning) decls h,
                (
                  flat_in DeclIn _ (λ d i. both_in (names.not_among (names.source_nodes meaning decls) (listed (sourced d))) _ (filter_in _ (listed (sourced d)) (sourced_in d i)) (filter_in _ (listed (names.sessioned d)) (sessioned_in d i))) decls h,
                  (
                    flat_in DeclIn _ (λ d i. filter_in _ (names.inner_names d) (inner_in d i)) decls h,
                    (
                      both_in (drop NODE_LIMIT (first_words decls)) (drop CLASS_LIMIT (names.class_words decls)) (drop_in NODE_LIMIT (first_words decls) (first_in [] decls h)) (drop_in CLASS_LIMIT (names.class_words decls) (classes_in [] (flat_map constraints_of decls) (held_in decls h))),
                      (
                        bad_codes_in [] (flat_map names.codes_in decls) (codes_in decls h),
                        tt,
                      ),
                    ),
                  ),
                ),
              ),
            ),
          ),
        ),
      ),
    ),
  )

  -- ---- rows on types

  hollow_in : (decls : List Decl) (words : List Word) → AllIn words → AllIn (flat_map (types.hollow_node decls) words)
  hollow_in decls words h = flat_in Within (types.hollow_node decls) (λ w i. if_in _ w i) words h

  unjoined_in : (sigs : types.WordSigs) (from : Word) (words : List Word) → AllIn words → AllIn (types.unjoined_after sigs from words)
  unjoined_in sigs from [] h = tt
  unjoined_in sigs from (to ∷ words) h =
      let before = sigs from in let after = sigs to in
      both_in (types.unless (same_types before.outs after.ins) to) (types.unjoined_after sigs to words) (unless_in (same_types before.outs after.ins) to h.0) (unjoined_in sigs to words h.1)

  joins_in : (sigs : types.WordSigs) (d : Decl) → DeclIn d → AllIn (types.unjoined_in sigs d)
  joins_in sigs (Flow name patterns members) h = one members (flow_members name patterns members h)
    where
      one : (ms : List Word) → AllIn ms → AllIn (types.unjoined sigs ms)
      one [] i = tt
      one (m ∷ ms) i = unjoined_in sigs m ms i.1
  joins_in sigs other h = tt

  counts_in : (sigs : types.WordSigs) (d : Decl) → DeclIn d → AllIn (types.miscounted_in sigs d)
  counts_in sigs (Flow name patterns members) h = unless_in _ name h.0.0
  counts_in sigs other h = tt

  cases_in : (sigs : types.WordSigs) (d : Decl) → DeclIn d → AllIn (types.unlike_node_in sigs d)
  cases_in sigs (Flow name patterns members) h = unless_in _ name h.0.0
  cases_in sigs other h = tt

  inputs_in : (predicates : types.Predicates) (patterns : List (Option Word)) (inputs : List TypeText) → AllIn (filter_map (λ pattern. pattern) patterns) → AllIn (types.unlike_inputs predicates patterns inputs)
  inputs_in predicates [] inputs h = tt
  inputs_in predicates (None ∷ patterns) [] h = tt
  inputs_in predicates (Some w ∷ patterns) [] h = tt
  inputs_in predicates (None ∷ patterns) (input ∷ inputs) h = inputs_in predicates patterns inputs h
  inputs_in predicates (Some w ∷ patterns) (input ∷ inputs) h =
      both_in (types.unlike_input predicates (Some w) input) (types.unlike_inputs predicates patterns inputs) (unless_in _ w h.0) (inputs_in predicates patterns inputs h.1)

  predicates_in : (sigs : types.WordSigs) (predicates : types.Predicates) (d : Decl) → DeclIn d → AllIn (types.unlike_predicates_in sigs predicates d)
  predicates_in sigs predicates (Flow name None members) h = tt
  predicates_in sigs predicates (Flow name (Some patterns) members) h =
      let own = sigs name in inputs_in predicates patterns own.ins (left_in (filter_map (λ pattern. pattern) patterns) members h.0.1)
  predicates_in sigs predicates other h = tt

  targets_in : (sigs : types.WordSigs) (d : Decl) → DeclIn d → AllIn (types.unlike_target sigs d)
  targets_in sigs (Source name target) h = unless_in _ target h.0.1.0
  targets_in sigs other h = tt

  functions_in : (meaning : LibraryMeaning) (sigs : types.WordSigs) (d : Decl) → DeclIn d → AllIn (types.unlike_source meaning.session sigs d)
  functions_in meaning sigs (Session source function) h = unless_in _ function h.0.1.0
  functions_in meaning sigs other h = tt

  handlers_in : (sigs : ℕ → NodeSig) (node_names : List (List ℕ)) (d : Decl) → DeclIn d → AllIn (edges.unlike_handler sigs node_names d)
  handlers_in sigs node_names (Handler node codes handler) h = unless_in _ handler h.0.1.0
  handlers_in sigs node_names other h = tt

  unserved_in : (decls : List Decl) (d : Decl) → DeclIn d → AllIn (edges.unserved_source decls d)
  unserved_in decls (Source name target) h = unless_in _ name h.0.0
  unserved_in decls other h = tt

  scopes_in : (before ons : List ConstraintOn) → AllByRecursion (λ (o : ConstraintOn). let c = o.constraint in Within c.name) ons → AllIn (both_scopes_after before ons)
  scopes_in before [] h = tt
  scopes_in before (own ∷ ons) h =
      let mine = own.constraint in
      both_in (names.word_if (list_any (is_other_scope own) before) mine.name) (both_scopes_after (before ++ own ∷ []) ons)
      (if_in (list_any (is_other_scope own) before) mine.name h.0) (scopes_in (before ++ own ∷ []) ons h.1)

  all_ons : (a b : List ConstraintOn) → AllByRecursion (λ (o : ConstraintOn). let c = o.constraint in Within c.name) a → AllByRecursion (λ (o : ConstraintOn). let c = o.constraint in Within c.name) b
      → AllByRecursion (λ (o : ConstraintOn). let c = o.constraint in Within c.name) (a ++ b)
  all_ons [] b x y = y
  all_ons (o ∷ a) b x y = (x.0, all_ons a b x.1 y)

  ons_with : (node : Word) (constraints : List Constraint) → AllByRecursion ConstraintIn constraints → AllByRecursion (λ (o : ConstraintOn). let c = o.constraint in Within c.name) (map (λ c. record { node = node; constraint = c }) constraints)
  ons_with node [] h = tt
  ons_with node (c ∷ constraints) h = (h.0, ons_with node constraints h.1)

  ons_in : (decls : List Decl) → DeclsIn decls → AllByRecursion (λ (o : ConstraintOn). let c = o.constraint in Within c.name) (flat_map constraints_in decls)
  ons_in [] h = tt
  ons_in (Atomic node constraints ∷ decls) h = all_ons (constraints_in (Atomic node constraints)) (flat_map constraints_in decls) (ons_with node constraints (mapped_in (λ c. c.name) constraints h.0.0.1)) (ons_in decls h.1)
  ons_in (other ∷ decls) h = ons_in decls h.1

  cells_in : (meaning : LibraryMeaning) (decls : List Decl) (d : Decl) → DeclIn d → AllIn (unprotected_in meaning decls d)
  cells_in meaning decls (Signature name ins outs) h = if_in _ name h.0.0
  cells_in meaning decls other h = tt

  large_in : (size : Word → ℕ) (total : ℕ) (decls : List Decl) → DeclsIn decls → AllIn (too_large_after size total decls)
  large_in size total [] h = tt
  large_in size total (Source name target ∷ decls) h =
      both_in (past_limit (total + size target) name) (too_large_after size (total + size target) decls) (if_in (nat_lt SIZE_LIMIT (total + size target)) name h.0.0.0) (large_in size (total + size target) decls h.1)
  large_in size total (other ∷ decls) h = large_in size total decls h.1

  later_in : (meaning : LibraryMeaning) (decls : List Decl) → DeclsIn decls → RowsIn (later_rows meaning decls)
  later_in meaning decls h =
      let sigs = types.sigs_of meaning decls in (
        hollow_in decls (first_words decls) (first_in [] decls h),
        (
          flat_in DeclIn _ (joins_in sigs) decls h,
          (
            flat_in DeclIn _ (counts_in sigs) decls h,
            (
              flat_in DeclIn _ (cases_in sigs) decls h,
              (
                flat_in DeclIn _ (predicates_in sigs (types.predicates_of meaning decls)) decls h,
                (
                  flat_in DeclIn _ (handlers_in (sig_of meaning.kind decls) (names_of decls)) decls h,
                  (
                    flat_in DeclIn _ (targets_in sigs) decls h,
                    (
                      flat_in DeclIn _ (functions_in meaning sigs) decls h,
                      (
                        scopes_in [] (flat_map constraints_in decls) (ons_in decls h),
                        (
                          flat_in DeclIn _ (cells_in meaning decls) decls h,
                          (
                            flat_in DeclIn _ (unserved_in decls) decls h,
                            tt,
                          ),
                        ),
                      ),
                    ),
                  ),
                ),
              ),
            ),
          ),
        ),
      )

  -- ---- the places of nodes

  places_in : (words : List Word) → AllIn words → AllByRecursion (λ at. at ≤ n) (places words)
  places_in [] h = tt
  places_in (w ∷ words) h = (h.0, places_in words h.1)

  decls_in : (meaning : LibraryMeaning) (decls : List Decl) (fault : StaticFault) → DeclsIn decls → IsDeclsFault meaning decls fault → fault.at ≤ n
  decls_in meaning decls fault h (inl f) = fault_in (names.rows meaning decls) fault.kind fault.at (names_in meaning decls h) f.is
  decls_in meaning decls fault h (inr (inl c)) = let cycle = c.cycle in all_at (λ at. at ≤ n) (places (first_words decls)) _ fault.at cycle.site (places_in (first_words decls) (first_in [] decls h))
  decls_in meaning decls fault h (inr (inr (inl l))) = let first = l.first in fault_in (later_rows meaning decls) fault.kind fault.at (later_in meaning decls h) first.is
  decls_in meaning decls fault h (inr (inr (inr l))) = let first = l.first in fault_in (size_rows l.locks decls) fault.kind fault.at (large_in (flow_size l.locks decls) 0 decls h, tt) first.is

stand_in : (text : List ℕ) (words : List Word) → AllByRecursion (StandsIn text) words → AllByRecursion (λ w. w.at ≤ length text) words
stand_in text [] h = tt
stand_in text (w ∷ words) h = let own = h.0 in (own.within, stand_in text words h.1)

all_in : (text : List ℕ) (decls : List Decl) → AllStandIn text decls
    → AllByRecursion (λ d. AllByRecursion (λ w. w.at ≤ length text) (fault_words d) × AllByRecursion (λ w. w.at ≤ length text) (code_words d)) decls
all_in text [] h = tt
all_in text (d ∷ decls) h = ((stand_in text (fault_words d) h.0.0, h.0.1), all_in text decls h.1)

-- the place of a fault is within the text
pub fault_within : (meaning : LibraryMeaning) (text : List ℕ) (decls : List Decl) (fault : StaticFault) → AllStandIn text decls → IsDeclsFault meaning decls fault → fault.at ≤ length text
fault_within meaning text decls fault stand f = decls_in (length text) meaning decls fault (all_in text decls stand) f
