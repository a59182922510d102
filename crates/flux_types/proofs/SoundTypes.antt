-- Where none of the rows 16 to 20, 22 and 23 applies, the types of the signatures agree.
use Rattle.std.proofs.Common.{◌≡◌, ◌+◌, ◌<◌, ◌≤◌, ◌==◌, ℕ, suc, eqb, Bool, true, false, ◌||◌, ◌&&◌, if◌then◌else◌, List, [], ◌∷◌, ◌++◌, length, map, Option, Some, None, refl, sym, ap, subst, ◌∙◌, arith}
use Rattle.std.specs.List.{slice_get, flat_map, filter_map, list_any, cons_option, position_or_len, AllByRecursion}
use Rattle.std.specs.Str.{bytes_eq}
use Rattle.std.proofs.lemmas.Bool.Decides.{nat_tests}
use Rattle.std.proofs.lemmas.Option.{slice_get_within}
use Rattle.std.proofs.lemmas.Slice.Eq.{bytes_eq-Decides}
use Rattle.std.proofs.lemmas.Bool.{and_parts}
use Rattle.flux_values.specs.declared.values.Kind.{Kind}
use Rattle.flux_values.specs.Meanings.{LibraryMeaning}
use Rattle.flux_model.specs.declared.programs.NodeNo.{NodeNo}
use Rattle.flux_model.specs.declared.programs.Case.{Case}
use Rattle.flux_model.specs.declared.programs.SourceLine.{SourceLine}
use Rattle.flux_model.specs.declared.signatures.TypeText.{TypeText}
use Rattle.flux_model.specs.declared.signatures.NodeSig.{NodeSig}
use Rattle.flux_model.specs.Kinds.{NodeKinds, kinds_of, node_kinds}
use Rattle.flux_model.specs.Soundness.{TakesKind, IsPatternLike, ArePatternsLike, FitPatterns, IsSessionLike}
use Rattle.flux_model.specs.Types.{same_types}
use Rattle.flux_syntax.specs.declared.declarations.Word.{Word}
use Rattle.flux_syntax.specs.declared.declarations.Param.{Param}
use Rattle.flux_syntax.specs.declared.declarations.Decl.{Decl}
use Rattle.flux_syntax.specs.declared.declarations.Decl.TheVariants.{Signature, Flow, Source, Typedef, Session}
use Rattle.flux_syntax.specs.Words.{names_of, texts_of, defined, function_of}
use Rattle.flux_syntax.specs.ProgramOfText.{place_of, number_of, pattern_of, patterns_of, case_of, is_signed, source_of, session_of, program_of}
use Rattle.flux_syntax.specs.Least.{soonest, first_fault}
use Rattle.flux_syntax.proofs.NumberedNames.{place_at, known_at, known_within}
use Rattle.flux_syntax.proofs.RowLemmas.{none_soonest, no_fault, none_either, none_each, holds_unless}
use Rattle.flux_types.specs.Signatures.{Kinds, line_sig, written, last_of, sig_of}
use Rattle.flux_types.specs.Rows.{WordSigs, sigs_of, unless, unjoined_after, unjoined, unjoined_in, has_count, miscounted_in, is_like_node, unlike_node_in, function_named, taken_by, predicates_of, takes, unlike_input, unlike_inputs, unlike_predicates_in, unlike_target, takes_all, unlike_source, flow_rows, sig_rows, source_rows}
use Rattle.flux_types.proofs.SpelledTypes.{kind_same, kinds_had, types_same, sig_spelled}

-- ---- predicates

-- a predicate's function is at the place of its name
pub function_at : (decls : List Decl) (word : Word) → slice_get (texts_of function_of decls) (place_of (texts_of defined decls) word) ≡ function_named word.text decls
function_at [] word = refl
function_at (Typedef name function ∷ decls) word = one (bytes_eq word.text name.text) refl (function_at decls word)
  where
    one : (t : Bool) → bytes_eq word.text name.text ≡ t → slice_get (texts_of function_of decls) (place_of (texts_of defined decls) word) ≡ function_named word.text decls
        → slice_get (texts_of function_of (Typedef name function ∷ decls)) (place_of (texts_of defined (Typedef name function ∷ decls)) word) ≡ (if t then Some function.text else function_named word.text decls)
    one true e others = rw e refl
    one false e others =
        let place = place_of (texts_of defined decls) word in
        rw e (ap (slice_get (texts_of function_of (Typedef name function ∷ decls))) (let same : 1 + place ≡ suc place = omega arith in same) ∙ others)
function_at (other ∷ decls) word = function_at decls word

module _ (meaning : LibraryMeaning) (decls : List Decl) where
  abbrev kind : Kinds
  kind = meaning.kind

  abbrev names : List (List ℕ)
  names = names_of decls

  abbrev types : List (List ℕ)
  types = texts_of defined decls

  abbrev functions : List (List ℕ)
  functions = texts_of function_of decls

  abbrev sigs : WordSigs
  sigs = sigs_of meaning decls

  abbrev pub kinds : ℕ → NodeKinds
  kinds number = node_kinds (sig_of kind decls number)

  -- ---- what the rows say of each declaration

  pub record IsTypedDecl (decl : Decl) : Type 0 where
    pub joined : unjoined_in sigs decl ≡ []
    pub counted : miscounted_in sigs decl ≡ []
    pub like : unlike_node_in sigs decl ≡ []
    pub takes_inputs : unlike_predicates_in sigs (predicates_of meaning decls) decl ≡ []

  each_typed : (ds : List Decl) → flat_map (unjoined_in sigs) ds ≡ [] → flat_map (miscounted_in sigs) ds ≡ [] → flat_map (unlike_node_in sigs) ds ≡ []
      → flat_map (unlike_predicates_in sigs (predicates_of meaning decls)) ds ≡ [] → AllByRecursion IsTypedDecl ds
  each_typed [] a b c d = tt
  each_typed (x ∷ ds) a b c d =
      let j = none_either (unjoined_in sigs x) (flat_map (unjoined_in sigs) ds) a in
      let k = none_either (miscounted_in sigs x) (flat_map (miscounted_in sigs) ds) b in
      let l = none_either (unlike_node_in sigs x) (flat_map (unlike_node_in sigs) ds) c in
      let p = none_either (unlike_predicates_in sigs (predicates_of meaning decls) x) (flat_map (unlike_predicates_in sigs (predicates_of meaning decls)) ds) d in
      (record { joined = j.0; counted = k.0; like = l.0; takes_inputs = p.0 }, each_typed ds j.1 k.1 l.1 p.1)

  pub typed_decls : first_fault (sig_rows meaning decls) ≡ None → AllByRecursion IsTypedDecl decls
  typed_decls sound =
      let hollow = no_fault _ _ (first_fault (flow_rows sigs (predicates_of meaning decls) decls)) sound in
      let a = no_fault _ (soonest None (flat_map (unjoined_in sigs) decls)) _ hollow.1 in
      let b = no_fault _ (soonest None (flat_map (miscounted_in sigs) decls)) _ a.1 in
      let c = no_fault _ (soonest None (flat_map (unlike_node_in sigs) decls)) _ b.1 in
      let d = no_fault _ (soonest None (flat_map (unlike_predicates_in sigs (predicates_of meaning decls)) decls)) _ c.1 in
      each_typed decls (none_soonest _ a.0) (none_soonest _ b.0) (none_soonest _ c.0) (none_soonest _ d.0)

  -- ---- cases

  abbrev S : ℕ → NodeSig
  S = sig_of kind decls

  same_outs_ins : (a b : ℕ) → (let from = S a in let to = S b in same_types from.outs to.ins ≡ true) → NodeSig.outs (S a) ≡ NodeSig.ins (S b)
  same_outs_ins a b e = let from = sig_spelled kind decls a in let to = sig_spelled kind decls b in types_same kind _ _ from.outs to.ins e

  -- nodes whose inputs are spelled alike take the same types
  pub same_ins : (a b : ℕ) → (let from = S a in let to = S b in same_types from.ins to.ins ≡ true) → NodeSig.ins (S a) ≡ NodeSig.ins (S b)
  same_ins a b e = let from = sig_spelled kind decls a in let to = sig_spelled kind decls b in types_same kind _ _ from.ins to.ins e

  same_outs : (a b : ℕ) → (let from = S a in let to = S b in same_types from.outs to.outs ≡ true) → NodeSig.outs (S a) ≡ NodeSig.outs (S b)
  same_outs a b e = let from = sig_spelled kind decls a in let to = sig_spelled kind decls b in types_same kind _ _ from.outs to.outs e

  same_own : (a : ℕ) → (let own = S a in same_types own.ins own.outs ≡ true) → NodeSig.ins (S a) ≡ NodeSig.outs (S a)
  same_own a e = let own = sig_spelled kind decls a in types_same kind _ _ own.ins own.outs e

  -- what there is before each member, and after the last, is what each member takes, and what comes out
  abbrev pub Joined : List TypeText → List NodeNo → List TypeText → Type 0
  Joined types members outs =
      types ∷ map (λ member. let own = S member.0 in own.outs) members ≡ map (λ member. let own = S member.0 in own.ins) members ++ outs ∷ []

  joined_after : (from : Word) (words : List Word) (outs : List TypeText) → unjoined_after sigs from words ≡ [] → NodeSig.outs (S (place_of names (last_of from words))) ≡ outs
      → Joined (NodeSig.outs (S (place_of names from))) (map (number_of names) words) outs
  joined_after from [] outs e last = λ i. last i ∷ []
  joined_after from (to ∷ words) outs e last =
      let before = sigs from in let after = sigs to in
      let both = none_either (unless (same_types before.outs after.ins) to) (unjoined_after sigs to words) e in
      let first = same_outs_ins (place_of names from) (place_of names to) (holds_unless (same_types before.outs after.ins) to both.0) in
      let rest = joined_after to words outs both.1 last in
      λ i. first i ∷ rest i

  case_joined : (number : ℕ) (name : Word) (patterns : Option (List (Option Word))) (members : List Word) → place_of names name ≡ number → IsTypedDecl (Flow name patterns members)
      → Joined (NodeSig.ins (S number)) (map (number_of names) members) (NodeSig.outs (S number))
  case_joined number name patterns members stands typed = subst (λ (n : ℕ). Joined (NodeSig.ins (S n)) (map (number_of names) members) (NodeSig.outs (S n))) stands (one members typed.joined (holds_unless (is_like_node sigs (sigs name) members) name typed.like))
    where
      own : ℕ
      own = place_of names name

      one : (members : List Word) → unjoined sigs members ≡ [] → is_like_node sigs (sigs name) members ≡ true → Joined (NodeSig.ins (S own)) (map (number_of names) members) (NodeSig.outs (S own))
      one [] joined like = let same = same_own own like in λ i. same i ∷ []
      one (first ∷ words) joined like =
          let mine = sigs name in let from = sigs first in let to = sigs (last_of first words) in
          let both = and_parts (same_types from.ins mine.ins) (same_types to.outs mine.outs) like in
          let begins = sym (same_ins (place_of names first) own both.0) in
          let rest = joined_after first words (NodeSig.outs (S own)) joined (same_outs (place_of names (last_of first words)) own both.1) in
          λ i. begins i ∷ rest i

  -- each case takes and gives what its node does
  pub cases_joined : (number : ℕ) (name : List ℕ) → slice_get names number ≡ Some name → (ds : List Decl) → AllByRecursion IsTypedDecl ds
      → AllByRecursion (λ case. Joined (NodeSig.ins (S number)) case.members (NodeSig.outs (S number))) (filter_map (case_of names types name) ds)
  cases_joined number name at [] all = tt
  cases_joined number name at (Flow own patterns members ∷ ds) all = one (bytes_eq own.text name) refl (cases_joined number name at ds all.1)
    where
      Are : List Case → Type 0
      Are cases = AllByRecursion (λ case. Joined (NodeSig.ins (S number)) case.members (NodeSig.outs (S number))) cases

      one : (t : Bool) → bytes_eq own.text name ≡ t → Are (filter_map (case_of names types name) ds)
          → Are (cons_option (if t then Some (record { patterns = patterns_of types patterns; members = map (number_of names) members }) else None) (filter_map (case_of names types name) ds))
      one true e others = (case_joined number own patterns members (place_at decls number name own.text at e) all.0, others)
      one false e others = others
  cases_joined number name at (other ∷ ds) all = cases_joined number name at ds all.1

  -- ---- patterns

  pattern_like : (pattern : Option Word) (input : TypeText) → unlike_input (predicates_of meaning decls) pattern input ≡ [] → IsPatternLike meaning functions (pattern_of types pattern) input.kind
  pattern_like None input e = tt
  pattern_like (Some word) input e = subst (λ (f : Option (List ℕ)). TakesKind meaning f input.kind) (sym (function_at decls word)) (one (function_named word.text decls) (holds_unless (takes (predicates_of meaning decls word.text) input.kind) word e))
    where
      taken : (found : Option Kind) → takes found input.kind ≡ true → found ≡ Some input.kind
      taken None t = absurd cc
      taken (Some own) t = ap Some (kind_same own input.kind t)

      one : (found : Option (List ℕ)) → takes (taken_by meaning found) input.kind ≡ true → TakesKind meaning found input.kind
      one None t = absurd cc
      one (Some function) t = taken (meaning.predicate function) t

  patterns_like : (patterns : List (Option Word)) (inputs : List TypeText) → length patterns ≡ length inputs → unlike_inputs (predicates_of meaning decls) patterns inputs ≡ []
      → ArePatternsLike meaning functions (map (pattern_of types) patterns) (kinds_of inputs)
  patterns_like [] [] same e = tt
  patterns_like [] (input ∷ inputs) same e = absurd (omega (arith, same))
  patterns_like (pattern ∷ patterns) [] same e = absurd (omega (arith, same))
  patterns_like (pattern ∷ patterns) (input ∷ inputs) same e =
      let both = none_either (unlike_input (predicates_of meaning decls) pattern input) (unlike_inputs (predicates_of meaning decls) patterns inputs) e in
      (pattern_like pattern input both.0, patterns_like patterns inputs (omega (arith, same)) both.1)

  case_fits : (name : Word) (patterns : Option (List (Option Word))) (members : List Word) → IsTypedDecl (Flow name patterns members)
      → let own = sigs name in FitPatterns meaning functions (kinds_of own.ins) (patterns_of types patterns)
  case_fits name None members typed = tt
  case_fits name (Some []) members typed = tt
  case_fits name (Some (pattern ∷ patterns)) members typed =
      let own = sigs name in
      let many = holds_unless (has_count own.ins (Some (pattern ∷ patterns))) name typed.counted in
      patterns_like (pattern ∷ patterns) own.ins (grind (arith, nat_tests, many)) typed.takes_inputs

  -- the patterns of each case take the kinds of their places
  pub cases_fit : (number : ℕ) (name : List ℕ) → slice_get names number ≡ Some name → (ds : List Decl) → AllByRecursion IsTypedDecl ds
      → AllByRecursion (λ case. FitPatterns meaning functions (NodeKinds.ins (kinds number)) case.patterns) (filter_map (case_of names types name) ds)
  cases_fit number name at [] all = tt
  cases_fit number name at (Flow own patterns members ∷ ds) all = one (bytes_eq own.text name) refl (cases_fit number name at ds all.1)
    where
      one : (t : Bool) → bytes_eq own.text name ≡ t → AllByRecursion (λ case. FitPatterns meaning functions (NodeKinds.ins (kinds number)) case.patterns) (filter_map (case_of names types name) ds)
          → AllByRecursion (λ case. FitPatterns meaning functions (NodeKinds.ins (kinds number)) case.patterns)
          (cons_option (if t then Some (record { patterns = patterns_of types patterns; members = map (number_of names) members }) else None) (filter_map (case_of names types name) ds))
      one true e others = (subst (λ (n : ℕ). FitPatterns meaning functions (NodeKinds.ins (kinds n)) (patterns_of types patterns)) (place_at decls number name own.text at e) (case_fits own patterns members all.0), others)
      one false e others = others
  cases_fit number name at (other ∷ ds) all = cases_fit number name at ds all.1

  -- ---- sources

  abbrev IsFed : SourceLine → Type 0
  IsFed line = let from = S line.node.0 in let to = S line.target.0 in from.outs ≡ to.ins

  lines_fit : (ds : List Decl) → AllByRecursion (λ d. unlike_target sigs d ≡ []) ds → AllByRecursion IsFed (filter_map (source_of names decls) ds)
  lines_fit [] all = tt
  lines_fit (Source name target ∷ ds) all =
      let from = sigs name in let to = sigs target in
      (same_outs_ins (place_of names name) (place_of names target) (holds_unless (same_types from.outs to.ins) target all.0), lines_fit ds all.1)
  lines_fit (other ∷ ds) all = lines_fit ds all.1

  abbrev TakesSource : Word → Option (List ℕ) → Type 0
  TakesSource source session = IsSessionLike meaning session (NodeKinds.outs (kinds (place_of names source)))

  session_like : (source : Word) (ds : List Decl) → AllByRecursion (λ d. unlike_source meaning.session sigs d ≡ []) ds → TakesSource source (session_of source.text ds)
  session_like source [] all = tt
  session_like source (Session own function ∷ ds) all = one (bytes_eq own.text source.text) refl (session_like source ds all.1)
    where
      taken : (found : Option (List Kind)) → (let from = sigs own in takes_all found from.outs ≡ true) → found ≡ Some (NodeKinds.outs (kinds (place_of names own)))
      taken None t = absurd cc
      taken (Some ks) t = ap Some (kinds_had _ ks t)

      one : (t : Bool) → bytes_eq own.text source.text ≡ t → TakesSource source (session_of source.text ds) → TakesSource source (if t then Some function.text else session_of source.text ds)
      one false e others = others
      one true e others =
          let same : own.text ≡ source.text = (bytes_eq-Decides own.text source.text).0 e in
          let from = sigs own in
          taken (meaning.session function.text) (holds_unless (takes_all (meaning.session function.text) from.outs) function all.0)
          ∙ ap (λ (text : List ℕ). Some (NodeKinds.outs (kinds (position_or_len (bytes_eq text) names)))) same
  session_like source (other ∷ ds) all = session_like source ds all.1

  abbrev IsServed : SourceLine → Type 0
  IsServed line = let node = line.node in IsSessionLike meaning line.session (NodeKinds.outs (kinds node.0))

  lines_served : AllByRecursion (λ d. unlike_source meaning.session sigs d ≡ []) decls → (ds : List Decl) → AllByRecursion IsServed (filter_map (source_of names decls) ds)
  lines_served all [] = tt
  lines_served all (Source name target ∷ ds) = (session_like name decls all, lines_served all ds)
  lines_served all (other ∷ ds) = lines_served all ds

  -- sources give what their targets take
  pub sources_fit : first_fault (source_rows meaning decls) ≡ None → let program = program_of decls in AllByRecursion IsFed program.sources
  sources_fit sound =
      let targets = no_fault _ (soonest None (flat_map (unlike_target sigs) decls)) _ sound in
      lines_fit decls (none_each (unlike_target sigs) decls (none_soonest _ targets.0))

  -- session functions take what their sources give
  pub sessions_fit : first_fault (source_rows meaning decls) ≡ None → let program = program_of decls in AllByRecursion IsServed program.sources
  sessions_fit sound =
      let targets = no_fault _ (soonest None (flat_map (unlike_target sigs) decls)) _ sound in
      let sessions = no_fault _ (soonest None (flat_map (unlike_source meaning.session sigs) decls)) _ targets.1 in
      lines_served (none_each (unlike_source meaning.session sigs) decls (none_soonest _ sessions.0)) decls

  -- ---- concrete nodes

  -- a signature line of a name, of which something holds, and what it writes for a number
  pub record IsSigned (Holds : Decl → Type 0) (name : List ℕ) (sig : NodeSig) : Type 0 where
    pub word : Word
    pub ins : List Param
    pub outs : List Param
    pub holds : Holds (Signature word ins outs)
    pub named : word.text ≡ name
    pub writes : sig ≡ line_sig kind ins outs

  -- a signed name has such a line
  pub signed_in : (Holds : Decl → Type 0) (number : ℕ) (name : List ℕ) → slice_get names number ≡ Some name → (ds : List Decl) → AllByRecursion Holds ds → list_any (is_signed name) ds ≡ true
      → IsSigned Holds name (written kind names ds number)
  signed_in Holds number name at [] all any = absurd cc
  signed_in Holds number name at (Signature word ins outs ∷ ds) all any =
      one (bytes_eq word.text name) (eqb (place_of names word) number) refl refl any (signed_in Holds number name at ds all.1)
    where
      named : place_of names word ≡ number → word.text ≡ name
      named same =
          let below : number < length names = slice_get_within names number name at in
          let found = known_at names word.text (known_within names word.text (omega (arith, same, below))) in
          let both : ◌≡◌ {A = Option (List ℕ)} (Some word.text) (Some name) = sym found ∙ ap (slice_get names) same ∙ at in
          cc

      one : (t b : Bool) → bytes_eq word.text name ≡ t → eqb (place_of names word) number ≡ b → (t || list_any (is_signed name) ds) ≡ true
          → (list_any (is_signed name) ds ≡ true → IsSigned Holds name (written kind names ds number))
          → IsSigned Holds name (if b then line_sig kind ins outs else written kind names ds number)
      one t true e i any more = record { word = word; ins = ins; outs = outs; holds = all.0; named = named (grind (arith, nat_tests, i)); writes = refl }
      one true false e i any more = let same = place_at decls number name word.text at e in absurd (grind (arith, nat_tests, i, same))
      one false false e i any more = more any
  signed_in Holds number name at (other ∷ ds) all any = signed_in Holds number name at ds all.1 any
