-- The sources of sound declarations have names of their own.
use Rattle.std.proofs.Common.{◌≡◌, ◌+◌, ◌++◌, ◌||◌, ℕ, zero, suc, Bool, true, false, ◌&&◌, List, [], ◌∷◌, map, Option, Some, None, refl, sym, ap, subst, ◌∙◌, arith}
use Rattle.std.specs.List.{slice_get, flat_map, filter_map, list_any}
use Rattle.std.specs.Option.{option_map}
use Rattle.std.specs.Str.{bytes_eq}
use Rattle.std.proofs.lemmas.Option.{slice_get-map}
use Rattle.std.proofs.lemmas.Slice.Eq.{bytes_eq-Decides}
use Rattle.std.proofs.lemmas.List.Elements.{filter_map-append}
use Rattle.std.proofs.lemmas.List.{map-append, append-nil}
use Rattle.flux_values.specs.Meanings.{LibraryMeaning}
use Rattle.flux_faults.specs.declared.faults.FaultKind.{FaultKind}
use Rattle.flux_model.specs.declared.programs.Program.{Program}
use Rattle.flux_model.specs.declared.programs.SourceLine.{SourceLine}
use Rattle.flux_model.specs.Texts.{name_in, source_name}
use Rattle.flux_syntax.specs.declared.declarations.Word.{Word}
use Rattle.flux_syntax.specs.declared.declarations.Decl.{Decl}
use Rattle.flux_syntax.specs.declared.declarations.Decl.TheVariants.{Signature, Flow, Source, Typedef, Handler, Atomic, Session}
use Rattle.flux_syntax.specs.Words.{sourced, naming, defined, names_of, texts_of, known}
use Rattle.flux_syntax.specs.ProgramOfText.{place_of, source_of, node_of, classes_of, program_of}
use Rattle.flux_syntax.specs.Least.{sooner, soonest, fault_or, first_fault}
use Rattle.flux_names.specs.Rows.{sessioned, used_names, handled, not_among, listed_if, repeats, repeated_after, repeated, twice_named, unknown_nodes, rows}

-- ---- rows without a fault

nil_append : {A : Type 0} (a b : List A) → a ++ b ≡ [] → (a ≡ []) × (b ≡ [])
nil_append [] b e = (refl, e)
nil_append (x ∷ a) b e = absurd cc

soonest_some : (at : ℕ) (words : List Word) → (place : ℕ) × (soonest (Some at) words ≡ Some place)
soonest_some at [] = (at, refl)
soonest_some at (word ∷ words) = soonest_some (sooner (Some at) word.at) words

rowless : (kind : FaultKind) (words : List Word) (others : Option (FaultKind × ℕ)) → fault_or kind (soonest None words) others ≡ None → (words ≡ []) × (others ≡ None)
rowless kind [] others e = (refl, e)
rowless kind (word ∷ words) others e =
    let some = soonest_some word.at words in
    let h : fault_or kind (Some some.0) others ≡ None = rw some.1 at e in absurd cc

-- ---- texts that are known among names

known_here : (text : List ℕ) (texts : List (List ℕ)) → known (text ∷ texts) text ≡ true
known_here text texts = let e : bytes_eq text text ≡ true = (bytes_eq-Decides text text).1 refl in rw e refl

with_known : (names : List (List ℕ)) (text name : List ℕ) → known names text ≡ true → known (names ++ name ∷ []) text ≡ true
with_known [] text name e = absurd cc
with_known (n ∷ names) text name e = one (bytes_eq text n) refl (with_known names text name)
  where
    one : (t : Bool) → bytes_eq text n ≡ t → (known names text ≡ true → known (names ++ name ∷ []) text ≡ true) → known ((n ∷ names) ++ name ∷ []) text ≡ true
    one true i more = rw i refl
    one false i more = let h : known names text ≡ true = rw i at e in rw i (more h)

known_last : (names : List (List ℕ)) (text : List ℕ) → known (names ++ text ∷ []) text ≡ true
known_last [] text = known_here text []
known_last (n ∷ names) text = one (bytes_eq text n) (known_last names text)
  where
    one : (t : Bool) → known (names ++ text ∷ []) text ≡ true → (t || known (names ++ text ∷ []) text) ≡ true
    one true more = refl
    one false more = more

-- a known name is at its place
place_known : (word : Word) (names : List (List ℕ)) → known names word.text ≡ true → slice_get names (place_of names word) ≡ Some word.text
place_known word [] e = absurd cc
place_known word (n ∷ names) e = one (bytes_eq word.text n) refl (place_known word names)
  where
    one : (t : Bool) → bytes_eq word.text n ≡ t → (known names word.text ≡ true → slice_get names (place_of names word) ≡ Some word.text) → slice_get (n ∷ names) (place_of (n ∷ names) word) ≡ Some word.text
    one true i more = let same : word.text ≡ n = (bytes_eq-Decides word.text n).0 i in rw i (ap Some (sym same))
    one false i more =
        let h : known names word.text ≡ true = rw i at e in
        let next : 1 + place_of names word ≡ suc (place_of names word) = omega arith in
        rw i (ap (slice_get (n ∷ names)) next ∙ more h)

-- ---- the texts of the sources' names

-- each is new after those before it
abbrev AreNew : List (List ℕ) → List (List ℕ) → Type 0
AreNew before [] = Unit {0}
AreNew before (text ∷ texts) = (known before text ≡ false) × AreNew (before ++ text ∷ []) texts

new_apart : (before texts : List (List ℕ)) (k : ℕ) (name : List ℕ) → AreNew before texts → slice_get texts k ≡ Some name → known before name ≡ true → ⊥
new_apart before [] k name new at is = absurd cc
new_apart before (t ∷ texts) zero name new at is =
    let own : t ≡ name = cc in
    let f : ◌≡◌ {A = Bool} true false = sym is ∙ ap (known before) (sym own) ∙ new.0 in absurd cc
new_apart before (t ∷ texts) (suc k) name new at is = new_apart (before ++ t ∷ []) texts k name new.1 at (with_known before name t is)

one_place : (before texts : List (List ℕ)) (a b : ℕ) (name : List ℕ) → AreNew before texts → slice_get texts a ≡ Some name → slice_get texts b ≡ Some name → a ≡ b
one_place before [] a b name new x y = absurd cc
one_place before (t ∷ texts) zero zero name new x y = refl
one_place before (t ∷ texts) zero (suc b) name new x y =
    let own : t ≡ name = cc in absurd (new_apart (before ++ t ∷ []) texts b name new.1 y (ap (λ (n : List ℕ). known (before ++ t ∷ []) n) (sym own) ∙ known_last before t))
one_place before (t ∷ texts) (suc a) zero name new x y =
    let own : t ≡ name = cc in absurd (new_apart (before ++ t ∷ []) texts a name new.1 x (ap (λ (n : List ℕ). known (before ++ t ∷ []) n) (sym own) ∙ known_last before t))
one_place before (t ∷ texts) (suc a) (suc b) name new x y = ap suc (one_place (before ++ t ∷ []) texts a b name new.1 x y)

-- a source line repeats one before exactly where its name is known among theirs
and_true : (p : Bool) → (p && true) ≡ p
and_true true = refl
and_true false = refl

repeats_known : (name target : Word) (before : List Decl) → list_any (repeats sourced (Source name target)) before ≡ known (texts_of sourced before) name.text
repeats_known name target [] = refl
repeats_known name target (Source other line ∷ before) = ap (λ (t : Bool). t || list_any (repeats sourced (Source name target)) before) (and_true (bytes_eq name.text other.text)) ∙ ap (λ (t : Bool). bytes_eq name.text other.text || t) (repeats_known name target before)
repeats_known name target (Signature other ins outs ∷ before) = repeats_known name target before
repeats_known name target (Flow other patterns members ∷ before) = repeats_known name target before
repeats_known name target (Typedef other function ∷ before) = repeats_known name target before
repeats_known name target (Handler other codes handler ∷ before) = repeats_known name target before
repeats_known name target (Atomic other constraints ∷ before) = repeats_known name target before
repeats_known name target (Session other function ∷ before) = repeats_known name target before

texts_added : (before : List Decl) (d : Decl) → texts_of sourced (before ++ d ∷ []) ≡ texts_of sourced before ++ texts_of sourced (d ∷ [])
texts_added before d = ap (map (λ word. word.text)) (filter_map-append sourced before (d ∷ [])) ∙ map-append (λ (word : Word). word.text) (filter_map sourced before) (filter_map sourced (d ∷ []))

unlisted : (t : Bool) (word : Word) → listed_if t (Some word) ≡ [] → t ≡ false
unlisted false word e = refl
unlisted true word e = absurd cc

same_new : (before others texts : List (List ℕ)) → before ≡ others → AreNew before texts → AreNew others texts
same_new before others texts same new = subst (λ (names : List (List ℕ)). AreNew names texts) same new

-- a line of another sort adds no name
other_new : (before : List Decl) (d : Decl) (texts : List (List ℕ)) → texts_of sourced (d ∷ []) ≡ [] → AreNew (texts_of sourced (before ++ d ∷ [])) texts → AreNew (texts_of sourced before) texts
other_new before d texts none new =
    same_new (texts_of sourced (before ++ d ∷ [])) (texts_of sourced before) texts (texts_added before d ∙ ap (λ (more : List (List ℕ)). texts_of sourced before ++ more) none ∙ append-nil (texts_of sourced before)) new

later : (t : Bool) (word : Option Word) (words : List Word) → listed_if t word ++ words ≡ [] → words ≡ []
later t word words e = (nil_append (listed_if t word) words e).1

texts_new : (before decls : List Decl) → repeated_after sourced before decls ≡ [] → AreNew (texts_of sourced before) (texts_of sourced decls)
texts_new before [] e = tt
texts_new before (Source name target ∷ decls) e =
    let d = Source name target in
    let both = nil_append (listed_if (list_any (repeats sourced d) before) (Some name)) (repeated_after sourced (before ++ d ∷ []) decls) e in (
      sym (repeats_known name target before) ∙ unlisted (list_any (repeats sourced d) before) name both.0,
      same_new (texts_of sourced (before ++ d ∷ [])) (texts_of sourced before ++ name.text ∷ []) (texts_of sourced decls) (texts_added before d) (texts_new (before ++ d ∷ []) decls both.1),
    )
texts_new before (Signature name ins outs ∷ decls) e =
    let d = Signature name ins outs in
    other_new before d (texts_of sourced decls) refl (texts_new (before ++ d ∷ []) decls (later (list_any (repeats sourced d) before) None (repeated_after sourced (before ++ d ∷ []) decls) e))
texts_new before (Flow name patterns members ∷ decls) e =
    let d = Flow name patterns members in
    other_new before d (texts_of sourced decls) refl (texts_new (before ++ d ∷ []) decls (later (list_any (repeats sourced d) before) None (repeated_after sourced (before ++ d ∷ []) decls) e))
texts_new before (Typedef name function ∷ decls) e =
    let d = Typedef name function in
    other_new before d (texts_of sourced decls) refl (texts_new (before ++ d ∷ []) decls (later (list_any (repeats sourced d) before) None (repeated_after sourced (before ++ d ∷ []) decls) e))
texts_new before (Handler node codes handler ∷ decls) e =
    let d = Handler node codes handler in
    other_new before d (texts_of sourced decls) refl (texts_new (before ++ d ∷ []) decls (later (list_any (repeats sourced d) before) None (repeated_after sourced (before ++ d ∷ []) decls) e))
texts_new before (Atomic node constraints ∷ decls) e =
    let d = Atomic node constraints in
    other_new before d (texts_of sourced decls) refl (texts_new (before ++ d ∷ []) decls (later (list_any (repeats sourced d) before) None (repeated_after sourced (before ++ d ∷ []) decls) e))
texts_new before (Session source function ∷ decls) e =
    let d = Session source function in
    other_new before d (texts_of sourced decls) refl (texts_new (before ++ d ∷ []) decls (later (list_any (repeats sourced d) before) None (repeated_after sourced (before ++ d ∷ []) decls) e))

-- ---- the sources of the program have these names

module _ (decls : List Decl) where
  abbrev names : List (List ℕ)
  names = names_of decls

  abbrev p : Program
  p = program_of decls

  abbrev named : SourceLine → List ℕ
  named line = source_name p (Some line)

  first_known : (word : Word) (words : List Word) → not_among names (word ∷ words) ≡ [] → known names word.text ≡ true
  first_known word words e = one (known names word.text) refl
    where
      one : (t : Bool) → known names word.text ≡ t → known names word.text ≡ true
      one true i = i
      one false i = let h : ◌≡◌ {A = List Word} (word ∷ not_among names words) [] = rw i at e in absurd cc

  lines_named : (ds : List Decl) → flat_map (λ d. not_among names (used_names d)) ds ≡ [] → map named (filter_map (source_of names decls) ds) ≡ texts_of sourced ds
  lines_named [] e = refl
  lines_named (Source name target ∷ ds) e =
      let both = nil_append (not_among names (used_names (Source name target))) (flat_map (λ d. not_among names (used_names d)) ds) e in
      let stands = place_known name names (first_known name (target ∷ []) both.0) in
      let own : name_in (slice_get p.nodes (place_of names name)) ≡ name.text =
      ap name_in (slice_get-map (node_of names (texts_of defined decls) (classes_of decls) decls) names (place_of names name) ∙ ap (option_map (node_of names (texts_of defined decls) (classes_of decls) decls)) stands) in
      λ i. own i ∷ lines_named ds both.1 i
  lines_named (Signature name ins outs ∷ ds) e = lines_named ds (nil_append (not_among names (used_names (Signature name ins outs))) (flat_map (λ d. not_among names (used_names d)) ds) e).1
  lines_named (Flow name patterns members ∷ ds) e = lines_named ds (nil_append (not_among names (used_names (Flow name patterns members))) (flat_map (λ d. not_among names (used_names d)) ds) e).1
  lines_named (Typedef name function ∷ ds) e = lines_named ds (nil_append (not_among names (used_names (Typedef name function))) (flat_map (λ d. not_among names (used_names d)) ds) e).1
  lines_named (Handler node codes handler ∷ ds) e = lines_named ds (nil_append (not_among names (used_names (Handler node codes handler))) (flat_map (λ d. not_among names (used_names d)) ds) e).1
  lines_named (Atomic node constraints ∷ ds) e = lines_named ds (nil_append (not_among names (used_names (Atomic node constraints))) (flat_map (λ d. not_among names (used_names d)) ds) e).1
  lines_named (Session source function ∷ ds) e = lines_named ds (nil_append (not_among names (used_names (Session source function))) (flat_map (λ d. not_among names (used_names d)) ds) e).1

  module _ (unknown : unknown_nodes decls ≡ []) (once : repeated decls sourced ≡ []) where
    text_at : (place : ℕ) (line : SourceLine) → slice_get p.sources place ≡ Some line → slice_get (texts_of sourced decls) place ≡ Some (named line)
    text_at place line at = ap (λ (l : List (List ℕ)). slice_get l place) (sym (lines_named decls unknown)) ∙ slice_get-map named p.sources place ∙ ap (option_map named) at

    named_once : (a b : ℕ) (first second : SourceLine) → slice_get p.sources a ≡ Some first → slice_get p.sources b ≡ Some second → named first ≡ named second → a ≡ b
    named_once a b first second at bt same =
        one_place [] (texts_of sourced decls) a b (named first) (texts_new [] decls once) (text_at a first at) (text_at b second bt ∙ ap Some (sym same))

once_of : (decls : List Decl) → twice_named decls ≡ [] → repeated decls sourced ≡ []
once_of decls e =
    let a = nil_append (repeated decls naming) (repeated decls defined ++ (repeated decls sourced ++ (repeated decls handled ++ (repeated decls sessioned ++ [])))) e in
    let b = nil_append (repeated decls defined) (repeated decls sourced ++ (repeated decls handled ++ (repeated decls sessioned ++ []))) a.1 in
    (nil_append (repeated decls sourced) (repeated decls handled ++ (repeated decls sessioned ++ [])) b.1).0

pub sources_apart : (meaning : LibraryMeaning) (decls : List Decl) → first_fault (rows meaning decls) ≡ None → (a b : ℕ) (first second : SourceLine)
    → let p = program_of decls in slice_get p.sources a ≡ Some first → slice_get p.sources b ≡ Some second → source_name p (Some first) ≡ source_name p (Some second) → a ≡ b
sources_apart meaning decls none a b first second at bt same =
    let twice = rowless _ (twice_named decls) _ none in
    let unknown = rowless _ (unknown_nodes decls) _ twice.1 in
    named_once decls unknown.0 (once_of decls twice.0) a b first second at bt same
