-- Where no row applies: each row has no words.
use Rattle.std.proofs.Common.{◌≡◌, ℕ, ◌||◌, ◌&&◌, Bool, true, false, List, [], ◌∷◌, ◌++◌, map, Option, Some, None, refl, sym, ap, subst, ◌∙◌}
use Rattle.std.specs.List.{list_any, filter_map, cons_option, flat_map, AllByRecursion}
use Rattle.std.specs.Option.{is_none}
use Rattle.std.specs.Str.{bytes_eq}
use Rattle.std.proofs.lemmas.List.{append-nil, append_assoc, map-append}
use Rattle.std.proofs.lemmas.List.Elements.{filter_map-append}
use Rattle.std.proofs.Math.Bool.{and-true}
use Rattle.flux_syntax.proofs.RowLemmas.{none_soonest, no_fault, none_either}
use Rattle.flux_values.specs.Meanings.{LibraryMeaning}
use Rattle.flux_syntax.specs.declared.declarations.Word.{Word}
use Rattle.flux_syntax.specs.declared.declarations.Decl.{Decl}
use Rattle.flux_syntax.specs.declared.declarations.Decl.TheVariants.{Signature, Flow, Source, Typedef, Handler, Atomic, Session}
use Rattle.flux_syntax.specs.Words.{known, naming, defined, sourced, listed, texts_of}
use Rattle.flux_syntax.specs.Least.{soonest, first_fault}
use Rattle.flux_names.specs.Rows.{handled, sessioned, repeats, is_patterned, word_if, listed_if, repeated_after, repeated, twice_named, unknown_nodes, unknown_types, not_in_library, unlike_library, unknown_predicates, unknown_sessions, not_sources, misused_sources, too_many, is_code, code_of, CodeOn, codes_in, is_taken_by, is_bad_code, bad_codes_after, bad_codes, rows}
use Rattle.flux_names.specs.steps.Sorts.{names_by}
use Rattle.flux_names.specs.steps.Codes.{codes_on}
use Rattle.flux_names.proofs.Symbols.{AreApart, bytes_same, apart_push, names_by_apart}
use Rattle.flux_names.proofs.Gathered.{AreCodes, numbers_of}

-- no row has a word
pub record AreSound (meaning : LibraryMeaning) (decls : List Decl) : Type 0 where
  pub once : twice_named decls ≡ []
  pub known_nodes : unknown_nodes decls ≡ []
  pub known_types : unknown_types meaning decls ≡ []
  pub in_library : not_in_library meaning decls ≡ []
  pub like_library : unlike_library meaning decls ≡ []
  pub known_predicates : unknown_predicates meaning decls ≡ []
  pub known_sessions : unknown_sessions meaning decls ≡ []
  pub sources : not_sources meaning decls ≡ []
  pub used_well : misused_sources meaning decls ≡ []
  pub few : too_many decls ≡ []
  pub codes : bad_codes decls ≡ []

-- declarations without a fault have no words of any row
pub sound : (meaning : LibraryMeaning) (decls : List Decl) → first_fault (rows meaning decls) ≡ None → AreSound meaning decls
sound meaning decls none =
    let r5 = no_fault _ (soonest None (twice_named decls)) _ none in
    let r6 = no_fault _ (soonest None (unknown_nodes decls)) _ r5.1 in
    let r7 = no_fault _ (soonest None (unknown_types meaning decls)) _ r6.1 in
    let r8 = no_fault _ (soonest None (not_in_library meaning decls)) _ r7.1 in
    let r9 = no_fault _ (soonest None (unlike_library meaning decls)) _ r8.1 in
    let r10 = no_fault _ (soonest None (unknown_predicates meaning decls)) _ r9.1 in
    let r11 = no_fault _ (soonest None (unknown_sessions meaning decls)) _ r10.1 in
    let r12 = no_fault _ (soonest None (not_sources meaning decls)) _ r11.1 in
    let r13 = no_fault _ (soonest None (misused_sources meaning decls)) _ r12.1 in
    let r14 = no_fault _ (soonest None (too_many decls)) _ r13.1 in
    let r28 = no_fault _ (soonest None (bad_codes decls)) _ r14.1 in
    record {
      once = none_soonest (twice_named decls) r5.0;
      known_nodes = none_soonest (unknown_nodes decls) r6.0;
      known_types = none_soonest (unknown_types meaning decls) r7.0;
      in_library = none_soonest (not_in_library meaning decls) r8.0;
      like_library = none_soonest (unlike_library meaning decls) r9.0;
      known_predicates = none_soonest (unknown_predicates meaning decls) r10.0;
      known_sessions = none_soonest (unknown_sessions meaning decls) r11.0;
      sources = none_soonest (not_sources meaning decls) r12.0;
      used_well = none_soonest (misused_sources meaning decls) r13.0;
      few = none_soonest (too_many decls) r14.0;
      codes = none_soonest (bad_codes decls) r28.0;
    }

-- ---- names that are there once

-- the rows of fault 5, one by one
pub record StandOnce (decls : List Decl) : Type 0 where
  pub nodes : repeated decls naming ≡ []
  pub types : repeated decls defined ≡ []
  pub sources : repeated decls sourced ≡ []
  pub handlers : repeated decls handled ≡ []
  pub sessions : repeated decls sessioned ≡ []

pub stand_once : (decls : List Decl) → twice_named decls ≡ [] → StandOnce decls
stand_once decls e =
    let one = none_either (repeated decls naming) (flat_map (repeated decls) (defined ∷ sourced ∷ handled ∷ sessioned ∷ [])) e in
    let two = none_either (repeated decls defined) (flat_map (repeated decls) (sourced ∷ handled ∷ sessioned ∷ [])) one.1 in
    let three = none_either (repeated decls sourced) (flat_map (repeated decls) (handled ∷ sessioned ∷ [])) two.1 in
    let four = none_either (repeated decls handled) (flat_map (repeated decls) (sessioned ∷ [])) three.1 in
    let five = none_either (repeated decls sessioned) [] four.1 in
    record { nodes = one.0; types = two.0; sources = three.0; handlers = four.0; sessions = five.0 }

-- lines of a sort that no flow is of
abbrev pub AreNoFlows : (Decl → Option Word) → Type 0
AreNoFlows sort = (decl : Decl) → is_patterned decl ≡ true → sort decl ≡ None

no_flow_defined : AreNoFlows defined
no_flow_defined (Flow name patterns members) e = refl
no_flow_defined other e = absurd cc

no_flow_sourced : AreNoFlows sourced
no_flow_sourced (Flow name patterns members) e = refl
no_flow_sourced other e = absurd cc

-- what repeats a line before has the text of one
repeats_known : (sort : Decl → Option Word) (decl : Decl) (word : Word) (before : List Decl) → sort decl ≡ Some word → is_patterned decl ≡ false
    → list_any (repeats sort decl) before ≡ known (texts_of sort before) word.text
repeats_known sort decl word [] is plain = refl
repeats_known sort decl word (b ∷ before) is plain = one (sort b) refl (repeats_known sort decl word before is plain)
  where
    one : (other : Option Word) → sort b ≡ other → list_any (repeats sort decl) before ≡ known (texts_of sort before) word.text
        → list_any (repeats sort decl) (b ∷ before) ≡ known (texts_of sort (b ∷ before)) word.text
    one None e more = rw (e, is) more
    one (Some other) e more = rw (e, is, plain) (rw (and-true (bytes_eq word.text other.text)) (ap (λ (t : Bool). bytes_eq word.text other.text || t) more))

texts_push : (sort : Decl → Option Word) (before : List Decl) (decl : Decl) → texts_of sort (before ++ decl ∷ []) ≡ texts_of sort before ++ map (λ w. w.text) (listed (sort decl))
texts_push sort before decl =
    ap (map (λ (w : Word). w.text)) (filter_map-append sort before (decl ∷ [])) ∙ map-append (λ (w : Word). w.text) (filter_map sort before) (filter_map sort (decl ∷ [])) ∙ last (sort decl)
  where
    last : (w : Option Word) → texts_of sort before ++ map (λ v. v.text) (cons_option w []) ≡ texts_of sort before ++ map (λ v. v.text) (listed w)
    last None = refl
    last (Some w) = refl

apart_behind : (sort : Decl → Option Word) → AreNoFlows sort → (before decls : List Decl) → AreApart bytes_eq (texts_of sort before) → repeated_after sort before decls ≡ [] → AreApart bytes_eq (texts_of sort (before ++ decls))
apart_behind sort flows before [] apart e = rw append-nil apart
apart_behind sort flows before (decl ∷ decls) apart e =
    let both = none_either (listed_if (list_any (repeats sort decl) before) (sort decl)) (repeated_after sort (before ++ decl ∷ []) decls) e in
    subst (λ (ds : List Decl). AreApart bytes_eq (texts_of sort ds)) (append_assoc before (decl ∷ []) decls)
    (apart_behind sort flows (before ++ decl ∷ []) decls (rw (texts_push sort before decl) (one (sort decl) refl both.0)) both.1)
  where
    plain : (word : Word) → sort decl ≡ Some word → (t : Bool) → is_patterned decl ≡ t → is_patterned decl ≡ false
    plain word is true i = let none = sym is ∙ flows decl i in absurd cc
    plain word is false i = i

    new : (word : Word) → sort decl ≡ Some word → (t : Bool) → list_any (repeats sort decl) before ≡ t → listed_if (list_any (repeats sort decl) before) (sort decl) ≡ [] → known (texts_of sort before) word.text ≡ false
    new word is true i none = let h : ◌≡◌ {A = List Word} (word ∷ []) [] = rw (i, is) at none in absurd cc
    new word is false i none = sym (repeats_known sort decl word before is (plain word is (is_patterned decl) refl)) ∙ i

    one : (w : Option Word) → sort decl ≡ w → listed_if (list_any (repeats sort decl) before) (sort decl) ≡ [] → AreApart bytes_eq (texts_of sort before ++ map (λ v. v.text) (listed w))
    one None is none = rw append-nil apart
    one (Some word) is none = apart_push bytes_eq bytes_same (texts_of sort before) word.text apart (new word is (list_any (repeats sort decl) before) refl none)

-- the names of `typedef` lines are distinct, and come into a table as they are
pub types_apart : (decls : List Decl) → repeated decls defined ≡ [] → AreApart bytes_eq (texts_of defined decls)
types_apart decls e = apart_behind defined no_flow_defined [] decls tt e

pub types_are : (decls : List Decl) → repeated decls defined ≡ [] → names_by defined decls ≡ texts_of defined decls
types_are decls e = names_by_apart defined [] decls (types_apart decls e)

-- each source has one `source` line
pub sources_apart : (decls : List Decl) → repeated decls sourced ≡ [] → AreApart bytes_eq (texts_of sourced decls)
sources_apart decls e = apart_behind sourced no_flow_sourced [] decls tt e

-- ---- codes

code_if : (digits : List ℕ) (t : Bool) → is_code digits ≡ t → is_none (code_of digits) ≡ false → is_code digits ≡ true
code_if digits true i e = i
code_if digits false i e = let h : true ≡ false = rw i at e in absurd cc

none_bad : (before codes : List CodeOn) → bad_codes_after before codes ≡ [] → AllByRecursion (λ c. is_code c.number.text ≡ true) codes
none_bad before [] e = tt
none_bad before (c ∷ codes) e =
    let both = none_either (word_if (is_bad_code before c) c.number) (bad_codes_after (before ++ c ∷ []) codes) e in
    (code_if c.number.text (is_code c.number.text) refl (first (is_none (code_of c.number.text)) (list_any (is_taken_by c) before) both.0), none_bad (before ++ c ∷ []) codes both.1)
  where
    first : (a b : Bool) → word_if (a || b) c.number ≡ [] → a ≡ false
    first true b e = absurd cc
    first false b e = refl

pub all_parts : {X : Type 0} (P : X → Type 0) (a b : List X) → AllByRecursion P (a ++ b) → AllByRecursion P a × AllByRecursion P b
all_parts P [] b h = (tt, h)
all_parts P (x ∷ a) b h = let more = all_parts P a b h.1 in ((h.0, more.0), more.1)

line_codes : (d : Decl) → AllByRecursion (λ c. is_code c.number.text ≡ true) (codes_in d) → AreCodes (numbers_of d)
line_codes (Handler node codes handler) each = numbers codes each
  where
    numbers : (codes : List Word) → AllByRecursion (λ c. is_code c.number.text ≡ true) (codes_on node codes) → AreCodes codes
    numbers [] each = tt
    numbers (c ∷ codes) each = (each.0, numbers codes each.1)
line_codes other each = tt

lines_codes : (decls : List Decl) → AllByRecursion (λ c. is_code c.number.text ≡ true) (flat_map codes_in decls) → AllByRecursion (λ d. AreCodes (numbers_of d)) decls
lines_codes [] each = tt
lines_codes (d ∷ decls) each = let parts = all_parts (λ c. is_code c.number.text ≡ true) (codes_in d) (flat_map codes_in decls) each in (line_codes d parts.0, lines_codes decls parts.1)

-- the numbers of `handle` lines are codes
pub are_codes : (decls : List Decl) → bad_codes decls ≡ [] → AllByRecursion (λ d. AreCodes (numbers_of d)) decls
are_codes decls e = lines_codes decls (none_bad [] (flat_map codes_in decls) e)
