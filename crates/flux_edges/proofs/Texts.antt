-- The rows of a text's program are those of its declarations.
use Rattle.std.proofs.Common.{◌≡◌, ◌≤◌, ◌+◌, ℕ, zero, suc, min, ltb, ◌⊎◌, inl, inr, Bool, true, false, ◌||◌, not, if◌then◌else◌, List, [], ◌∷◌, ◌++◌, length, map, Option, Some, None, refl, sym, ap, subst, ◌∙◌, arith}
use Rattle.std.specs.List.{slice_get, filter_map, flat_map, cons_option, position_or_len, AllByRecursion}
use Rattle.std.specs.Str.{bytes_eq}
use Rattle.std.proofs.lemmas.Bool.Decides.{nat_tests}
use Rattle.std.proofs.lemmas.List.{append_assoc}
use Rattle.std.proofs.lemmas.Slice.Eq.{bytes_eq-Decides}
use Rattle.flux_model.specs.declared.programs.Class.{Class}
use Rattle.flux_model.specs.declared.signatures.NodeSig.{NodeSig}
use Rattle.flux_model.specs.Types.{same_types}
use Rattle.flux_syntax.specs.declared.declarations.Word.{Word}
use Rattle.flux_syntax.specs.declared.declarations.Decl.{Decl}
use Rattle.flux_syntax.specs.declared.declarations.Decl.TheVariants.{Signature, Flow, Source, Typedef, Handler, Atomic, Session}
use Rattle.flux_syntax.specs.Words.{known, names_of, sourced, texts_of, defined}
use Rattle.flux_syntax.specs.ProgramOfText.{decimal_value, place_of, number_of, node_of, source_of, handler_place, classes_of, places, program_of, sites_of, named_of}
use Rattle.flux_syntax.specs.ProgramOfText.{arm_of as text_arm}
use Rattle.flux_syntax.specs.Least.{sooner, soonest}
use Rattle.flux_syntax.proofs.NumberedNames.{place_at, known_at}
use Rattle.flux_edges.specs.declared.handlers.Arm.{Arm}
use Rattle.flux_edges.specs.Places.{least_of, unless, sooner_of}
use Rattle.flux_edges.specs.Handlers.{arm_of, arms_from, unlike_arms, unlike_handlers}
use Rattle.flux_edges.specs.Sessions.{needs_session}
use Rattle.flux_edges.specs.Unserved.{is_served, unserved, unserved_sources}
use Rattle.flux_edges.specs.Rows.{word_unless, unlike_handler, unserved_source}

one_more : (t : Bool) (word : Word) (place : Option ℕ) (at : List ℕ) (words : List Word) → ((other : Option ℕ) → least_of other at ≡ soonest other words)
    → least_of place (unless t word.at ++ at) ≡ soonest place (word_unless t word ++ words)
one_more true word place at words same = same place
one_more false word place at words same = same (Some (sooner place word.at))

module _ (all : List Decl) where
  abbrev needs : ℕ → Bool
  needs = needs_session (program_of all)

  abbrev row : Decl → List Word
  row = unserved_source all

  sources_least : (decls : List Decl) (place : Option ℕ) → least_of place (unserved needs (filter_map (source_of (names_of all) all) decls) (places (filter_map sourced decls))) ≡ soonest place (flat_map row decls)
  sources_least [] place = refl
  sources_least (Source name target ∷ decls) place = one_more _ name place _ (flat_map row decls) (sources_least decls)
  sources_least (other ∷ decls) place = sources_least decls place

  lines_many : (decls : List Decl) → length (places (filter_map sourced decls)) ≡ length (filter_map (source_of (names_of all) all) decls)
  lines_many [] = refl
  lines_many (Source name target ∷ decls) = ap suc (lines_many decls)
  lines_many (other ∷ decls) = lines_many decls

-- 26 applies in the program where it applies in the declarations
pub sessions_least : (decls : List Decl) → least_of None (unserved_sources (named_of decls)) ≡ soonest None (flat_map (unserved_source decls) decls)
sessions_least decls = sources_least decls decls None

-- each source line has its place
pub sources_many : (decls : List Decl) → let named = named_of decls in let sites = named.sites in let program = named.program in length sites.sources ≡ length program.sources
sources_many decls = lines_many decls decls

-- ---- handlers

-- a place is among places
abbrev Among : ℕ → List ℕ → Type 0
Among at [] = ⊥
Among at (other ∷ places) = (at ≡ other) ⊎ Among at places

in_left : (at : ℕ) (a b : List ℕ) → Among at a → Among at (a ++ b)
in_left at [] b is = absurd is
in_left at (x ∷ a) b (inl e) = inl e
in_left at (x ∷ a) b (inr is) = inr (in_left at a b is)

in_right : (at : ℕ) (a b : List ℕ) → Among at b → Among at (a ++ b)
in_right at [] b is = is
in_right at (x ∷ a) b is = inr (in_right at a b is)

in_both : (at : ℕ) (a b : List ℕ) → Among at (a ++ b) → Among at a ⊎ Among at b
in_both at [] b is = inr is
in_both at (x ∷ a) b (inl e) = inl (inl e)
in_both at (x ∷ a) b (inr is) = more (in_both at a b is)
  where
    more : Among at a ⊎ Among at b → Among at (x ∷ a) ⊎ Among at b
    more (inl i) = inl (inr i)
    more (inr i) = inr i

record Least (places : List ℕ) (least : ℕ) : Type 0 where
  among : Among least places
  lowest : (at : ℕ) → Among at places → least ≤ at

least_from : (place : ℕ) (places : List ℕ) → (least : ℕ) × (least_of (Some place) places ≡ Some least) × Least (place ∷ places) least
least_from place [] = (place, refl, record { among = inl refl; lowest = λ at is. one at is })
  where
    one : (at : ℕ) → (at ≡ place) ⊎ ⊥ → place ≤ at
    one at (inl e) = omega (arith, e)
    one at (inr is) = absurd is
least_from place (other ∷ places) =
    let (least, is, found) = least_from (min place other) places in
    (least, is, record { among = among least found.among; lowest = λ at i. lowest least found at i })
  where
    chosen : (least : ℕ) → least ≡ min place other → (least ≡ place) ⊎ (least ≡ other)
    chosen least e = pick (ltb place other) refl
      where
        pick : (t : Bool) → ltb place other ≡ t → (least ≡ place) ⊎ (least ≡ other)
        pick true i = inl (grind (arith, nat_tests, i, e))
        pick false i = inr (grind (arith, nat_tests, i, e))

    among : (least : ℕ) → Among least (min place other ∷ places) → Among least (place ∷ other ∷ places)
    among least (inr is) = inr (inr is)
    among least (inl e) = pick (chosen least e)
      where
        pick : (least ≡ place) ⊎ (least ≡ other) → Among least (place ∷ other ∷ places)
        pick (inl i) = inl i
        pick (inr i) = inr (inl i)

    lowest : (least : ℕ) → Least (min place other ∷ places) least → (at : ℕ) → Among at (place ∷ other ∷ places) → least ≤ at
    lowest least found at (inl e) = let low = found.lowest (min place other) (inl refl) in omega (arith, low, e)
    lowest least found at (inr (inl e)) = let low = found.lowest (min place other) (inl refl) in omega (arith, low, e)
    lowest least found at (inr (inr is)) = found.lowest at (inr is)

-- lists of the same places have the same least place
same_least : (a b : List ℕ) → ((at : ℕ) → Among at a → Among at b) → ((at : ℕ) → Among at b → Among at a) → least_of None a ≡ least_of None b
same_least [] [] there back = refl
same_least [] (y ∷ b) there back = absurd (back y (inl refl))
same_least (x ∷ a) [] there back = absurd (there x (inl refl))
same_least (x ∷ a) (y ∷ b) there back =
    let (m, is, first) = least_from x a in
    let (n, was, second) = least_from y b in
    let low = second.lowest m (there m first.among) in
    let high = first.lowest n (back n second.among) in
    is ∙ ap Some (omega (arith, low, high)) ∙ sym was

least_words : (place : Option ℕ) (words : List Word) → soonest place words ≡ least_of place (places words)
least_words place [] = refl
least_words place (w ∷ words) = least_words (Some (sooner place w.at)) words

-- the node of each `handle` line has a name among the nodes' names
abbrev pub HasNode : List (List ℕ) → Decl → Type 0
HasNode names (Handler node codes handler) = known names node.text ≡ true
HasNode names other = Unit {0}

module _ (sigs : ℕ → NodeSig) (names : List (List ℕ)) where
  abbrev fits : ℕ → Word → Bool
  fits number handler =
      let own = sigs number in let their = sigs (place_of names handler) in same_types own.ins their.ins

  -- the places of one node's handlers
  abbrev own_places : ℕ → List ℕ → List Decl → List ℕ
  own_places number name [] = []
  own_places number name (Handler node codes handler ∷ decls) =
      (if bytes_eq node.text name then unless (fits number handler) handler.at else []) ++ own_places number name decls
  own_places number name (other ∷ decls) = own_places number name decls

  own_arms : (number : ℕ) (name : List ℕ) (decls : List Decl) (arms : List Arm) (sites : List ℕ)
      → unlike_arms sigs (map (arm_of number) (filter_map (text_arm names name) decls) ++ arms) (filter_map (handler_place name) decls ++ sites)
      ≡ own_places number name decls ++ unlike_arms sigs arms sites
  own_arms number name [] arms sites = refl
  own_arms number name (Handler node codes handler ∷ decls) arms sites = one (bytes_eq node.text name) (own_arms number name decls arms sites)
    where
      rest_arms : List Arm
      rest_arms = map (arm_of number) (filter_map (text_arm names name) decls) ++ arms

      rest_sites : List ℕ
      rest_sites = filter_map (handler_place name) decls ++ sites

      one : (t : Bool) → unlike_arms sigs rest_arms rest_sites ≡ own_places number name decls ++ unlike_arms sigs arms sites
          → unlike_arms sigs
          (map (arm_of number) (cons_option (if t then Some (record { codes = map (λ code. decimal_value code.text) codes; node = number_of names handler }) else None) (filter_map (text_arm names name) decls)) ++ arms)
          (cons_option (if t then Some handler.at else None) (filter_map (handler_place name) decls) ++ sites)
          ≡ ((if t then unless (fits number handler) handler.at else []) ++ own_places number name decls) ++ unlike_arms sigs arms sites
      one true others = ap (λ (l : List ℕ). unless (fits number handler) handler.at ++ l) others ∙ sym (append_assoc (unless (fits number handler) handler.at) (own_places number name decls) (unlike_arms sigs arms sites))
      one false others = others
  own_arms number name (other ∷ decls) arms sites = own_arms number name decls arms sites

  -- those of all nodes, from a number on
  abbrev all_places : ℕ → List (List ℕ) → List Decl → List ℕ
  all_places number [] decls = []
  all_places number (name ∷ others) decls = own_places number name decls ++ all_places (suc number) others decls

  module _ (types : List (List ℕ)) (classes : List Class) (decls : List Decl) where
    all_arms : (number : ℕ) (others : List (List ℕ))
        → unlike_arms sigs (arms_from number (map (node_of names types classes decls) others)) (flat_map (λ name. filter_map (handler_place name) decls) others) ≡ all_places number others decls
    all_arms number [] = refl
    all_arms number (name ∷ others) =
        own_arms number name decls (arms_from (suc number) (map (node_of names types classes decls) others)) (flat_map (λ name. filter_map (handler_place name) decls) others)
        ∙ ap (λ (l : List ℕ). own_places number name decls ++ l) (all_arms (suc number) others)

  -- ---- the same places

  abbrev row_places : List Decl → List ℕ
  row_places decls = places (flat_map (unlike_handler sigs names) decls)

  places_append : (a b : List Word) → places (a ++ b) ≡ places a ++ places b
  places_append [] b = refl
  places_append (w ∷ a) b = ap (λ (l : List ℕ). w.at ∷ l) (places_append a b)

  unless_places : (t : Bool) (w : Word) → places (word_unless t w) ≡ unless t w.at
  unless_places true w = refl
  unless_places false w = refl

  row_more : (d : Decl) (decls : List Decl) → row_places (d ∷ decls) ≡ places (unlike_handler sigs names d) ++ row_places decls
  row_more d decls = places_append (unlike_handler sigs names d) (flat_map (unlike_handler sigs names) decls)

  -- a name is at a number, and nowhere else
  abbrev StandsAt : ℕ → List ℕ → Type 0
  StandsAt number name = (wanted : List ℕ) → bytes_eq wanted name ≡ true → position_or_len (bytes_eq wanted) names ≡ number

  own_in_row : (number : ℕ) (name : List ℕ) → StandsAt number name → (decls : List Decl) (at : ℕ) → Among at (own_places number name decls) → Among at (row_places decls)
  own_in_row number name stands [] at is = is
  own_in_row number name stands (Handler node codes handler ∷ decls) at is =
      subst (Among at) (sym (row_more (Handler node codes handler) decls)) (one (bytes_eq node.text name) refl is (own_in_row number name stands decls at))
    where
      one : (t : Bool) → bytes_eq node.text name ≡ t → Among at ((if t then unless (fits number handler) handler.at else []) ++ own_places number name decls)
          → (Among at (own_places number name decls) → Among at (row_places decls)) → Among at (places (unlike_handler sigs names (Handler node codes handler)) ++ row_places decls)
      one false e is more = in_right at (places (unlike_handler sigs names (Handler node codes handler))) (row_places decls) (more is)
      one true e is more = pick (in_both at (unless (fits number handler) handler.at) (own_places number name decls) is)
        where
          same : places (unlike_handler sigs names (Handler node codes handler)) ≡ unless (fits number handler) handler.at
          same = unless_places (fits (place_of names node) handler) handler ∙ ap (λ (n : ℕ). unless (fits n handler) handler.at) (stands node.text e)

          pick : Among at (unless (fits number handler) handler.at) ⊎ Among at (own_places number name decls) → Among at (places (unlike_handler sigs names (Handler node codes handler)) ++ row_places decls)
          pick (inl own) = in_left at (places (unlike_handler sigs names (Handler node codes handler))) (row_places decls) (subst (Among at) (sym same) own)
          pick (inr others) = in_right at (places (unlike_handler sigs names (Handler node codes handler))) (row_places decls) (more others)
  own_in_row number name stands (other ∷ decls) at is = own_in_row number name stands decls at is

  -- each of these names is at its number
  abbrev AllStand : ℕ → List (List ℕ) → Type 0
  AllStand number others = (k : ℕ) (name : List ℕ) → slice_get others k ≡ Some name → StandsAt (number + k) name

  all_in_row : (number : ℕ) (others : List (List ℕ)) → AllStand number others → (decls : List Decl) (at : ℕ) → Among at (all_places number others decls) → Among at (row_places decls)
  all_in_row number [] stand decls at is = absurd is
  all_in_row number (name ∷ others) stand decls at is = pick (in_both at (own_places number name decls) (all_places (suc number) others decls) is) (all_in_row (suc number) others more decls at)
    where
      first : StandsAt number name
      first = λ wanted e. stand 0 name refl wanted e ∙ omega arith

      more : AllStand (suc number) others
      more = λ k other at wanted e. stand (suc k) other at wanted e ∙ omega arith

      pick : Among at (own_places number name decls) ⊎ Among at (all_places (suc number) others decls) → (Among at (all_places (suc number) others decls) → Among at (row_places decls)) → Among at (row_places decls)
      pick (inl own) rest = own_in_row number name first decls at own
      pick (inr is) rest = rest is

  -- and back: a handler of a node that is among the names
  in_own : (number : ℕ) (name : List ℕ) (decls : List Decl) (others : List (List ℕ)) (start k at : ℕ) → start + k ≡ number → slice_get others k ≡ Some name → Among at (own_places number name decls) → Among at (all_places start others decls)
  in_own number name decls [] start k at same found is = absurd cc
  in_own number name decls (n ∷ others) start zero at same found is =
      let own : name ≡ n = cc in
      let begin : number ≡ start = omega (arith, same) in
      in_left at (own_places start n decls) (all_places (suc start) others decls) (subst (λ (m : ℕ). Among at (own_places m n decls)) begin (subst (λ (m : List ℕ). Among at (own_places number m decls)) own is))
  in_own number name decls (n ∷ others) start (suc k) at same found is =
      in_right at (own_places start n decls) (all_places (suc start) others decls) (in_own number name decls others (suc start) k at (omega (arith, same)) found is)

  wider : (d : Decl) (decls : List Decl) (start : ℕ) (others : List (List ℕ)) (at : ℕ) → Among at (all_places start others decls) → Among at (all_places start others (d ∷ decls))
  wider d decls start [] at is = is
  wider d decls start (name ∷ others) at is = pick (in_both at (own_places start name decls) (all_places (suc start) others decls) is) (wider d decls (suc start) others at)
    where
      own : (e : Decl) → Among at (own_places start name decls) → Among at (own_places start name (e ∷ decls))
      own (Handler node codes handler) i = in_right at (if bytes_eq node.text name then unless (fits start handler) handler.at else []) (own_places start name decls) i
      own other i = i

      pick : Among at (own_places start name decls) ⊎ Among at (all_places (suc start) others decls) → (Among at (all_places (suc start) others decls) → Among at (all_places (suc start) others (d ∷ decls)))
          → Among at (own_places start name (d ∷ decls) ++ all_places (suc start) others (d ∷ decls))
      pick (inl i) more = in_left at (own_places start name (d ∷ decls)) (all_places (suc start) others (d ∷ decls)) (own d i)
      pick (inr i) more = in_right at (own_places start name (d ∷ decls)) (all_places (suc start) others (d ∷ decls)) (more i)

  row_in_all : (decls : List Decl) → AllByRecursion (HasNode names) decls → (at : ℕ) → Among at (row_places decls) → Among at (all_places 0 names decls)
  row_in_all [] all at is = absurd is
  row_in_all (Handler node codes handler ∷ decls) all at is =
      pick (in_both at (places (unlike_handler sigs names (Handler node codes handler))) (row_places decls) (subst (Among at) (row_more (Handler node codes handler) decls) is)) (row_in_all decls all.1 at)
    where
      number : ℕ
      number = place_of names node

      self : bytes_eq node.text node.text ≡ true
      self = (bytes_eq-Decides node.text node.text).1 refl

      own : Among at (places (unlike_handler sigs names (Handler node codes handler))) → Among at (own_places number node.text (Handler node codes handler ∷ decls))
      own i =
          let here : Among at (unless (fits number handler) handler.at) = subst (Among at) (unless_places (fits number handler) handler) i in
          subst (λ (t : Bool). Among at ((if t then unless (fits number handler) handler.at else []) ++ own_places number node.text decls)) (sym self)
          (in_left at (unless (fits number handler) handler.at) (own_places number node.text decls) here)

      pick : Among at (places (unlike_handler sigs names (Handler node codes handler))) ⊎ Among at (row_places decls) → (Among at (row_places decls) → Among at (all_places 0 names decls)) → Among at (all_places 0 names (Handler node codes handler ∷ decls))
      pick (inl i) more = in_own number node.text (Handler node codes handler ∷ decls) names 0 number at (omega arith) (known_at names node.text all.0) (own i)
      pick (inr i) more = wider (Handler node codes handler) decls 0 names at (more i)
  row_in_all (Signature n ins outs ∷ decls) all at is = wider (Signature n ins outs) decls 0 names at (row_in_all decls all.1 at is)
  row_in_all (Flow n patterns members ∷ decls) all at is = wider (Flow n patterns members) decls 0 names at (row_in_all decls all.1 at is)
  row_in_all (Source n target ∷ decls) all at is = wider (Source n target) decls 0 names at (row_in_all decls all.1 at is)
  row_in_all (Typedef n function ∷ decls) all at is = wider (Typedef n function) decls 0 names at (row_in_all decls all.1 at is)
  row_in_all (Atomic n constraints ∷ decls) all at is = wider (Atomic n constraints) decls 0 names at (row_in_all decls all.1 at is)
  row_in_all (Session source function ∷ decls) all at is = wider (Session source function) decls 0 names at (row_in_all decls all.1 at is)

-- 21 applies in the program where it applies in the declarations, where the nodes of all `handle` lines have names
pub handlers_least : (sigs : ℕ → NodeSig) (decls : List Decl) → AllByRecursion (HasNode (names_of decls)) decls
    → least_of None (unlike_handlers sigs (named_of decls)) ≡ soonest None (flat_map (unlike_handler sigs (names_of decls)) decls)
handlers_least sigs decls known_ =
    let names = names_of decls in
    ap (least_of None) (all_arms sigs names (texts_of defined decls) (classes_of decls) decls 0 names)
    ∙ same_least (all_places sigs names 0 names decls) (row_places sigs names decls)
    (all_in_row sigs names 0 names (λ k name at wanted e. place_at decls k name wanted at e ∙ omega arith) decls)
    (row_in_all sigs names decls known_)
    ∙ sym (least_words None (flat_map (unlike_handler sigs names) decls))
