-- The program of declarations at which no row up to 26 applies is sound for the library.
use Rattle.std.proofs.Common.{◌≡◌, ℕ, inl, inr, ◌⊎◌, Bool, true, false, not, if◌then◌else◌, List, [], ◌∷◌, ◌++◌, map, Option, Some, None, IfSome, refl, sym, ap, subst, ◌∙◌, arith}
use Rattle.std.specs.Bool.{beq}
use Rattle.std.specs.List.{slice_get, list_any, list_all, filter_map, flat_map, AllByRecursion, Contains}
use Rattle.std.specs.Str.{bytes_eq}
use Rattle.std.proofs.lemmas.Bool.{and_parts}
use Rattle.flux_syntax.proofs.RowLemmas.{none_either}
use Rattle.flux_values.specs.declared.answers.Mode.{Mode}
use Rattle.flux_values.specs.declared.answers.Mode.TheVariants.{Reader, Writer}
use Rattle.flux_values.specs.declared.meanings.Sig.{Sig}
use Rattle.flux_values.specs.declared.meanings.CellUse.{CellUse}
use Rattle.flux_values.specs.Meanings.{LibraryMeaning}
use Rattle.flux_model.specs.declared.programs.Class.{Class}
use Rattle.flux_model.specs.declared.programs.Hold.{Hold}
use Rattle.flux_model.specs.declared.programs.NodeNo.{NodeNo}
use Rattle.flux_model.specs.declared.programs.Node.{Node}
use Rattle.flux_model.specs.declared.programs.Case.{Case}
use Rattle.flux_model.specs.declared.programs.HandleArm.{HandleArm}
use Rattle.flux_model.specs.declared.programs.Body.TheVariants.{Concrete, Abstract}
use Rattle.flux_model.specs.declared.programs.Body.{Body}
use Rattle.flux_model.specs.declared.signatures.NodeSig.{NodeSig}
use Rattle.flux_model.specs.Leading.{members_of, handlers_of, leads_to}
use Rattle.flux_model.specs.Children.{IsIn}
use Rattle.flux_model.specs.Numbered.{IsNumbered}
use Rattle.flux_model.specs.Ordering.{IsOrder}
use Rattle.flux_model.specs.Kinds.{NodeKinds, node_kinds, kinds_at}
use Rattle.flux_model.specs.Modes.{at_least}
use Rattle.flux_model.specs.Locks.{declared_on}
use Rattle.flux_model.specs.Soundness.{IsLike, IsBodyLike, IsPlain, IsSourceNode, FitBody, IsProtected, AreCellsProtected, HasOneScope, HasSession, IsSound}
use Rattle.flux_model.proofs.NodeLists.{in_either}
use Rattle.flux_syntax.specs.declared.declarations.Word.{Word}
use Rattle.flux_syntax.specs.declared.declarations.Decl.{Decl}
use Rattle.flux_syntax.specs.declared.declarations.Decl.TheVariants.{Flow, Source, Handler}
use Rattle.flux_syntax.specs.Words.{defined, known, names_of, texts_of, function_of}
use Rattle.flux_syntax.specs.ProgramOfText.{place_of, number_of, is_signed, case_of, arm_of, class_of, constraints_on, classes_of, declared_by, source_of, library_name, program_of}
use Rattle.flux_names.specs.Rows.{among, not_among, source_nodes}
use Rattle.flux_types.specs.Signatures.{written, body_sig, nodes_of, sig_of, AreSigs}
use Rattle.flux_types.proofs.Written.{sig_rule, sigs_same}
use Rattle.flux_check.specs.Rows.{constraints_in, protects, are_protected}
use Rattle.flux_check.specs.Judgement.{AreJoined}
use Rattle.flux_check.proofs.Rowless.{IsClean, all_clean, no_crossed, no_types}
use Rattle.flux_check.proofs.Numbered.{same_text, text_same, first_known, first_unknown, node_named, map_get, known_node}
use Rattle.flux_check.proofs.Roles.{signed_plain, source_signed, written_like, signed_protected}
use Rattle.flux_check.proofs.Crossed.{one_scope}
use Rattle.flux_check.proofs.Constrained.{any_among, on_line, declares, declared_from}
use Rattle.flux_hoist.proofs.TypedKinds.{kinds_agree}
use Rattle.flux_types.proofs.SoundTypes.{typed_decls, cases_fit, sessions_fit}
use Rattle.flux_check.proofs.Joins.{types_agree}

at_least_more : (a b c : Mode) → at_least a b ≡ true → at_least b c ≡ true → at_least a c ≡ true
at_least_more Writer b c e f = refl
at_least_more Reader Reader c e f = f
at_least_more Reader Writer c e f = absurd cc

same_known : (a b : Bool) → not (beq a b) ≡ false → a ≡ b
same_known true true e = refl
same_known true false e = absurd cc
same_known false true e = absurd cc
same_known false false e = refl

module _ (meaning : LibraryMeaning) (all : List Decl) (order : List NodeNo) (is_order : IsOrder (nodes_of all) order) (joined_all : AreJoined meaning all) where
  abbrev names : List (List ℕ)
  names = names_of all

  abbrev types : List (List ℕ)
  types = texts_of defined all

  abbrev nodes : List Node
  nodes = nodes_of all

  abbrev kinds : ℕ → NodeKinds
  kinds number = node_kinds (sig_of meaning.kind all number)

  clean : AllByRecursion (IsClean meaning all) all
  clean = all_clean meaning all joined_all

  -- ---- what words lead to

  plain_body : (text : List ℕ) → known (source_nodes meaning all) text ≡ false → IsPlain meaning (Some (node_named all text))
  plain_body text apart = one (list_any (is_signed text) all) refl
    where
      one : (t : Bool) → list_any (is_signed text) all ≡ t → IsPlain meaning (Some (node_named all text))
      one true i = rw i (signed_plain meaning all text apart i)
      one false i = rw i tt

  plain_word : (word : Word) → known names word.text ≡ true → known (source_nodes meaning all) word.text ≡ false → IsPlain meaning (slice_get nodes (place_of names word))
  plain_word word named apart = subst (IsPlain meaning) (sym (known_node all word named)) (plain_body word.text apart)

  abbrev ArePlain : List NodeNo → Type 0
  ArePlain numbers = (led : ℕ) → IsIn led numbers → IsPlain meaning (slice_get nodes led)

  plain_words : (words : List Word) → not_among names words ≡ [] → among (source_nodes meaning all) words ≡ [] → ArePlain (map (number_of names) words)
  plain_words [] named apart led is = absurd is
  plain_words (w ∷ words) named apart led is =
      let a = first_known names w words named in
      let b = first_unknown (source_nodes meaning all) w words apart in
      one a b is (plain_words words a.1 b.1 led)
    where
      one : (known names w.text ≡ true) × (not_among names words ≡ []) → (known (source_nodes meaning all) w.text ≡ false) × (among (source_nodes meaning all) words ≡ [])
          → IsIn led (map (number_of names) (w ∷ words)) → (IsIn led (map (number_of names) words) → IsPlain meaning (slice_get nodes led)) → IsPlain meaning (slice_get nodes led)
      one a b (inl e) more = subst (λ (n : ℕ). IsPlain meaning (slice_get nodes n)) (sym e) (plain_word w a.0 b.0)
      one a b (inr is) more = more is

  both_plain : (a b : List NodeNo) → ArePlain a → ArePlain b → ArePlain (a ++ b)
  both_plain a b x y led is = one (in_either led a b is)
    where
      one : IsIn led a ⊎ IsIn led b → IsPlain meaning (slice_get nodes led)
      one (inl i) = x led i
      one (inr i) = y led i

  cases_plain : (name : List ℕ) (decls : List Decl) → AllByRecursion (IsClean meaning all) decls → ArePlain (flat_map (λ case. case.members) (filter_map (case_of names types name) decls))
  cases_plain name [] c = λ led is. absurd is
  cases_plain name (Flow own patterns members ∷ decls) c = one (bytes_eq own.text name) refl (cases_plain name decls c.1)
    where
      P : List Case → Type 0
      P cases = ArePlain (flat_map (λ case. case.members) cases)

      one : (t : Bool) → bytes_eq own.text name ≡ t → P (filter_map (case_of names types name) decls) → P (filter_map (case_of names types name) (Flow own patterns members ∷ decls))
      one true i more =
          let here = c.0 in
          rw i (both_plain (map (number_of names) members) (flat_map (λ case. case.members) (filter_map (case_of names types name) decls)) (plain_words members here.named here.plain) more)
      one false i more = rw i more
  cases_plain name (other ∷ decls) c = cases_plain name decls c.1

  handlers_plain : (name : List ℕ) (decls : List Decl) → AllByRecursion (IsClean meaning all) decls → ArePlain (handlers_of (filter_map (arm_of names name) decls))
  handlers_plain name [] c = λ led is. absurd is
  handlers_plain name (Handler node codes handler ∷ decls) c = one (bytes_eq node.text name) refl (handlers_plain name decls c.1)
    where
      P : List HandleArm → Type 0
      P arms = ArePlain (handlers_of arms)

      one : (t : Bool) → bytes_eq node.text name ≡ t → P (filter_map (arm_of names name) decls) → P (filter_map (arm_of names name) (Handler node codes handler ∷ decls))
      one true i more =
          let here = c.0 in
          let a = first_known names node (handler ∷ []) here.named in
          let b = first_unknown (source_nodes meaning all) node (handler ∷ []) here.plain in
          rw i (both_plain (map (number_of names) (handler ∷ [])) (handlers_of (filter_map (arm_of names name) decls)) (plain_words (handler ∷ []) a.1 b.1) more)
      one false i more = rw i more
  handlers_plain name (other ∷ decls) c = handlers_plain name decls c.1

  -- ---- sources

  origin_word : (word : Word) → known names word.text ≡ true → known (source_nodes meaning all) word.text ≡ true → IsSourceNode meaning (slice_get nodes (place_of names word))
  origin_word word named is =
      let found = source_signed meaning all word.text is in
      subst (IsSourceNode meaning) (sym (known_node all word named)) (rw (found.0) (found.1))

  origins_are : (decls : List Decl) → AllByRecursion (IsClean meaning all) decls → AllByRecursion (λ line. IsSourceNode meaning (slice_get nodes line.node.0)) (filter_map (source_of names all) decls)
  origins_are [] c = tt
  origins_are (Source name target ∷ decls) c =
      let here = c.0 in
      let a = first_known names name (target ∷ []) here.named in
      let b = first_known (source_nodes meaning all) name [] (none_either (not_among (source_nodes meaning all) (name ∷ [])) [] here.origins).0 in
      (origin_word name a.0 b.0, origins_are decls c.1)
  origins_are (other ∷ decls) c = origins_are decls c.1

  targets_are : (decls : List Decl) → AllByRecursion (IsClean meaning all) decls → AllByRecursion (λ line. IsPlain meaning (slice_get nodes line.target.0)) (filter_map (source_of names all) decls)
  targets_are [] c = tt
  targets_are (Source name target ∷ decls) c =
      let here = c.0 in
      let a = first_known names name (target ∷ []) here.named in
      let b = first_known names target [] a.1 in
      (plain_word target b.0 (first_unknown (source_nodes meaning all) target [] here.plain).0, targets_are decls c.1)
  targets_are (other ∷ decls) c = targets_are decls c.1

  -- ---- nodes

  abbrev body : List ℕ → Bool → Body
  body name signed = if signed then Concrete (library_name name) else Abstract (filter_map (case_of names types name) all)

  members_plain : (name : List ℕ) (signed : Bool) → ArePlain (members_of (body name signed))
  members_plain name true = λ led is. absurd is
  members_plain name false = cases_plain name all clean

  module _ (number : ℕ) (name : List ℕ) (at : slice_get names number ≡ Some name) where
    body_fits : (signed : Bool) → FitBody meaning (texts_of function_of all) (kinds number) (body name signed)
    body_fits true = tt
    body_fits false = cases_fit meaning all number name at all (typed_decls meaning all (no_types meaning all joined_all).0)

    body_like : (signed : Bool) → list_any (is_signed name) all ≡ signed
        → sig_of meaning.kind all number ≡ body_sig (sig_of meaning.kind all) (written meaning.kind names all number) (body name signed) → IsBodyLike meaning (kinds number) (body name signed)
    body_like true is rule = subst (λ (sig : NodeSig). IsLike (meaning.node (library_name name)) (node_kinds sig)) (sym rule) (written_like meaning all number name at clean is)
    body_like false is rule = tt

    module _ (here : slice_get nodes number ≡ Some (node_named all name)) where
      cell_protected : (cell : CellUse) → list_any (protects cell) (flat_map (constraints_on name) all) ≡ true → IsProtected (program_of all) number cell
      cell_protected cell e =
          let (c, is, protected) = any_among (protects cell) (flat_map (constraints_on name) all) e in
          let d = declares all name c is in
          let both = and_parts (bytes_eq c.name.text cell.name) (at_least c.mode cell.mode) protected in
          let hold = d.hold in
          record {
            hold = hold;
            declares = subst (λ (n : Option Node). Contains (declared_on n) hold) (sym here) d.contains;
            class = class_of c;
            is_class = d.numbered;
            named = same_text c.name.text cell.name both.0;
            enough = at_least_more hold.mode c.mode cell.mode d.enough both.1;
          }

      cells_protected : (cells : List CellUse) → list_all (λ cell. list_any (protects cell) (flat_map (constraints_on name) all)) cells ≡ true → AllByRecursion (IsProtected (program_of all) number) cells
      cells_protected [] e = tt
      cells_protected (cell ∷ cells) e =
          let both = and_parts (list_any (protects cell) (flat_map (constraints_on name) all)) (list_all (λ cell. list_any (protects cell) (flat_map (constraints_on name) all)) cells) e in
          (cell_protected cell both.0, cells_protected cells both.1)

      sig_protected : (found : Option Sig) → are_protected (flat_map (constraints_on name) all) found ≡ true → IfSome found (λ sig. AllByRecursion (IsProtected (program_of all) number) sig.cells)
      sig_protected None e = tt
      sig_protected (Some sig) e = cells_protected sig.cells e

      body_safe : (signed : Bool) → list_any (is_signed name) all ≡ signed → AreCellsProtected meaning (program_of all) number (body name signed)
      body_safe true is = sig_protected (meaning.node (library_name name)) (signed_protected meaning all number name at clean is)
      body_safe false is = tt

  -- what each node of a number has
  record IsGood (number : ℕ) (node : Node) : Type 0 where
    plain : (led : ℕ) → IsIn led (leads_to node) → IsPlain meaning (slice_get nodes led)
    like : IsBodyLike meaning (kinds number) node.body
    fits : FitBody meaning (texts_of function_of all) (kinds number) node.body
    safe : AreCellsProtected meaning (program_of all) number node.body

  named_good : (number : ℕ) (name : List ℕ) → slice_get names number ≡ Some name → slice_get nodes number ≡ Some (node_named all name) → IsGood number (node_named all name)
  named_good number name at here = record {
    plain = both_plain (members_of (body name (list_any (is_signed name) all))) (handlers_of (filter_map (arm_of names name) all))
        (members_plain name (list_any (is_signed name) all)) (handlers_plain name all clean);
    like = body_like number name at (list_any (is_signed name) all) refl (sig_rule meaning.kind all order is_order number (node_named all name) here);
    fits = body_fits number name at (list_any (is_signed name) all);
    safe = body_safe number name at here (list_any (is_signed name) all) refl;
  }

  good : (number : ℕ) (node : Node) → slice_get nodes number ≡ Some node → IsGood number node
  good number node at =
      let image = map_get (node_named all) names number node at in
      subst (IsGood number) image.is (named_good number image.from image.at (subst (λ (n : Node). slice_get nodes number ≡ Some n) (sym image.is) at))

  -- ---- scopes

  one_name : (name : List ℕ) (classes : ℕ → Option Class) (one other : Hold) (first second : Class) → classes ≡ slice_get (classes_of all)
      → Contains (declared_by (classes_of all) name all) one → Contains (declared_by (classes_of all) name all) other
      → (let class = one.class in classes class.0 ≡ Some first) → (let class = other.class in classes class.0 ≡ Some second)
      → first.name ≡ second.name → first.session ≡ second.session
  one_name name classes one other first second are has also is_first is_second named =
      let (c, is, at) = declared_from all name one has in
      let (d, too, there) = declared_from all name other also in
      let mine : first ≡ class_of c = (let class = one.class in let e = sym is_first ∙ ap (λ (of : ℕ → Option Class). of class.0) are ∙ at in cc) in
      let their : second ≡ class_of d = (let class = other.class in let e = sym is_second ∙ ap (λ (of : ℕ → Option Class). of class.0) are ∙ there in cc) in
      let a = on_line name all c is in
      let b = on_line name all d too in
      let nodes_same : bytes_eq a.own.text b.own.text ≡ true = text_same a.own.text b.own.text (same_text a.own.text name a.same ∙ sym (same_text b.own.text name b.same)) in
      let names_same : bytes_eq c.name.text d.name.text ≡ true = text_same c.name.text d.name.text (sym (ap (λ (k : Class). k.name) mine) ∙ named ∙ ap (λ (k : Class). k.name) their) in
      let apart = one_scope (flat_map constraints_in all) (no_crossed meaning all joined_all) (record { node = a.own; constraint = c }) (record { node = b.own; constraint = d }) a.among b.among in
      let scopes_same : c.session ≡ d.session = same_known c.session d.session (let h : not (beq c.session d.session) ≡ false = rw (nodes_same, names_same) at apart in h) in
      ap (λ (k : Class). k.session) mine ∙ scopes_same ∙ sym (ap (λ (k : Class). k.session) their)

  one_scope_each : (number : ℕ) → HasOneScope (program_of all) number
  one_scope_each number one other first second declares also is_first is_second named = at_node (slice_get nodes number) refl declares also
    where
      at_node : (found : Option Node) → slice_get nodes number ≡ found → Contains (declared_on found) one → Contains (declared_on found) other → first.session ≡ second.session
      at_node None e has too = absurd (omega (arith, has.1))
      at_node (Some node) e has too =
          let image = map_get (node_named all) names number node e in
          let is = ap (λ (n : Node). n.declared) (sym image.is) in
          one_name image.from (slice_get (classes_of all)) one other first second refl (subst (λ (l : List Hold). Contains l one) is has) (subst (λ (l : List Hold). Contains l other) is too) is_first is_second named

  program_sound : IsNumbered (program_of all) → AllByRecursion (HasSession (program_of all)) (filter_map (source_of names all) all) → IsSound meaning (program_of all) kinds
  program_sound numbered served = record {
    numbered = numbered;
    acyclic = joined_all.ordered.acyclic;
    origins = origins_are all clean;
    targets = targets_are all clean;
    members = λ number node at led is. let g = good number node at in g.plain led is;
    kinds_are = record {
      agree = kinds_agree (sig_of meaning.kind all) (program_of all) (types_agree meaning all joined_all);
      like = λ number node at. let g = good number node at in g.like;
      patterns = λ number node at. let g = good number node at in g.fits;
      sessions = sessions_fit meaning all (no_types meaning all joined_all).1;
    };
    protected = λ number node at. let g = good number node at in g.safe;
    scopes = one_scope_each;
    session = served;
  }

-- the program of declarations at which no row up to 26 applies is sound for the library, with its nodes' kinds
pub sound : (meaning : LibraryMeaning) (decls : List Decl) (order : List NodeNo) (sigs : List NodeSig) → IsNumbered (program_of decls) → IsOrder (nodes_of decls) order → AreSigs meaning.kind decls sigs → AreJoined meaning decls
    → (let p = program_of decls in AllByRecursion (HasSession p) p.sources) → IsSound meaning (program_of decls) (kinds_at sigs)
sound meaning decls order sigs numbered is_order are joined served =
    subst (λ (of : ℕ → NodeSig). IsSound meaning (program_of decls) (λ number. node_kinds (of number))) (sym (sigs_same meaning.kind decls sigs are)) (program_sound meaning decls order is_order joined numbered served)
