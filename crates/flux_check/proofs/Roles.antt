-- Items come from source nodes, flows come to plain ones, and each signed node is like its library node.
use Rattle.std.proofs.Common.{◌≡◌, ℕ, Bool, true, false, ◌||◌, not, if◌then◌else◌, List, [], ◌∷◌, ◌++◌, Option, Some, None, IfSome, refl, sym, ap, subst, ◌∙◌}
use Rattle.std.specs.List.{slice_get, list_any, flat_map, AllByRecursion}
use Rattle.std.specs.Option.{is_none}
use Rattle.std.specs.Str.{bytes_eq}
use Rattle.std.proofs.lemmas.Bool.{and_parts, or_left, or_right, or_parts}
use Rattle.flux_values.specs.declared.values.Kind.{Kind}
use Rattle.flux_values.specs.declared.values.Kind.TheVariants as kinds
use Rattle.flux_values.specs.declared.meanings.Sig.{Sig}
use Rattle.flux_values.specs.declared.meanings.Role.{Role}
use Rattle.flux_values.specs.declared.meanings.Role.TheVariants as roles
use Rattle.flux_values.specs.Meanings.{LibraryMeaning}
use Rattle.flux_model.specs.declared.signatures.NodeSig.{NodeSig}
use Rattle.flux_model.specs.Soundness.{IsLike, IsSourceSig}
use Rattle.flux_model.specs.Kinds.{kinds_of, node_kinds}
use Rattle.flux_syntax.specs.declared.declarations.Param.{Param}
use Rattle.flux_syntax.specs.declared.declarations.Decl.{Decl}
use Rattle.flux_syntax.specs.declared.declarations.Decl.TheVariants.{Signature, Source}
use Rattle.flux_syntax.specs.Words.{known, names_of, spelling}
use Rattle.flux_syntax.specs.ProgramOfText.{library_name, is_signed, constraints_on}
use Rattle.flux_names.specs.Rows.{library_node, same_kind, is_kind, have_kinds, are_like, is_source_role, is_source, source_nodes}
use Rattle.flux_types.specs.Signatures.{with_kind, types_of, line_sig, written}
use Rattle.flux_types.proofs.SoundTypes.{IsSigned, signed_in}
use Rattle.flux_check.specs.Rows.{are_protected}
use Rattle.flux_check.proofs.Rowless.{IsClean, no_word}
use Rattle.flux_check.proofs.Numbered.{same_text, text_back, not_both}

-- ---- roles

is_plain : (found : Option Sig) → is_source found ≡ false → IfSome found (λ sig. sig.role ≡ roles.Plain)
is_plain None e = tt
is_plain (Some sig) e = one sig.role refl
  where
    one : (role : Role) → sig.role ≡ role → sig.role ≡ roles.Plain
    one roles.Plain i = i
    one roles.Source i = let h : ◌≡◌ {A = Bool} true false = sym (ap is_source_role i) ∙ e in absurd cc
    one roles.HeadSource i = let h : ◌≡◌ {A = Bool} true false = sym (ap is_source_role i) ∙ e in absurd cc
    one roles.LineSource i = let h : ◌≡◌ {A = Bool} true false = sym (ap is_source_role i) ∙ e in absurd cc

is_origin : (found : Option Sig) → is_source found ≡ true → IsSourceSig found
is_origin None e = absurd cc
is_origin (Some sig) e = λ plain. (let h : ◌≡◌ {A = Bool} false true = sym (ap is_source_role plain) ∙ e in absurd cc)

module _ (meaning : LibraryMeaning) where
  abbrev IsPlainName : List ℕ → Type 0
  IsPlainName text = IfSome (meaning.node (library_name text)) (λ sig. sig.role ≡ roles.Plain)

  -- a signed node that is no source's name is plain
  pub signed_plain : (decls : List Decl) (text : List ℕ) → known (source_nodes meaning decls) text ≡ false → list_any (is_signed text) decls ≡ true → IsPlainName text
  signed_plain [] text apart signed = absurd cc
  signed_plain (Signature name ins outs ∷ decls) text apart signed = one (bytes_eq name.text text) refl signed (is_source (library_node meaning name.text)) refl apart (signed_plain decls text)
    where
      others : (s : Bool) → is_source (library_node meaning name.text) ≡ s → known (source_nodes meaning (Signature name ins outs ∷ decls)) text ≡ false → known (source_nodes meaning decls) text ≡ false
      others true i e = (or_parts (bytes_eq text name.text) (known (source_nodes meaning decls) text) (let h : (bytes_eq text name.text || known (source_nodes meaning decls) text) ≡ false = rw i at e in h)).1
      others false i e = let h : known (source_nodes meaning decls) text ≡ false = rw i at e in h

      one : (t : Bool) → bytes_eq name.text text ≡ t → (t || list_any (is_signed text) decls) ≡ true → (s : Bool) → is_source (library_node meaning name.text) ≡ s
          → known (source_nodes meaning (Signature name ins outs ∷ decls)) text ≡ false → (known (source_nodes meaning decls) text ≡ false → list_any (is_signed text) decls ≡ true → IsPlainName text) → IsPlainName text
      one true i signed true s e more =
          let h : (bytes_eq text name.text || known (source_nodes meaning decls) text) ≡ false = rw s at e in
          absurd (not_both (bytes_eq text name.text) (text_back name.text text i) (or_parts (bytes_eq text name.text) (known (source_nodes meaning decls) text) h).0)
      one true i signed false s e more = subst IsPlainName (same_text name.text text i) (is_plain (library_node meaning name.text) s)
      one false i signed s is e more = more (others s is e) signed
  signed_plain (other ∷ decls) text apart signed = signed_plain decls text apart signed

  -- a source's name is signed, and its library node is no plain one
  pub source_signed : (decls : List Decl) (text : List ℕ) → known (source_nodes meaning decls) text ≡ true → (list_any (is_signed text) decls ≡ true) × IsSourceSig (meaning.node (library_name text))
  source_signed [] text is = absurd cc
  source_signed (Signature name ins outs ∷ decls) text is = one (is_source (library_node meaning name.text)) refl is (λ k. later (source_signed decls text k))
    where
      Found : Type 0
      Found = ((bytes_eq name.text text || list_any (is_signed text) decls) ≡ true) × IsSourceSig (meaning.node (library_name text))

      later : (list_any (is_signed text) decls ≡ true) × IsSourceSig (meaning.node (library_name text)) → Found
      later more = (or_right (bytes_eq name.text text) (list_any (is_signed text) decls) more.0, more.1)

      own : is_source (library_node meaning name.text) ≡ true → (t : Bool) → bytes_eq text name.text ≡ t → (t || known (source_nodes meaning decls) text) ≡ true → (known (source_nodes meaning decls) text ≡ true → Found) → Found
      own s true i k more = (or_left (bytes_eq name.text text) (list_any (is_signed text) decls) (text_back text name.text i), subst (λ (n : List ℕ). IsSourceSig (meaning.node (library_name n))) (sym (same_text text name.text i)) (is_origin (library_node meaning name.text) s))
      own s false i k more = more k

      one : (s : Bool) → is_source (library_node meaning name.text) ≡ s → known (source_nodes meaning (Signature name ins outs ∷ decls)) text ≡ true → (known (source_nodes meaning decls) text ≡ true → Found) → Found
      one true s k more = let h : (bytes_eq text name.text || known (source_nodes meaning decls) text) ≡ true = rw s at k in own s (bytes_eq text name.text) refl h more
      one false s k more = let h : known (source_nodes meaning decls) text ≡ true = rw s at k in more h
  source_signed (other ∷ decls) text is = source_signed decls text is

  -- ---- library nodes

  held : (t : Bool) → not t ≡ false → t ≡ true
  held true e = refl
  held false e = absurd cc

  kind_is : (a b : Kind) → same_kind a b ≡ true → a ≡ b
  kind_is kinds.Int kinds.Int e = refl
  kind_is kinds.Bool kinds.Bool e = refl
  kind_is kinds.Text kinds.Text e = refl
  kind_is kinds.Int kinds.Bool e = absurd cc
  kind_is kinds.Int kinds.Text e = absurd cc
  kind_is kinds.Bool kinds.Int e = absurd cc
  kind_is kinds.Bool kinds.Text e = absurd cc
  kind_is kinds.Text kinds.Int e = absurd cc
  kind_is kinds.Text kinds.Bool e = absurd cc

  -- parameters that have these kinds
  params_are : (params : List Param) (ks : List Kind) → have_kinds meaning params ks ≡ true → kinds_of (types_of meaning.kind params) ≡ ks
  params_are [] [] e = refl
  params_are [] (k ∷ ks) e = absurd cc
  params_are (p ∷ params) [] e = absurd cc
  params_are (p ∷ params) (k ∷ ks) e = let both = and_parts (is_kind (meaning.kind (spelling p)) k) (have_kinds meaning params ks) e in one (meaning.kind (spelling p)) both.0 (params_are params ks both.1)
    where
      one : (found : Option Kind) → is_kind found k ≡ true → kinds_of (types_of meaning.kind params) ≡ ks → kinds_of (with_kind (spelling p) found ++ types_of meaning.kind params) ≡ k ∷ ks
      one None is more = absurd cc
      one (Some own) is more = let head : own ≡ k = kind_is own k is in λ j. head j ∷ more j

  line_like : (found : Option Sig) (ins outs : List Param) → is_none found ≡ false → are_like meaning found ins outs ≡ true → IsLike found (node_kinds (line_sig meaning.kind ins outs))
  line_like None ins outs present like = absurd cc
  line_like (Some sig) ins outs present like =
      let both = and_parts (have_kinds meaning ins sig.ins) (have_kinds meaning outs sig.outs) like in
      (params_are ins sig.ins both.0, params_are outs sig.outs both.1)

  module _ (all : List Decl) (number : ℕ) (name : List ℕ) (at : slice_get (names_of all) number ≡ Some name) (clean : AllByRecursion (IsClean meaning all) all)
      (is : list_any (is_signed name) all ≡ true) where
    -- a signature line of the name
    line : IsSigned meaning all (IsClean meaning all) name (written meaning.kind (names_of all) all number)
    line = signed_in meaning all (IsClean meaning all) number name at all clean is

    -- the kinds that a signed node's line writes are those of its library node
    pub written_like : IsLike (meaning.node (library_name name)) (node_kinds (written meaning.kind (names_of all) all number))
    written_like =
        let found = library_node meaning line.word.text in
        let like = line_like found line.ins line.outs (no_word (is_none found) line.word line.holds.present)
        (held (are_like meaning found line.ins line.outs) (no_word (not (are_like meaning found line.ins line.outs)) line.word line.holds.like)) in
        subst (λ (sig : NodeSig). IsLike (meaning.node (library_name name)) (node_kinds sig)) (sym line.writes)
        (subst (λ (n : List ℕ). IsLike (meaning.node (library_name n)) (node_kinds (line_sig meaning.kind line.ins line.outs))) line.named like)

    -- the cells of a signed node's library node are protected by the node's constraints
    pub signed_protected : are_protected (flat_map (constraints_on name) all) (meaning.node (library_name name)) ≡ true
    signed_protected =
        let own = are_protected (flat_map (constraints_on line.word.text) all) (library_node meaning line.word.text) in
        subst (λ (n : List ℕ). are_protected (flat_map (constraints_on n) all) (meaning.node (library_name n)) ≡ true) line.named
        (held own (no_word (not own) line.word line.holds.protected))
