-- Types that are spelled alike have one kind.
use Rattle.std.proofs.Common.{◌≡◌, ℕ, zero, suc, Bool, true, false, ◌&&◌, ◌==◌, if◌then◌else◌, List, [], ◌∷◌, ◌++◌, Option, Some, None, refl, sym, ap, ◌∙◌}
use Rattle.std.specs.List.{slice_get, AllByRecursion}
use Rattle.std.specs.Str.{bytes_eq}
use Rattle.std.proofs.lemmas.Slice.Eq.{bytes_eq-Decides}
use Rattle.std.proofs.lemmas.Bool.{and_parts}
use Rattle.flux_values.specs.declared.values.Kind.{Kind}
use Rattle.flux_values.specs.declared.values.Kind.TheVariants as kinds
use Rattle.flux_model.specs.declared.signatures.TypeText.{TypeText}
use Rattle.flux_model.specs.declared.signatures.NodeSig.{NodeSig}
use Rattle.flux_model.specs.declared.programs.NodeNo.{NodeNo}
use Rattle.flux_model.specs.declared.programs.Node.{Node}
use Rattle.flux_model.specs.declared.programs.Case.{Case}
use Rattle.flux_model.specs.declared.programs.Body.{Body}
use Rattle.flux_model.specs.declared.programs.Body.TheVariants.{Concrete, Abstract}
use Rattle.flux_model.specs.Nested.{for_node, nested}
use Rattle.flux_model.specs.Kinds.{kinds_of}
use Rattle.flux_model.specs.Types.{same_types}
use Rattle.flux_syntax.specs.declared.declarations.Param.{Param}
use Rattle.flux_syntax.specs.declared.declarations.Decl.{Decl}
use Rattle.flux_syntax.specs.declared.declarations.Decl.TheVariants.{Signature}
use Rattle.flux_syntax.specs.Words.{spelling, names_of}
use Rattle.flux_syntax.specs.ProgramOfText.{place_of}
use Rattle.flux_types.specs.Signatures.{Kinds, with_kind, type_of, types_of, nothing, line_sig, written, last_of, case_sig, cases_sig, body_sig, sig_by, nodes_of, sig_of}
use Rattle.flux_types.specs.Rows.{same_kind, have_kinds}

-- kinds that are the same are one
pub kind_same : (a b : Kind) → same_kind a b ≡ true → a ≡ b
kind_same kinds.Int kinds.Int e = refl
kind_same kinds.Int kinds.Bool e = absurd cc
kind_same kinds.Int kinds.Text e = absurd cc
kind_same kinds.Bool kinds.Int e = absurd cc
kind_same kinds.Bool kinds.Bool e = refl
kind_same kinds.Bool kinds.Text e = absurd cc
kind_same kinds.Text kinds.Int e = absurd cc
kind_same kinds.Text kinds.Bool e = absurd cc
kind_same kinds.Text kinds.Text e = refl

-- types of these kinds
pub kinds_had : (types : List TypeText) (ks : List Kind) → have_kinds types ks ≡ true → ks ≡ kinds_of types
kinds_had [] [] e = refl
kinds_had [] (k ∷ ks) e = absurd cc
kinds_had (t ∷ types) [] e = absurd cc
kinds_had (t ∷ types) (k ∷ ks) e =
    let both = and_parts (same_kind t.kind k) (have_kinds types ks) e in
    let head : k ≡ t.kind = sym (kind_same t.kind k both.0) in
    λ i. head i ∷ kinds_had types ks both.1 i

module _ (kind : Kinds) where
  -- a type has the kind of its spelling
  abbrev IsSpelled : TypeText → Type 0
  IsSpelled ty = kind ty.words ≡ Some ty.kind

  abbrev pub AreSpelled : List TypeText → Type 0
  AreSpelled types = AllByRecursion IsSpelled types

  pub record IsSigSpelled (sig : NodeSig) : Type 0 where
    pub ins : AreSpelled sig.ins
    pub outs : AreSpelled sig.outs

  -- types that are spelled alike are the same
  pub types_same : (a b : List TypeText) → AreSpelled a → AreSpelled b → same_types a b ≡ true → a ≡ b
  types_same [] [] x y e = refl
  types_same [] (u ∷ b) x y e = absurd cc
  types_same (t ∷ a) [] x y e = absurd cc
  types_same (t ∷ a) (u ∷ b) x y e =
      let both = and_parts (bytes_eq t.words u.words) (same_types a b) e in
      let same : t.words ≡ u.words = (bytes_eq-Decides t.words u.words).0 both.0 in
      let one : ◌≡◌ {A = Option Kind} (Some t.kind) (Some u.kind) = sym x.0 ∙ ap kind same ∙ y.0 in
      let head : t.kind ≡ u.kind = cc in
      λ i. record { words = same i; kind = head i } ∷ types_same a b x.1 y.1 both.1 i

  -- ---- what lines write is spelled so

  append_spelled : (a b : List TypeText) → AreSpelled a → AreSpelled b → AreSpelled (a ++ b)
  append_spelled [] b x y = y
  append_spelled (t ∷ a) b x y = (x.0, append_spelled a b x.1 y)

  type_spelled : (param : Param) → AreSpelled (type_of kind param)
  type_spelled param = one (kind (spelling param)) refl
    where
      one : (found : Option Kind) → kind (spelling param) ≡ found → AreSpelled (with_kind (spelling param) found)
      one None e = tt
      one (Some k) e = (e, tt)

  types_spelled : (params : List Param) → AreSpelled (types_of kind params)
  types_spelled [] = tt
  types_spelled (p ∷ params) = append_spelled (type_of kind p) (types_of kind params) (type_spelled p) (types_spelled params)

  nothing_spelled : IsSigSpelled nothing
  nothing_spelled = record { ins = tt; outs = tt }

  written_spelled : (names : List (List ℕ)) (decls : List Decl) (number : ℕ) → IsSigSpelled (written kind names decls number)
  written_spelled names [] number = nothing_spelled
  written_spelled names (Signature name ins outs ∷ decls) number = one (place_of names name == number) (written_spelled names decls number)
    where
      one : (t : Bool) → IsSigSpelled (written kind names decls number) → IsSigSpelled (if t then line_sig kind ins outs else written kind names decls number)
      one true others = record { ins = types_spelled ins; outs = types_spelled outs }
      one false others = others
  written_spelled names (other ∷ decls) number = written_spelled names decls number

  -- ---- and so is what nodes have of them

  case_spelled : (sigs : ℕ → NodeSig) → ((number : ℕ) → IsSigSpelled (sigs number)) → (members : List NodeNo) (other : NodeSig) → IsSigSpelled other → IsSigSpelled (case_sig sigs members other)
  case_spelled sigs all [] other is = is
  case_spelled sigs all (first ∷ members) other is =
      let from = all first.0 in
      let last = last_of first members in
      let to = all last.0 in
      record { ins = from.ins; outs = to.outs }

  cases_spelled : (sigs : ℕ → NodeSig) → ((number : ℕ) → IsSigSpelled (sigs number)) → (cases : List Case) → IsSigSpelled (cases_sig sigs cases)
  cases_spelled sigs all [] = nothing_spelled
  cases_spelled sigs all (case ∷ cases) = case_spelled sigs all case.members (cases_sig sigs cases) (cases_spelled sigs all cases)

  body_spelled : (sigs : ℕ → NodeSig) → ((number : ℕ) → IsSigSpelled (sigs number)) → (own : NodeSig) → IsSigSpelled own → (body : Body) → IsSigSpelled (body_sig sigs own body)
  body_spelled sigs all own is (Concrete name) = is
  body_spelled sigs all own is (Abstract cases) = cases_spelled sigs all cases

  module _ (decls : List Decl) where
    abbrev lines : ℕ → NodeSig
    lines = written kind (names_of decls) decls

    nested_spelled : (depth number : ℕ) → IsSigSpelled (nested nothing (sig_by lines) (nodes_of decls) depth number)
    nested_spelled zero number = nothing_spelled
    nested_spelled (suc depth) number = one (slice_get (nodes_of decls) number) (nested_spelled depth)
      where
        one : (found : Option Node) → ((other : ℕ) → IsSigSpelled (nested nothing (sig_by lines) (nodes_of decls) depth other))
            → IsSigSpelled (for_node nothing (sig_by lines (nested nothing (sig_by lines) (nodes_of decls) depth) number) found)
        one None all = nothing_spelled
        one (Some node) all = body_spelled (nested nothing (sig_by lines) (nodes_of decls) depth) all (lines number) (written_spelled (names_of decls) decls number) node.body

  -- the types of each node's signature have the kinds of their spellings
  pub sig_spelled : (decls : List Decl) (number : ℕ) → IsSigSpelled (sig_of kind decls number)
  sig_spelled decls number = nested_spelled decls _ number
