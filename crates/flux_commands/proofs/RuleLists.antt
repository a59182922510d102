-- What items are read by is made of the sources.
use Rattle.std.proofs.Common.{◌≡◌, ℕ, List, [], ◌∷◌, map, Option, Some, None, refl, sym, ◌∙◌}
use Rattle.std.specs.List.{slice_get, AllByRecursion}
use Rattle.std.specs.Option.{option_map}
use Rattle.std.proofs.lemmas.Option.{slice_get-map}
use Rattle.std.proofs.lemmas.List.{length-map}
use Rattle.flux_values.specs.declared.values.Kind.{Kind}
use Rattle.flux_values.specs.Identifiers.{IsIdentifier}
use Rattle.flux_model.specs.declared.programs.Program.{Program}
use Rattle.flux_model.specs.declared.programs.SourceLine.{SourceLine}
use Rattle.flux_model.specs.Kinds.{NodeKinds}
use Rattle.flux_model.specs.Locks.{Holds}
use Rattle.flux_model.specs.Sizes.{source_size}
use Rattle.flux_model.specs.Texts.{source_name}
use Rattle.flux_items.specs.Rules.{AreRules}
use Rattle.flux_commands.specs.Items.{rules_of}
use Rattle.flux_commands.specs.steps.Running.{HasSources}

module _ (p : Program) (kinds : ℕ → NodeKinds) (locks : Holds) (sizes : List ℕ) (has : HasSources p locks sizes) where
  abbrev name_of : SourceLine → List ℕ
  name_of line = source_name p (Some line)

  abbrev outs : SourceLine → List Kind
  outs line = let from = kinds line.node.0 in from.outs

  each_named : (lines : List SourceLine) → AllByRecursion (λ line. IsIdentifier (name_of line)) lines → AllByRecursion IsIdentifier (map name_of lines)
  each_named [] all = tt
  each_named (line ∷ lines) all = (all.0, each_named lines all.1)

  two_apart : (a b : ℕ) (name : List ℕ) (first second : Option SourceLine) → slice_get p.sources a ≡ first → slice_get p.sources b ≡ second → option_map name_of first ≡ Some name → option_map name_of second ≡ Some name → a ≡ b
  two_apart a b name None second at bt x y = absurd cc
  two_apart a b name (Some one) None at bt x y = absurd cc
  two_apart a b name (Some one) (Some two) at bt x y =
      let first : name_of one ≡ name = cc in
      let second : name_of two ≡ name = cc in
      has.apart a b one two at bt (first ∙ sym second)

  pub rules_are : AreRules (rules_of p kinds locks)
  rules_are = record {
    kinds = length-map p.sources outs ∙ sym (length-map p.sources name_of);
    sizes = length-map p.sources (source_size locks p) ∙ sym (length-map p.sources name_of);
    few = rw (length-map p.sources name_of) has.few;
    identifiers = each_named p.sources has.identifiers;
    apart = λ a b name x y. two_apart a b name (slice_get p.sources a) (slice_get p.sources b) refl refl (sym (slice_get-map name_of p.sources a) ∙ x) (sym (slice_get-map name_of p.sources b) ∙ y);
  }
