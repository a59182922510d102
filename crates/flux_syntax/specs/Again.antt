-- Formatted text has the same declarations again.
use Rattle.std.specs.Prelude.{◌≡◌, ℕ, List, map, option_map}
use Rattle.flux_syntax.specs.declared.declarations.Word.{Word}
use Rattle.flux_syntax.specs.declared.declarations.Param.{Param}
use Rattle.flux_syntax.specs.declared.declarations.Constraint.{Constraint}
use Rattle.flux_syntax.specs.declared.declarations.Decl.{Decl}
use Rattle.flux_syntax.specs.declared.declarations.Decl.TheVariants as decl
use Rattle.flux_syntax.specs.Declares.{Declares}
use Rattle.flux_syntax.specs.Formatted.{formatted}

-- a word without its place
abbrev pub bare : Word → Word
bare word = record { text = word.text; at = 0 }

-- a parameter without places
abbrev pub bare_param : Param → Param
bare_param p = record { ty = bare p.ty; stars = p.stars; name = bare p.name }

-- a constraint without places
abbrev pub bare_constraint : Constraint → Constraint
bare_constraint c = record { name = bare c.name; mode = c.mode; session = c.session }

-- a declaration without places
abbrev pub bare_decl : Decl → Decl
bare_decl (decl.Signature called ins outs) =
    decl.Signature (bare called) (map bare_param ins) (map bare_param outs)
bare_decl (decl.Flow called patterns members) =
    decl.Flow (bare called) (option_map (map (option_map bare)) patterns) (map bare members)
bare_decl (decl.Source called target) = decl.Source (bare called) (bare target)
bare_decl (decl.Typedef called function) = decl.Typedef (bare called) (bare function)
bare_decl (decl.Handler node codes handler) =
    decl.Handler (bare node) (map bare codes) (bare handler)
bare_decl (decl.Atomic node constraints) =
    decl.Atomic (bare node) (map bare_constraint constraints)
bare_decl (decl.Session source function) = decl.Session (bare source) (bare function)

-- the declarations are those of some text's tokens
pub record AreOfText (decls : List Decl) : Type 0 where
  pub text : List ℕ
  pub declared : Declares decls text

-- a text has these declarations apart from places, and is the formatted text of its own
pub record Gives (decls : List Decl) (text : List ℕ) : Type 0 where
  pub others : List Decl
  pub declared : Declares others text
  pub alike : map bare_decl others ≡ map bare_decl decls
  pub again : formatted others ≡ text
