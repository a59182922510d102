-- Types, compared as they are spelled.
use Rattle.std.specs.Prelude.{◌&&◌, Bool, true, false, List, [], ◌∷◌}
use Rattle.std.specs.Str.{bytes_eq}
use Rattle.flux_model.specs.declared.signatures.TypeText.{TypeText}

-- the same types, in number and order
abbrev pub same_types : List TypeText → List TypeText → Bool
same_types [] [] = true
same_types (a ∷ as_) (b ∷ bs) = bytes_eq a.words b.words && same_types as_ bs
same_types as_ bs = false
