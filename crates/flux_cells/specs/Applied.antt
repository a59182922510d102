-- Puts, applied in order to the cells of keys.
use Rattle.std.specs.Prelude.{ℕ, List, [], ◌∷◌, Option}
use Rattle.std.specs.List.{slice_get, find}
use Rattle.flux_values.specs.declared.answers.Put.{Put}
use Rattle.flux_model.specs.declared.programs.Class.{Class}
use Rattle.flux_model.specs.declared.programs.Program.{Program}
use Rattle.flow_model.specs.declared.journals.Key.{Key}
use Rattle.flow_model.specs.Keys.{Cells}
use Rattle.flow_model.specs.CellsAfter.{is_named, put_under}

-- a key's class
abbrev pub class_of : Program → Key → Option Class
class_of p key = slice_get p.classes key.class.0

-- that key, of some, whose class has a name; the first, if there are several
abbrev pub key_named : Program → List Key → List ℕ → Option Key
key_named p keys name = find (λ key. is_named name (class_of p key)) keys

-- the cells after puts
abbrev pub applied : Program → List Key → Cells → List Put → Cells
applied p keys cells [] = cells
applied p keys cells (put ∷ puts) = applied p keys (put_under cells put (key_named p keys put.cell)) puts
