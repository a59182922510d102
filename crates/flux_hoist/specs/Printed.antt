-- How classes that nodes hold are printed.
use Rattle.std.specs.Prelude.{ℕ, if◌then◌else◌, List, [], ◌++◌, Option, Some, None, codes}
use Rattle.std.specs.List.{slice_get}
use Rattle.flux_model.specs.declared.programs.Program.{Program}
use Rattle.flux_model.specs.declared.programs.Class.{Class}
use Rattle.flux_model.specs.declared.programs.Hold.{Hold}
use Rattle.flux_model.specs.Texts.{class_name, printed_mode}

-- `(session)` for a class of sessions
abbrev pub printed_scope : Option Class → List ℕ
printed_scope None = []
printed_scope (Some class) = if class.session then codes "(session)" else []

-- a class with its mode: its name, its scope, and `!` or `?`
abbrev pub printed_hold : Program → Hold → List ℕ
printed_hold p hold =
    let class = slice_get p.classes hold.class.0 in
    class_name class ++ printed_scope class ++ printed_mode hold.mode
