-- Keys as entries keep them.
use Rattle.std.specs.Prelude.{ℕ, Bool, if◌then◌else◌, Some, None}
use Rattle.flux_model.specs.declared.programs.ClassNo.{ClassNo}
use Rattle.flow_model.specs.declared.journals.Key.{Key}

-- the key of a class; of a session class with the session's number, which elsewhere means nothing
abbrev pub kept_key : ClassNo → Bool → ℕ → Key
kept_key class is_session number = record { class = class; id = if is_session then Some number else None }
