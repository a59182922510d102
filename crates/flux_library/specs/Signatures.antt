-- Signatures of nodes.
use Rattle.std.specs.Prelude.{ℕ, List, [], ◌∷◌}
use Rattle.flux_values.specs.declared.values.Kind.{Kind}
use Rattle.flux_values.specs.declared.answers.Mode.{Mode}
use Rattle.flux_values.specs.declared.meanings.Sig.{Sig}
use Rattle.flux_values.specs.declared.meanings.CellUse.{CellUse}
use Rattle.flux_values.specs.declared.meanings.Role.{Role}
use Rattle.flux_values.specs.declared.meanings.Role.TheVariants.{Plain}

-- a source gives values, and takes none
abbrev pub source_sig : Role → List Kind → Sig
source_sig role outs = record { ins = []; outs = outs; cells = []; role = role }

-- an inner node, with the cells that it uses
abbrev pub plain_sig : List Kind → List Kind → List CellUse → Sig
plain_sig ins outs cells = record { ins = ins; outs = outs; cells = cells; role = Plain }

-- the use of one cell
abbrev pub uses : List ℕ → Mode → List CellUse
uses name mode = record { name = name; mode = mode } ∷ []
