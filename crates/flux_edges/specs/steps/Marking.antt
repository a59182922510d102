-- Steps of the code: places that are gone along, and nodes that are marked. No public clause
-- cites it.
use Rattle.std.specs.Prelude.{ℕ, Bool, false, List, [], ◌∷◌, Option, Some, None, slice_set}
use Rattle.std.specs.List.{slice_get}
use Rattle.std.specs.Option.{unwrap_or}
use Rattle.flux_model.specs.declared.programs.Class.{Class}
use Rattle.flux_model.specs.declared.programs.NodeNo.{NodeNo}
use Rattle.flux_model.specs.declared.programs.Node.{Node}
use Rattle.flux_model.specs.declared.programs.SourceLine.{SourceLine}
use Rattle.flux_model.specs.declared.signatures.NodeSig.{NodeSig}
use Rattle.flux_edges.specs.declared.handlers.Arm.{Arm}
use Rattle.flux_edges.specs.Places.{sooner_of}
use Rattle.flux_edges.specs.Handlers.{is_like}
use Rattle.flux_edges.specs.Sessions.{needs_by}
use Rattle.flux_edges.specs.Unserved.{is_served}

-- the least place, arm after arm
abbrev pub arms_along : (ℕ → NodeSig) → Option ℕ → List Arm → List ℕ → Option ℕ
arms_along sigs place (arm ∷ arms) (at ∷ sites) =
    arms_along sigs (sooner_of (is_like sigs arm) at place) arms sites
arms_along sigs place arms sites = place

-- the least place, source line after source line
abbrev pub lines_along : (ℕ → Bool) → Option ℕ → List SourceLine → List ℕ → Option ℕ
lines_along needs place (line ∷ lines) (at ∷ sites) =
    lines_along needs (sooner_of (is_served needs line) at place) lines sites
lines_along needs place lines sites = place

-- a node's mark, once the nodes that it leads to have theirs
abbrev pub mark_at : List Bool → ℕ → Bool
mark_at marks number = unwrap_or (slice_get marks number) false

abbrev pub put_found : List Class → List Bool → ℕ → Option Node → List Bool
put_found classes marks number None = marks
put_found classes marks number (Some node) =
    slice_set marks number (needs_by classes (mark_at marks) number node)

abbrev pub put_mark : List Class → List Node → List Bool → NodeNo → List Bool
put_mark classes nodes marks number = put_found classes marks number.0 (slice_get nodes number.0)
