-- Fault 21 in a program: handlers that don't take what their nodes take.
use Rattle.std.specs.Prelude.{ℕ, suc, Bool, List, [], ◌∷◌, ◌++◌, map}
use Rattle.flux_model.specs.declared.programs.Node.{Node}
use Rattle.flux_model.specs.declared.programs.HandleArm.{HandleArm}
use Rattle.flux_model.specs.declared.named.Named.{Named}
use Rattle.flux_model.specs.declared.signatures.NodeSig.{NodeSig}
use Rattle.flux_model.specs.Types.{same_types}
use Rattle.flux_edges.specs.declared.handlers.Arm.{Arm}
use Rattle.flux_edges.specs.Places.{unless}

-- the arms of a node's handlers, with the numbers of the node and of the handler
abbrev pub arm_of : ℕ → HandleArm → Arm
arm_of number arm = let handler = arm.node in record { node = number; handler = handler.0 }

-- of all nodes, node by node, from a number on
abbrev pub arms_from : ℕ → List Node → List Arm
arms_from number [] = []
arms_from number (node ∷ nodes) = map (arm_of number) node.on_fail ++ arms_from (suc number) nodes

-- the handler takes what the node takes
abbrev pub is_like : (ℕ → NodeSig) → Arm → Bool
is_like sigs arm =
    let own = sigs arm.node in let their = sigs arm.handler in same_types own.ins their.ins

-- the places of those that don't; each arm has its place
abbrev pub unlike_arms : (ℕ → NodeSig) → List Arm → List ℕ → List ℕ
unlike_arms sigs (arm ∷ arms) (at ∷ sites) =
    unless (is_like sigs arm) at ++ unlike_arms sigs arms sites
unlike_arms sigs arms sites = []

-- 21: the places of handlers whose inputs differ from their nodes'
abbrev pub unlike_handlers : (ℕ → NodeSig) → Named → List ℕ
unlike_handlers sigs named =
    let program = named.program in let sites = named.sites in
    unlike_arms sigs (arms_from 0 program.nodes) sites.handlers
