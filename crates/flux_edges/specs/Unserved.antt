-- Fault 26 in a numbered program: sources that lead to a session constraint and have no session
-- function.
use Rattle.std.specs.Prelude.{◌≡◌, ◌⊎◌, ℕ, Bool, ◌||◌, not, List, [], ◌∷◌, ◌++◌}
use Rattle.std.specs.Option.{is_some}
use Rattle.flux_model.specs.declared.programs.Program.{Program}
use Rattle.flux_model.specs.declared.programs.SourceLine.{SourceLine}
use Rattle.flux_model.specs.declared.named.Named.{Named}
use Rattle.flux_model.specs.Ordering.{LeadsOn}
use Rattle.flux_model.specs.Soundness.{DeclaresSession}
use Rattle.flux_edges.specs.Places.{unless}
use Rattle.flux_edges.specs.Sessions.{needs_session}

-- in other words: the node, or one that it leads to, declares a session constraint
pub record IsNeeded (p : Program) (from : ℕ) : Type 0 where
  pub node : ℕ
  pub reached : (node ≡ from) ⊎ LeadsOn p.nodes from node
  pub declares : DeclaresSession p node

-- a source has a session function, or its flows need no session
abbrev pub is_served : (ℕ → Bool) → SourceLine → Bool
is_served needs line = let target = line.target in is_some line.session || not (needs target.0)

-- the places of those that aren't; each source line has its place
abbrev pub unserved : (ℕ → Bool) → List SourceLine → List ℕ → List ℕ
unserved needs (line ∷ lines) (at ∷ sites) =
    unless (is_served needs line) at ++ unserved needs lines sites
unserved needs lines sites = []

-- 26: the places of sources without a session function that lead to a session constraint
abbrev pub unserved_sources : Named → List ℕ
unserved_sources named =
    let program = named.program in let sites = named.sites in
    unserved (needs_session program) program.sources sites.sources
