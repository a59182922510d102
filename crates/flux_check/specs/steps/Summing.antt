-- Steps: sums of sizes as they are counted: past the limit, any size is one more than it.
use Rattle.std.specs.Prelude.{ℕ, ◌+◌, List, [], ◌∷◌, Option}
use Rattle.flux_model.specs.declared.programs.NodeNo.{NodeNo}
use Rattle.flux_model.specs.declared.programs.SourceLine.{SourceLine}
use Rattle.flux_syntax.specs.declared.declarations.Decl.{Decl}
use Rattle.flux_syntax.specs.declared.declarations.Decl.TheVariants.{Source}
use Rattle.flux_syntax.specs.Least.{soonest}
use Rattle.flux_hoist.specs.Counted.{capped, size_at}
use Rattle.flux_check.specs.Rows.{past_limit}

-- the least place at which the sum is past the limit, source after source
abbrev pub large_along : List ℕ → ℕ → Option ℕ → List Decl → List SourceLine → Option ℕ
large_along table total place (Source name target ∷ decls) (line ∷ lines) =
    let more = capped (total + capped (size_at table line.target.0 + 1)) in large_along table more (soonest place (past_limit more name)) decls lines
large_along table total place (Source name target ∷ decls) [] = place
large_along table total place (other ∷ decls) lines = large_along table total place decls lines
large_along table total place [] lines = place

abbrev pub line_size : List ℕ → SourceLine → ℕ
line_size table line = capped (size_at table line.target.0 + 1)
