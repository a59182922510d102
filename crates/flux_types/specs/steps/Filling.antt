-- Steps of the code: a table of signatures, filled in. No public clause cites it.
use Rattle.std.specs.Prelude.{ℕ, List, [], ◌∷◌, Option, Some, None, slice_set}
use Rattle.std.specs.List.{slice_get}
use Rattle.flux_model.specs.declared.signatures.NodeSig.{NodeSig}
use Rattle.flux_model.specs.declared.programs.NodeNo.{NodeNo}
use Rattle.flux_model.specs.declared.programs.Node.{Node}
use Rattle.flux_model.specs.declared.programs.Body.{Body}
use Rattle.flux_model.specs.declared.programs.Body.TheVariants.{Concrete, Abstract}
use Rattle.flux_model.specs.Kinds.{sig_at}
use Rattle.flux_syntax.specs.declared.declarations.Decl.{Decl}
use Rattle.flux_syntax.specs.declared.declarations.Decl.TheVariants.{Signature}
use Rattle.flux_syntax.specs.ProgramOfText.{place_of}
use Rattle.flux_types.specs.Signatures.{Kinds, line_sig, cases_sig}

-- what a signature line writes, put into its node's place
abbrev pub put_line : Kinds → List (List ℕ) → Decl → List NodeSig → List NodeSig
put_line kind names (Signature name ins outs) sigs =
    slice_set sigs (place_of names name) (line_sig kind ins outs)
put_line kind names other sigs = sigs

-- from the last line to the first
abbrev pub put_lines : Kinds → List (List ℕ) → List Decl → List NodeSig → List NodeSig
put_lines kind names [] sigs = sigs
put_lines kind names (decl ∷ decls) sigs =
    put_line kind names decl (put_lines kind names decls sigs)

-- what an abstract node's cases have, put into its place
abbrev pub put_body : List NodeSig → ℕ → Body → List NodeSig
put_body sigs number (Concrete name) = sigs
put_body sigs number (Abstract cases) = slice_set sigs number (cases_sig (sig_at sigs) cases)

abbrev pub put_found : List NodeSig → ℕ → Option Node → List NodeSig
put_found sigs number None = sigs
put_found sigs number (Some node) = put_body sigs number node.body

abbrev pub put_node : List Node → List NodeSig → NodeNo → List NodeSig
put_node nodes sigs number = put_found sigs number.0 (slice_get nodes number.0)
