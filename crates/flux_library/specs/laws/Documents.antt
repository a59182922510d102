-- Documents are the same where the same names have the same bodies.
use Rattle.std.specs.Prelude.{◌≡◌, ℕ, List, map, Vec}
use Rattle.std.specs.Global.{Global}
use Rattle.std.proofs.Props.{props}
use base.Stored.{Coded, coded_ℕ, coded_list, coded_via}
use mathlib.Core.HLevel.{Σ_prop_path}
use Rattle.std.specs.FinMap as fin
use Rattle.flux_library.specs.Documents.{Bodies, AreBodies, DocMap}

bodies-prop : (named : Bodies) → IsProp (AreBodies named)
bodies-prop named = hlevel props

pub same_docs : (a b : DocMap) → a.named ≡ b.named → a ≡ b
same_docs a b e =
    let pairs : ◌≡◌ {A = (named : Bodies) × AreBodies named} (a.named, a.bodies) (b.named, b.bodies) = Σ_prop_path bodies-prop e in
    λ i. record { named = (pairs i).0; bodies = (pairs i).1 }

abbrev pub doc_code : Coded DocMap
doc_code = coded_via (fin.code (coded_list coded_ℕ) (coded_list coded_ℕ)) (λ d. d.named) same_docs

-- entries of a tree whose keys are vectors, by the keys' bytes
abbrev pub by_bytes : List (Vec ℕ Global × List ℕ) → List (List ℕ × List ℕ)
by_bytes entries = map (λ e. (e.0.items, e.1)) entries
