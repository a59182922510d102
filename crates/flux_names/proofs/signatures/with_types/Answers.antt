use Rattle.std.proofs.Common.{◌≡◌, IfOk, sym, subst}
use Rattle.std.specs.List.{flat_map}
use Rattle.flux_syntax.specs.Least.{soonest}
use Rattle.flux_names.specs.Rows.{unknown_type}
use Rattle.flux_syntax.proofs.Soonest.{soonest_append}
use Rattle.flux_names.proofs.signatures.with_types.Goals as goal

pub returns-in_ok-place-in-Signature : goal.returns-in_ok-place-in-Signature
returns-in_ok-place-in-Signature g c =
    let f = unknown_type (g.L.Meaning.meaning c.args.library.now) in
    let r = c.with_params-in-Signature.result in
    let ins = flat_map f c.in-Signature.ins in
    let outs = flat_map f c.in-Signature.outs in
    rw c.in-Signature.is
    (subst (λ q. IfOk r (λ p. p ≡ q)) (sym (soonest_append c.args.place ins outs))
    (subst (λ q. IfOk r (λ p. p ≡ soonest q outs)) (rw c.as_slice.ensures at c.in_ok-place-in-Signature.ensures) (rw c.as_slice-in-Signature.ensures at c.with_params-in-Signature.ensures)))
