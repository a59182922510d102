use Rattle.std.proofs.Common.{◌≡◌, Bool, true, false, not, refl, sym, subst}
use Rattle.std.specs.Prelude.{MatchBool}
use Rattle.flux_serve.specs.steps.PendingReplies.{HasText}
use Rattle.flux_serve.proofs.replies.PendingReply.is_open.Goals as goal

unwritten : (text : Type 0) (written : Bool) → text → MatchBool (not written) (text × (written ≡ false)) (text → written ≡ true)
unwritten text true sent = λ has. refl
unwritten text false sent = (sent, refl)

pub returns-in-Text : goal.returns-in-Text
returns-in-Text g c =
    let reply = c.args.self.now in
    let request = reply.request in
    unwritten (HasText request.sent) reply.written (subst HasText (sym c.in-Text.is) tt)
