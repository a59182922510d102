-- A request's parts are those of the head at the front of its text.
use Rattle.std.specs.List.{position_or_len}
use Rattle.std.proofs.Common.{◌≡◌, ℕ, ◌==◌, ◌≤◌, List, length, true, refl, ap, subst, ◌∙◌, arith}
use Rattle.httparse.specs.Grammar.{RequestHead}
use Rattle.httparse.proofs.GrammarLemmas.{request_unique}
use Rattle.flux_library.specs.Answers.{fails}
use Rattle.nodes_web.specs.Heads.{Front, headed, headless}
use Rattle.nodes_web.specs.laws.Heads.{cut_fits, head_fits}
use Rattle.nodes_web.specs.Requests.{is_served, path_of, AreAskedIn, AsksNothing}
use Rattle.nodes_web.specs.Calls.{two, read_front}

-- a request's method and path are no longer than the text
pub method_fits : (text method path : List ℕ) → AreAskedIn text method path → length method ≤ length text
method_fits text method path asked = omega (arith, head_fits text asked.head asked.front, ap length asked.method_)

pub path_fits : (text method path : List ℕ) → AreAskedIn text method path → length path ≤ length text
path_fits text method path asked =
    omega (arith, cut_fits (position_or_len (λ byte. byte == 63) asked.head.target) asked.head.target, head_fits text asked.head asked.front, ap length asked.path_)

-- what is asked for is what the head at the front answers, whichever way it was found
pub asked_answer : (text method path : List ℕ) → AreAskedIn text method path → (front : Front text) → two method path ≡ read_front front
asked_answer text method path asked (headed head is) =
    let same = request_unique text asked.head head asked.front.rest is.rest asked.front.reads is.reads in
    let served = subst (λ (h : RequestHead). is_served h ≡ true) same.0 asked.served in
    rw served (ap (λ (m : List ℕ). two m path) (asked.method_ ∙ ap (λ (h : RequestHead). h.method) same.0)
    ∙ ap (two head.method) (asked.path_ ∙ ap (λ (h : RequestHead). path_of h.target) same.0))
asked_answer text method path asked (headless none) = absurd (none asked.head asked.front)

pub no_answer : (text : List ℕ) → AsksNothing text → (front : Front text) → fails 1 ≡ read_front front
no_answer text nothing (headed head is) = rw (nothing head is) refl
no_answer text nothing (headless none) = refl
