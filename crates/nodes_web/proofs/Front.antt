-- What the parser's spans say of the head at the front of a text.
use Rattle.std.proofs.Common.{◌≡◌, ℕ, ◌+◌, ◌≤◌, Bool, false, cond, List, [], ◌∷◌, length, take, drop, map, refl, sym, ap, subst, ◌∙◌, arith, length-take}
use Rattle.std.specs.List.{count_by}
use Rattle.std.proofs.lemmas.List.{length-map}
use Rattle.std.proofs.lemmas.List.Sums.{sum_by-cons}
use Rattle.httparse.specs.Grammar.{Field, RequestHead}
use Rattle.httparse.specs.Spans.{span_bytes, header_bytes, name_and_value, IsRequestAt}
use Rattle.httparse.specs.declared.spans.HeaderSpan.{HeaderSpan}
use Rattle.httparse.specs.declared.spans.RequestSpans.{RequestSpans}
use Rattle.httparse.proofs.GrammarLemmas.{request_unique}
use Rattle.nodes_web.specs.declared.requests.TheConstants.{FIELD_LIMIT}
use Rattle.nodes_web.specs.Heads.{IsHeadOf}
use Rattle.nodes_web.specs.Requests.{is_host, hosts, is_served, may_serve, AsksNothing}

-- the fields fit the room
pub is_front : (text : List ℕ) (headers : List HeaderSpan) (r : RequestSpans) (head : RequestHead) → length headers ≤ FIELD_LIMIT
    → IsRequestAt text headers r head → IsHeadOf text head
is_front text headers r head room at = record {
  rest = drop r.len text;
  reads = at.reads;
  few = omega (arith, length-take r.headers headers, length-map (take r.headers headers) (header_bytes text), length-map head.fields name_and_value, ap length at.fields);
}

-- the fields named `Host` are counted by their spans
pub hosts_spanned : (text : List ℕ) (spans : List HeaderSpan) (fields : List Field) → map (header_bytes text) spans ≡ map name_and_value fields
    → count_by (λ f. is_host (span_bytes text f.name)) spans ≡ hosts fields
hosts_spanned text [] [] e = refl
hosts_spanned text [] (f ∷ fields) e = absurd cc
hosts_spanned text (s ∷ spans) [] e = absurd cc
hosts_spanned text (s ∷ spans) (f ∷ fields) e =
    let first : header_bytes text s ≡ name_and_value f = cc in
    let later = hosts_spanned text spans fields cc in
    let name : span_bytes text s.name ≡ f.name = ap (λ (p : List ℕ × List ℕ). p.0) first in
    sum_by-cons (λ (h : HeaderSpan). cond (is_host (span_bytes text h.name)) 1 0) s spans
    ∙ ap (λ (n : List ℕ). cond (is_host n) 1 0 + count_by (λ (h : HeaderSpan). is_host (span_bytes text h.name)) spans) name
    ∙ ap (λ (n : ℕ). cond (is_host f.name) 1 0 + n) later
    ∙ sym (sum_by-cons (λ (g : Field). cond (is_host g.name) 1 0) f fields)

-- the test of the spans is that of the head
pub serves : (text : List ℕ) (headers : List HeaderSpan) (r : RequestSpans) (head : RequestHead) (target : List ℕ) (count : ℕ) (answer : Bool)
    → IsRequestAt text headers r head → target ≡ span_bytes text r.path
    → count ≡ count_by (λ f. is_host (span_bytes text f.name)) (take r.headers headers) → answer ≡ may_serve target r.version count → is_served head ≡ answer
serves text headers r head target count answer at is counted answered =
    let same = is ∙ at.path in
    let all = counted ∙ hosts_spanned text (take r.headers headers) head.fields at.fields in
    sym (answered ∙ ap (λ (t : List ℕ). may_serve t r.version count) same ∙ ap (λ (v : ℕ). may_serve head.target v count) at.version ∙ ap (may_serve head.target head.minor) all)

-- a head at the front is the one that the parser found
pub nothing_else : (text : List ℕ) (head : RequestHead) → IsHeadOf text head → is_served head ≡ false → AsksNothing text
nothing_else text head front refused other is =
    let same = request_unique text other head is.rest front.rest is.reads front.reads in
    subst (λ (h : RequestHead). is_served h ≡ false) (sym same.0) refused
