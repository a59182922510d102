-- Spans of emissions, entry by entry.
use Rattle.std.proofs.Common.{◌≡◌, ◌≢◌, ℕ, ◌+◌, ◌<◌, ◌≤◌, ◌⊎◌, inl, inr, Bool, true, false, eqb, nat_eq, if◌then◌else◌, List, [], ◌∷◌, ◌++◌, length, length-append, take, drop, get_or, set, refl, sym, ap, ◌∙◌, append_assoc, subst, arith}
use Rattle.std.specs.List.{slice_range}
use Rattle.std.proofs.lemmas.Bool.{cases_eq, eqb-true, eq-eqb, ne_eqb}
use Rattle.std.proofs.lemmas.List.{append-nil, nil_from_length, take_more, take-append-le, drop-append-le, take-append-drop, take_all, get_or-set_same, get_or-set_other, get_or-replicate, length-set, length-replicate, length-take-le}
use Rattle.std.proofs.lemmas.List.Folds.{drop_split}
use Rattle.std.proofs.Math.ListN.{replicate, drop_of_length-le}
use Rattle.flow_model.specs.declared.journals.Entry.{Entry}
use Rattle.flux_batches.specs.declared.spans.Span.{Span}
use Rattle.flux_batches.specs.Replies.{emitted, reply_of}
use Rattle.flux_batches.specs.steps.Spans.{IsSpan, AreSpans, span_with}

-- what an entry emits for a flow
abbrev pub piece_of : ℕ → Entry → List ℕ
piece_of flow entry = if nat_eq entry.flow.0 flow then emitted entry.event else []

reply-append : (flow : ℕ) (xs ys : List Entry) → reply_of flow (xs ++ ys) ≡ reply_of flow xs ++ reply_of flow ys
reply-append flow [] ys = refl
reply-append flow (x ∷ xs) ys =
    ap (λ (l : List ℕ). piece_of flow x ++ l) (reply-append flow xs ys)
    ∙ sym (append_assoc (piece_of flow x) (reply_of flow xs) (reply_of flow ys))

-- what lies within a span is all that the flow emits
pub span-all : (entries : List Entry) (flow : ℕ) (span : Span) → IsSpan entries flow span
    → reply_of flow (slice_range entries span.from span.to) ≡ reply_of flow entries
span-all entries flow span is =
    let inner = reply_of flow (slice_range entries span.from span.to) in
    let whole : reply_of flow entries ≡ reply_of flow (take span.from entries) ++ reply_of flow (drop span.from entries) =
    ap (reply_of flow) (sym (take-append-drop span.from entries))
    ∙ reply-append flow (take span.from entries) (drop span.from entries) in
    let rest : reply_of flow (drop span.from entries) ≡ inner ++ reply_of flow (drop span.to entries) =
    ap (reply_of flow) (drop_split entries span.from span.to is.order)
    ∙ reply-append flow (slice_range entries span.from span.to) (drop span.to entries) in
    sym (whole ∙ ap (λ (l : List ℕ). l ++ reply_of flow (drop span.from entries)) is.before ∙ rest
    ∙ ap (λ (l : List ℕ). inner ++ l) is.behind ∙ append-nil inner)

-- ---- one entry more

module _ (flow : ℕ) (xs : List Entry) (entry : Entry) (span : Span) (is : IsSpan xs flow span) where
  abbrev more : List Entry
  more = xs ++ entry ∷ []

  longer : length more ≡ length xs + 1
  longer = length-append xs (entry ∷ [])

  -- one that emits nothing for the flow
  pub span-silent : piece_of flow entry ≡ [] → IsSpan more flow span
  span-silent none = record {
    before = ap (reply_of flow) (take-append-le span.from xs (entry ∷ []) (omega (arith, is.order, is.within)))
        ∙ is.before;
    behind = ap (reply_of flow) (drop-append-le span.to xs (entry ∷ []) is.within)
        ∙ reply-append flow (drop span.to xs) (entry ∷ [])
        ∙ ap (λ (l : List ℕ). l ++ reply_of flow (entry ∷ [])) is.behind ∙ append-nil (piece_of flow entry) ∙ none;
    order = is.order;
    within = omega (arith, is.within, longer);
  }

  -- one that may
  pub span-more : IsSpan more flow (span_with span (length xs))
  span-more = record {
    before = first (eqb span.to 0) refl;
    behind = ap (reply_of flow) (drop_of_length-le more (omega (arith, longer)));
    order = ordered (eqb span.to 0) refl;
    within = omega (arith, longer);
  }
    where
      first : (none : Bool) → eqb span.to 0 ≡ none
          → reply_of flow (take (if none then length xs else span.from) more) ≡ []
      first true is_none =
          ap (reply_of flow) (take-append-le (length xs) xs (entry ∷ []) (omega arith)
          ∙ take_all (length xs) xs (omega arith))
          ∙ ap (λ n. reply_of flow (drop n xs)) (sym (eqb-true span.to 0 is_none)) ∙ is.behind
      first false is_some =
          ap (reply_of flow) (take-append-le span.from xs (entry ∷ []) (omega (arith, is.order, is.within))) ∙ is.before

      ordered : (none : Bool) → eqb span.to 0 ≡ none → (if none then length xs else span.from) ≤ length xs + 1
      ordered true is_none = omega arith
      ordered false is_some = omega (arith, is.order, is.within)

-- ---- all flows

-- no entry yet
pub spans-none : (entries : List Entry) (count : ℕ) → AreSpans (take 0 entries) (replicate count (record { from = 0; to = 0 }))
spans-none entries count flow default below =
    subst (IsSpan [] flow) (sym (get_or-replicate count flow (record { from = 0; to = 0 }) default (omega (arith, below, sizes count))))
    (record { before = refl; behind = refl; order = omega arith; within = omega arith })
  where
    sizes : (n : ℕ) → length (replicate {A = Span} n (record { from = 0; to = 0 })) ≡ n
    sizes n = length-replicate n (record { from = 0; to = 0 })

module _ (entries : List Entry) (entry : Entry) (spans : List Span) (are : AreSpans entries spans) where
  other : (flow : ℕ) → entry.flow.0 ≢ flow → piece_of flow entry ≡ []
  other flow apart = ap (λ same. if same then emitted entry.event else []) (ne_eqb entry.flow.0 flow apart)

  -- an entry that emits nothing, or is of a flow that has no span
  pub spans-silent : ((flow : ℕ) → flow < length spans → entry.flow.0 ≡ flow → emitted entry.event ≡ [])
      → AreSpans (entries ++ entry ∷ []) spans
  spans-silent none flow default within =
      span-silent flow entries entry (get_or spans flow default) (are flow default within) (by (cases_eq entry.flow.0 flow))
    where
      by : (entry.flow.0 ≡ flow) ⊎ (entry.flow.0 ≡ flow → ⊥) → piece_of flow entry ≡ []
      by (inr apart) = other flow apart
      by (inl same) = when (nat_eq entry.flow.0 flow)
        where
          when : (b : Bool) → (if b then emitted entry.event else []) ≡ []
          when true = none flow within same
          when false = refl

  -- one of a flow that has
  pub spans-more : (own new : Span) (place : ℕ) → entry.flow.0 < length spans
      → new ≡ span_with (get_or spans entry.flow.0 own) place → length entries ≡ place
      → AreSpans (entries ++ entry ∷ []) (set spans entry.flow.0 new)
  spans-more own new place has is size flow default within = by (cases_eq entry.flow.0 flow)
    where
      there : flow < length spans
      there = omega (arith, within, length-set spans entry.flow.0 new)

      by : (entry.flow.0 ≡ flow) ⊎ (entry.flow.0 ≡ flow → ⊥)
          → IsSpan (entries ++ entry ∷ []) flow (get_or (set spans entry.flow.0 new) flow default)
      by (inl same) =
          let old = get_or spans entry.flow.0 own in
          let grows = span-more entry.flow.0 entries entry old (are entry.flow.0 own has) in
          let P : ℕ → Type 0 = λ f. IsSpan (entries ++ entry ∷ []) f (get_or (set spans entry.flow.0 new) f default) in
          subst P same (subst (IsSpan (entries ++ entry ∷ []) entry.flow.0)
          (sym (get_or-set_same spans entry.flow.0 new default has ∙ is ∙ ap (span_with old) (sym size))) grows)
      by (inr apart) =
          subst (IsSpan (entries ++ entry ∷ []) flow)
          (sym (get_or-set_other spans entry.flow.0 flow new default (λ same. apart (sym same))))
          (span-silent flow entries entry (get_or spans flow default) (are flow default there) (other flow apart))

-- what an entry emits for its own flow is nothing, where that is empty
pub silent-own : (entry : Entry) (piece : List ℕ)
    → piece ≡ (if nat_eq entry.flow.0 entry.flow.0 then emitted entry.event else []) → eqb (length piece) 0 ≡ true
    → emitted entry.event ≡ []
silent-own entry piece is none =
    let all : piece ≡ emitted entry.event =
    is ∙ ap (λ own. if own then emitted entry.event else []) (eq-eqb entry.flow.0 entry.flow.0 refl) in
    sym all ∙ nil_from_length piece (eqb-true (length piece) 0 none)

-- the first entries, with one more
pub spans-next : (entries : List Entry) (place : ℕ) (entry : Entry) (old new : List Span) → place < length entries
    → entry ≡ get_or entries place entry → AreSpans (take place entries) old
    → ((es : List Entry) → length es ≡ place → AreSpans es old → AreSpans (es ++ entry ∷ []) new)
    → AreSpans (take (place + 1) entries) new
spans-next entries place entry old new below is are grows =
    let grown : take (place + 1) entries ≡ take place entries ++ entry ∷ [] =
    take_more entries place entry below ∙ ap (λ (e : Entry). take place entries ++ e ∷ []) (sym is) in
    subst (λ es. AreSpans es new) (sym grown)
    (grows (take place entries) (length-take-le place entries (omega (arith, below))) are)
