-- Where a flow's emissions are among some entries. No promise cites it.
use Rattle.std.specs.Prelude.{◌≡◌, ℕ, ◌+◌, ◌<◌, ◌≤◌, ◌==◌, if◌then◌else◌, List, [], length, take}
use Rattle.std.specs.Prelude.{drop}
use Rattle.std.specs.List.{slice_index_or}
use Rattle.flow_model.specs.declared.journals.Entry.{Entry}
use Rattle.flux_batches.specs.declared.spans.Span.{Span}
use Rattle.flux_batches.specs.Replies.{reply_of}

-- before a span and after it a flow emits nothing
pub record IsSpan (entries : List Entry) (flow : ℕ) (span : Span) : Type 0 where
  pub before : reply_of flow (take span.from entries) ≡ []
  pub behind : reply_of flow (drop span.to entries) ≡ []
  pub order : span.from ≤ span.to
  pub within : span.to ≤ length entries

-- each flow has its span
abbrev pub AreSpans : List Entry → List Span → Type 0
AreSpans entries spans = (flow : ℕ) (default : Span) → flow < length spans
    → IsSpan entries flow (slice_index_or spans flow default)

-- a span with one place more, after all of its places
abbrev pub span_with : Span → ℕ → Span
span_with span place =
    record { from = (if span.to == 0 then place else span.from); to = place + 1 }
