-- Calls that drive batches, one after another. No promise cites it.
use Rattle.std.specs.Prelude.{◌≡◌, ℕ, ◌+◌, ◌^◌, ◌<◌, ◌≤◌, Result, IfOk, IfErr}
use denote.Ref.{MutBor}
use denote.Param.Members.{Shared}
use Rattle.flow_model.specs.Keys.{Cells}
use Rattle.flux_cells.specs.Kept.{Kept, cells_of}
use Rattle.flux_outside.specs.Streams.{Stream}
use Rattle.flux_doors.specs.declared.framing.Framing.{Framing}
use Rattle.flux_doors.specs.Seen.{SeenLink, SeenDoor, IsLater}
use Rattle.flux_serve.specs.declared.batches.Run.{Run}
use Rattle.flux_serve.specs.declared.batches.ServeEnd.{ServeEnd}
use Rattle.flux_serve.specs.Batches.{Service}
use Rattle.flux_serve.specs.Ends.{Sight, sight_of}
use Rattle.flux_serve.specs.steps.Batches.{HasRun, IsNone, IsNoneAtOnce}

-- what is seen of doors and of their links, and how many links are out
pub record Tells (D L : Type 0) : Type 0 where
  pub see : L → SeenLink
  pub seen : D → SeenDoor L
  pub out : D → ℕ

abbrev pub tells_by : {D L : Type 0} → (L → SeenLink) → (D → SeenDoor L) → (D → ℕ) → Tells D L
tells_by see seen out = record { see = see; seen = seen; out = out }

-- how it ends where no batch is driven whole: before it is begun; or memory ran out in it
abbrev pub ends_before : {L : Type 0} → (L → SeenLink) → Framing → Cells → ℕ → Sight L → Sight L
    → ServeEnd → Type 0
ends_before see framing opening number before after end = IsNone see framing before after end

abbrev pub ends_at_once : {L : Type 0} → (L → SeenLink) → Service → Cells → ℕ → Sight L → Sight L
    → ServeEnd → Type 0
ends_at_once see service opening number before after end =
    IsNoneAtOnce see service opening number before after end

module _ {F S D L : Type 0} (g : Shared F (MutBor S × (MutBor D × (Kept × (ℕ × Unit {0}))))
    (Result Run ServeEnd × (MutBor S × (MutBor D × Unit {0})))) (f : F) (tells : Tells D L) where
  -- the call may be made in this state
  abbrev pub MayDrive : S → Type 0
  MayDrive state = (p : MutBor S) (q : MutBor D) (opening : Kept) (number : ℕ) → p.now ≡ state
      → tells.out q.now ≡ 0 → number + 64 < 2 ^ 63 → g.pre f (p, (q, (opening, (number, tt))))

  module _ (Ends : Cells → ℕ → Sight L → Sight L → ServeEnd → Type 0) (service : Service) where
    -- it drives the next batch, or ends so, and may be made again
    pub record HasDrivenNext (opening : Kept) (number : ℕ) (before after : D) (state : S)
        (result : Result Run ServeEnd) : Type 0 where
      pub again : MayDrive state
      pub out_ : tells.out after ≡ 0
      pub open_ : (tells.seen after).open_at ≡ (tells.seen before).open_at
      pub later : IsLater (tells.seen before) (tells.seen after)
      pub bound : IfOk result (λ run. run.next ≤ number + 64)
      pub ran : (log : Stream) → IfOk result (HasRun tells.see service (cells_of opening) number
          (sight_of (tells.seen before) log) (sight_of (tells.seen after) log))
      pub none : (log : Stream) → IfErr result (Ends (cells_of opening) number
          (sight_of (tells.seen before) log) (sight_of (tells.seen after) log))

    -- and so does each call
    abbrev pub Drives : Type 0
    Drives = (p p' : MutBor S) (q q' : MutBor D) (opening : Kept) (number : ℕ)
        (result : Result Run ServeEnd) → tells.out q.now ≡ 0 → number + 64 < 2 ^ 63
        → g.post f (p, (q, (opening, (number, tt)))) (result, (p', (q', tt)))
        → HasDrivenNext opening number q.now q'.now p'.now result
