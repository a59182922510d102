-- Frames that are left, entered and moved.
use Rattle.std.proofs.Common.{◌≡◌, ℕ, zero, suc, ◌+◌, ◌<◌, ◌≤◌, List, [], ◌∷◌, ◌++◌, length, get_or, set, take, drop, reverse, refl, sym, ap, ◌∙◌, arith, append_assoc, length-append}
use Rattle.std.specs.Prelude.{insert}
use Rattle.std.proofs.lemmas.List.{reverse-append, length-take-le, take_at}
use Rattle.flux_values.specs.declared.values.Value.{Value}
use Rattle.flux_model.specs.declared.programs.NodeNo.{NodeNo}
use Rattle.flow_model.specs.declared.journals.Outcome.{Outcome}
use Rattle.flow_model.specs.declared.journals.Outcome.TheVariants.{Good}
use Rattle.flux_plan.specs.declared.stacks.Frame.{Frame}
use Rattle.flux_plan.specs.Machine.{State, at_place}
use Rattle.flux_plan.specs.steps.Turns.{with_place, cursor, cursor_on, entered_over}

-- what is inserted, without what comes after it
pub take-insert : {X : Type 0} (xs ys zs : List X) (n : ℕ) (x : X) → n ≤ length xs → ys ≡ insert xs n x → zs ≡ take (n + 1) ys → zs ≡ take n xs ++ x ∷ []
take-insert xs ys zs n x le is all =
    let split : insert xs n x ≡ (take n xs ++ x ∷ []) ++ drop n xs = sym (append_assoc (take n xs) (x ∷ []) (drop n xs)) in
    let long : length (take n xs ++ x ∷ []) ≡ n + 1 = omega (arith, length-append (take n xs) (x ∷ []), length-take-le n xs le) in
    all ∙ ap (take (n + 1)) (is ∙ split) ∙ take_at (take n xs ++ x ∷ []) (drop n xs) (n + 1) long

-- a frame that is written with another place
pub set_place : (frames : List Frame) (index place : ℕ) (frame : Frame) → frame ≡ get_or frames index frame → set frames index (at_place frame place) ≡ with_place frames index place
set_place [] index place frame is = refl
set_place (f ∷ frames) zero place frame is = ap (λ (g : Frame). at_place g place ∷ frames) is
set_place (f ∷ frames) (suc index) place frame is = ap (λ (fs : List Frame). f ∷ fs) (set_place frames index place frame is)

-- frames in front of one that goes to a place
with_place-behind : (front : List Frame) (top : Frame) (behind : List Frame) (place : ℕ) → with_place (front ++ top ∷ behind) (length front) place ≡ front ++ at_place top place ∷ behind
with_place-behind [] top behind place = refl
with_place-behind (f ∷ front) top behind place = ap (λ (fs : List Frame). f ∷ fs) (with_place-behind front top behind place)

record Split (frames : List Frame) : Type 0 where
  front : List Frame
  top : Frame
  is : frames ≡ front ++ top ∷ []

split_last : (frame : Frame) (frames : List Frame) → Split (frame ∷ frames)
split_last frame [] = record { front = []; top = frame; is = refl }
split_last frame (f ∷ frames) = let more = split_last f frames in record { front = frame ∷ more.front; top = more.top; is = ap (λ (fs : List Frame). frame ∷ fs) more.is }

split : (frames : List Frame) → 0 < length frames → Split frames
split [] some = absurd (omega (arith, some))
split (frame ∷ frames) some = split_last frame frames

-- the innermost frame goes to a place
pub moved_last : (frames : List Frame) (index place : ℕ) (values : List Value) (outcome : Outcome) → length frames ≡ index + 1
    → let s : State = record { frames = reverse (with_place frames index place); values = values; outcome = outcome } in s ≡ cursor frames place values outcome
moved_last frames index place values outcome long =
    let own = split frames (omega (arith, long)) in
    let size : length (own.front ++ own.top ∷ []) ≡ length own.front + 1 = length-append own.front (own.top ∷ []) in
    let at : index ≡ length own.front = let same = ap length own.is in omega (arith, long, same, size) in
    let front = ap (λ (fs : List Frame). with_place fs index place) own.is ∙ ap (λ (n : ℕ). with_place (own.front ++ own.top ∷ []) n place) at ∙ with_place-behind own.front own.top [] place in
    let left = ap reverse front ∙ reverse-append own.front (at_place own.top place ∷ []) in
    let right = ap reverse own.is ∙ reverse-append own.front (own.top ∷ []) in
    ap (λ (fs : List Frame). let s : State = record { frames = fs; values = values; outcome = outcome } in s) left
    ∙ sym (ap (λ (fs : List Frame). cursor_on place fs values outcome) right)

-- a node is entered over the innermost frame, which goes to a place
pub entered_last : (frames : List Frame) (index place : ℕ) (node : NodeNo) (inputs : List Value) → length frames ≡ index + 1
    → let frame : Frame = record { node = node; place = 0; inputs = inputs } in
    let s : State = record { frames = reverse (with_place (frames ++ frame ∷ []) index place); values = inputs; outcome = Good } in s ≡ entered_over node inputs place (reverse frames)
entered_last frames index place node inputs long =
    let frame : Frame = record { node = node; place = 0; inputs = inputs } in
    let own = split frames (omega (arith, long)) in
    let size : length (own.front ++ own.top ∷ []) ≡ length own.front + 1 = length-append own.front (own.top ∷ []) in
    let at : index ≡ length own.front = let same = ap length own.is in omega (arith, long, same, size) in
    let shape : frames ++ frame ∷ [] ≡ own.front ++ own.top ∷ frame ∷ [] = ap (λ (fs : List Frame). fs ++ frame ∷ []) own.is ∙ append_assoc own.front (own.top ∷ []) (frame ∷ []) in
    let front = ap (λ (fs : List Frame). with_place fs index place) shape ∙ ap (λ (n : ℕ). with_place (own.front ++ own.top ∷ frame ∷ []) n place) at ∙ with_place-behind own.front own.top (frame ∷ []) place in
    let left = ap reverse front ∙ reverse-append own.front (at_place own.top place ∷ frame ∷ []) in
    let right = ap reverse own.is ∙ reverse-append own.front (own.top ∷ []) in
    ap (λ (fs : List Frame). let s : State = record { frames = fs; values = inputs; outcome = Good } in s) left
    ∙ sym (ap (entered_over node inputs place) right)
