-- Calls that run the items of batches, as `serve_by` takes them.
use Rattle.std.specs.Prelude.{◌≡◌, ◌≤◌, List, length, Result, IfOk}
use Rattle.std.specs.List.{AllByRecursion}
use denote.Ref.{MutBor}
use denote.Param.Members.{Shared}
use Rattle.flux_values.specs.declared.failures.Memory.{Memory}
use Rattle.flux_model.specs.declared.items.Item.{Item}
use Rattle.flow_model.specs.declared.journals.Journal.{Journal}
use Rattle.flow_model.specs.CellsAfter.{cells_after}
use Rattle.flow_model.specs.Legal.{IsLegal, IsWhole}
use Rattle.flux_cells.specs.Kept.{Kept, cells_of}
use Rattle.flux_batches.specs.Links.{IsLinkItem}
use Rattle.flux_serve.specs.Orders.{IsInOrder}
use Rattle.flux_serve.specs.Batches.{Service, batch_setup}

-- a journal that is legal and whole for these items from these cells, and in the order that is
-- served; and the cells after it
pub record IsRun (service : Service) (opening : Kept) (items : List Item) (run : Journal × Kept)
    : Type 0 where
  pub legal : let journal = run.0 in
      IsLegal (batch_setup service (cells_of opening) items) journal.entries
  pub whole : let journal = run.0 in
      IsWhole (batch_setup service (cells_of opening) items) journal.entries
  pub order : let journal = run.0 in
      IsInOrder service.order (batch_setup service (cells_of opening) items) journal.entries
  pub cells_ : let journal = run.0 in
      cells_of run.1 ≡ cells_after (batch_setup service (cells_of opening) items) journal.entries

module _ {F S : Type 0} (g : Shared F (MutBor S × (List Item × (Kept × Unit {0})))
    (Result (Journal × Kept) Memory × (MutBor S × Unit {0}))) (f : F) where
  -- the call may be made in this state, of the items of a batch
  abbrev pub MayRun : S → Type 0
  MayRun state = (p : MutBor S) (items : List Item) (opening : Kept) → p.now ≡ state
      → AllByRecursion IsLinkItem items → length items ≤ 4096 → g.pre f (p, (items, (opening, tt)))

  -- it gives a run, unless memory was short, and may be made again
  pub record HasRunItems (service : Service) (opening : Kept) (items : List Item) (state : S)
      (result : Result (Journal × Kept) Memory) : Type 0 where
    pub again : MayRun state
    pub run : IfOk result (IsRun service opening items)

  -- and so does each call
  abbrev pub Runs : Service → Type 0
  Runs service = (p p' : MutBor S) (items : List Item) (opening : Kept)
      (result : Result (Journal × Kept) Memory) → AllByRecursion IsLinkItem items
      → length items ≤ 4096 → g.post f (p, (items, (opening, tt))) (result, (p', tt))
      → HasRunItems service opening items p'.now result
