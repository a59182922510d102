-- A core that a chosen runtime has driven to its end is driven in the order that the words name.
use Rattle.std.proofs.Common.{◌≡◌, List, [], refl}
use Rattle.flux_values.specs.Meanings.{LibraryMeaning}
use Rattle.flow_model.specs.declared.journals.Entry.{Entry}
use Rattle.flow_model.specs.Setup.{Setup}
use Rattle.flux_cli.specs.declared.values.Runtime.{Runtime}
use Rattle.flux_cli.specs.declared.values.Runtime.TheVariants as words
use Rattle.flux_cli.specs.declared.replies.Replying.TheVariants.{AtEnd}
use Rattle.flux_runs.specs.Orders.{IsOrderOf}
use Rattle.flow_core.specs.States.{CoreState, setup_in}
use Rattle.flow_core.specs.Runs.{GoesToEnd}
use Rattle.rt_all.specs.Orders.{runtime_by, IsOrder}
use Rattle.flux_commands.specs.Driving.{DrivesTo}
use Rattle.flux_driver.specs.Serving as serving
use Rattle.flux_driver.specs.steps.Orders.{KeepsOrder}

order_of : (runtime : Runtime) (setup : Setup) (old new : List Entry) → IsOrder (runtime_by runtime) setup old new
    → IsOrderOf runtime setup old new
order_of words.Event setup old new order = order refl
order_of (words.EventWithHelpers helpers) setup old new order = tt
order_of (words.Script numbers) setup old new order = order
order_of words.PerFlow setup old new order = tt
order_of (words.Pool workers) setup old new order = tt

-- and so does each batch
pub keeps-order : (runtime : Runtime) → KeepsOrder (runtime_by runtime) (serving.order_of (AtEnd runtime))
keeps-order words.Event setup entries order = order refl
keeps-order (words.EventWithHelpers helpers) setup entries order = tt
keeps-order (words.Script numbers) setup entries order = order
keeps-order words.PerFlow setup entries order = tt
keeps-order (words.Pool workers) setup entries order = tt

module _ {L : Type 0} (meaning : L → LibraryMeaning) (runtime : Runtime) (old new : CoreState L) where
  abbrev own : Setup
  own = setup_in meaning old

  pub driven_to : old.entries ≡ [] → GoesToEnd meaning old new
      → IsOrder (runtime_by runtime) own old.entries new.entries → DrivesTo meaning runtime old new
  driven_to empty goes order = let on = goes.legally.on in let same = on.setup_ in record {
    setup_ = same;
    driven = record {
      legal = rw same at goes.legally.legal;
      whole = rw same at goes.whole;
      order = order_of runtime own [] new.entries (rw empty at order);
    };
  }
