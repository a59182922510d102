use Rattle.std.proofs.Common.{◌≡◌, sym, subst}
use Rattle.std.specs.Prelude.{All}
use Rattle.std.proofs.lemmas.List.Elements.{All-push}
use Rattle.rt_pool.specs.declared.desks.Place.{Place}
use Rattle.rt_pool.proofs.desks.Desk.new.Goals as goal

pub loop-flow-preserved : goal.loop-flow-preserved
loop-flow-preserved g c =
    let Fits : Place → Type 0 = λ place. place.pass.queue ≡ c.in_ok-queue.queue in (
      c.new_place-kept.ensures.spare,
      subst (All Fits) (sym c.in_ok-push.ensures.items)
          (All-push Fits c.loop-flow.places.items c.new_place-kept.result.1 c.loop-flow.invariant.1
          c.new_place-kept.ensures.place),
    )
