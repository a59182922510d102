use Rattle.std.proofs.Common.{length, sym, subst, ap, ◌∙◌}
use Rattle.flux_model.specs.declared.programs.Program.{Program}
use Rattle.flux_compile.proofs.Apart.{sound_apart}
use Rattle.flow_trials.specs.Ready.{IsOpened}
use Rattle.flow_trials.proofs.Sizes.{small}
use Rattle.flow_trials.proofs.readying.ready_of.Goals as goal

pub compile-requires : goal.compile-requires
compile-requires g c = record { apart = sound_apart _ _ _ c.in_ok-checked.ensures.sound }

pub returns : goal.returns
returns g c =
    let checked = c.in_ok-checked.checked in
    let opened = subst (λ (p : Program). IsOpened p c.in_ok-items.items c.in_ok-core.core) c.program_of.ensures
    c.in_ok-core.ensures in
    record {
      none = opened.none;
      idle = opened.idle;
      costs_ = record {
        each = c.in_ok-costs.ensures.each ∙ c.len.ensures ∙ ap (λ (q : Program). length q.nodes) (sym opened.program_);
        within = c.in_ok-costs.ensures.within;
      };
      sizes = small g.L.Meaning.meaning checked.program checked.sigs.nodes checked.order.nodes checked.sets.nodes
          checked.sizes c.in_ok-items.items c.in_ok-core.core opened checked.keeps
          (c.fit.ensures c.if-not-fit.false);
    }
