use Rattle.std.proofs.Common.{sym, subst, ◌∙◌}
use Rattle.flux_model.specs.Names.{IsNamed}
use Rattle.flux_model.specs.Kinds.{kinds_at}
use Rattle.flux_model.specs.declared.programs.Program.{Program}
use Rattle.flux_compile.proofs.Apart.{sound_apart}
use Rattle.trial_programs.specs.Made.{IsMadeOf}
use Rattle.trial_programs.proofs.Made.{may_run}
use Rattle.trial_programs.proofs.building.set_up.Goals as goal

pub compile-requires : goal.compile-requires
compile-requires g c = record { apart = sound_apart _ _ _ c.in_ok-checked.ensures.sound }

pub returns-clause-run : goal.returns-clause-run
returns-clause-run g c =
    let checked = c.in_ok-checked.checked in
    may_run g.L.Meaning.meaning checked.program c.in_ok-plans.plans c.in_ok-items.items c.args.library
    c.in_ok-setup.setup
    (subst (λ (p : Program). IsMadeOf p c.in_ok-plans.plans c.in_ok-items.items c.args.library c.in_ok-setup.setup)
    c.program_of.ensures c.in_ok-setup.ensures)
    (record {
      kinds = kinds_at checked.sigs.nodes;
      sound = c.in_ok-checked.ensures.sound;
      fit = c.in_ok-items.ensures.fit;
      few = c.in_ok-items.ensures.few;
      plans_ = c.in_ok-plans.ensures.plans;
    })

pub returns-clause-named : goal.returns-clause-named
returns-clause-named g c =
    subst IsNamed (sym (c.in_ok-setup.ensures.program_ ∙ c.program_of.ensures)) c.in_ok-checked.ensures.named
