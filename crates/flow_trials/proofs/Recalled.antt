-- Calls that are recalled are calls of the core's program.
use Rattle.std.proofs.Common.{◌≡◌, Option, Some, None, ap, ◌∙◌}
use Rattle.std.specs.Option.{option_map}
use Rattle.flux_model.specs.declared.programs.Program.{Program}
use Rattle.flow_core.specs.States.{CoreState, JobState}
use Rattle.flow_core.specs.Moves.{job_of}

module _ {L : Type 0} where
  abbrev program_in : Program → Option (JobState L) → Program
  program_in other None = other
  program_in other (Some job) = job.program

  -- a job that was made of a begun call by a function that gives each this program
  pub program_of_recalled : {X : Type 0} (make : X → JobState L) (program : Program) (begun : Option X) (job : JobState L)
      → ((x : X) → (let made = make x in made.program) ≡ program) → Some job ≡ option_map make begun → job.program ≡ program
  program_of_recalled make program None job all is = absurd cc
  program_of_recalled make program (Some x) job all is = ap (program_in program) is ∙ all x
