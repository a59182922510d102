-- The end of a drive.
use Rattle.std.specs.Prelude.{◌≡◌, Bool}
use Rattle.flux_values.specs.Meanings.{LibraryMeaning}
use Rattle.flow_model.specs.Legal.{IsLegal, IsWhole}
use Rattle.flow_core.specs.States.{CoreState, setup_in}
use Rattle.flow_core.specs.Runs.{SameSetup}

module _ {L : Type 0} (meaning : L → LibraryMeaning) (old : CoreState L) (halted : Bool) (new : CoreState L) where
  -- the same setup and the same journal, which is legal, and this flag
  pub record IsSetBack : Type 0 where
    pub setup_ : SameSetup old new
    pub entries_ : new.entries ≡ old.entries
    pub halted_ : new.halted ≡ halted
    pub legal : IsLegal (setup_in meaning new) new.entries

  -- and whole
  pub record EndsWhole : Type 0 where
    pub back : IsSetBack
    pub whole : IsWhole (setup_in meaning new) new.entries
