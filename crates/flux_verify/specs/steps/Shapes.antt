-- What the code has read of a segment.
use Rattle.std.specs.Prelude.{reverse}
use Rattle.flux_verify.specs.declared.shapes.Reading as code
use Rattle.flux_verify.specs.declared.shapes.Reading.TheVariants.{Taking, Entered, Between, Within, Dropping, Handling, Closing, Whole}
use Rattle.flux_plan.specs.Reading.{Reading, taking, entered, between, within, dropping, handling, closing, whole}

-- the code has the latest class last
abbrev pub reading_of : code.Reading → Reading
reading_of (Taking classes) = taking (reverse classes)
reading_of (Entered classes) = entered (reverse classes)
reading_of (Between arms classes) = between arms.now (reverse classes)
reading_of (Within arms classes) = within arms.now (reverse classes)
reading_of (Dropping classes) = dropping (reverse classes)
reading_of Handling = handling
reading_of Closing = closing
reading_of Whole = whole
