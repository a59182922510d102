-- Sections in conflict never overlap, where flows follow their walks and takes exclude.
use Rattle.std.proofs.Common.{◌≡◌, ◌<◌, ℕ, false, List, length, Option, Some, None, refl, ◌∙◌}
use Rattle.std.proofs.lemmas.Option.{slice_get_within}
use Rattle.flux_values.specs.declared.answers.Mode.{Mode}
use Rattle.flux_model.specs.declared.items.Item.{Item}
use Rattle.flow_model.specs.declared.journals.Key.{Key}
use Rattle.flow_model.specs.declared.journals.Entry.{Entry}
use Rattle.flow_model.specs.Setup.{Setup, item_of}
use Rattle.flux_model.specs.Modes.{conflict}
use Rattle.flow_model.specs.CellsAfter.{key_for}
use Rattle.flow_model.specs.Events.{own_events}
use Rattle.flow_model.specs.Exclusion.{IsInSection}
use Rattle.flux_laws.specs.Sections.{SectionsNeverConflict}
use Rattle.flux_laws.proofs.Conflicts.{conflict-turned, conflict-less}
use Rattle.flux_laws.proofs.Apart.{are_apart, takes_exclude-front}
use Rattle.flux_laws.proofs.OnWalk.{AreOnWalk, on_walk-follows, on_walk-journal_front, section-held}

-- a flow in a section has an item
section-item : (setup : Setup) (entries : List Entry) (flow : ℕ) (key : Key) (mode : Mode) → IsInSection setup entries flow key mode → flow < length setup.items
section-item setup entries flow key mode section = by (item_of setup flow) refl section.on
  where
    by : (item : Option Item) → item_of setup flow ≡ item → key_for setup item section.hold.class ≡ Some key → flow < length setup.items
    by None at on = absurd cc
    by (Some item) at on = slice_get_within setup.items flow item at

pub sections_never_conflict : SectionsNeverConflict
sections_never_conflict setup entries are follows excludes before after split flow other key own their ne own_section their_section =
    let (held, held_is, enough) = section-held setup are before flow (on flow own own_section) key own own_section in
    let (there, there_is, much) = section-held setup are before other (on other their their_section) key their their_section in
    let apart : conflict held there ≡ false = are_apart before (takes_exclude-front before after (rw split at excludes)) flow other key held there ne held_is there_is in
    let less : conflict own there ≡ false = conflict-less held own there enough apart in
    conflict-turned own their ∙ conflict-less there their own much (conflict-turned there own ∙ less)
  where
    on : (f : ℕ) (mode : Mode) → IsInSection setup before f key mode → AreOnWalk setup f (own_events before f)
    on f mode section = on_walk-journal_front setup before after f
        (rw split at (on_walk-follows setup entries f (follows f (section-item setup before f key mode section))))
