use Rattle.std.proofs.Common.{◌≡◌, ◌<◌, ◌++◌, length, reverse}
use Rattle.std.specs.List.{flat_map}
use Rattle.flow_model.specs.Texts.{printed_entry}
use Rattle.flux_journal.specs.steps.Paged.{text_of}
use Rattle.flux_journal.proofs.paging.print_later.Given as goal

abbrev pub invariant-pages : goal.invariant-pages
invariant-pages l =
    (0 < l.lines) × (flat_map (printed_entry l.phrases) l.entries ++ text_of (reverse l.pages) ≡ flat_map (printed_entry l.phrases) l.fn.entries)

abbrev pub decreases-pages : goal.decreases-pages
decreases-pages l = length l.entries
