use Rattle.std.proofs.Common.{◌≡◌, ◌++◌, length, reverse}
use Rattle.flux_journal.specs.steps.Paged.{text_of}
use Rattle.flux_journal.proofs.pages.Pages.from_last.Given as goal

abbrev pub invariant-pages : goal.invariant-pages
invariant-pages l = l.pages ++ text_of (reverse l.later) ≡ l.fn.first ++ text_of (reverse l.fn.later)

abbrev pub decreases-pages : goal.decreases-pages
decreases-pages l = length l.later
