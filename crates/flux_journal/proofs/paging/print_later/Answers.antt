use Rattle.std.proofs.Common.{◌∙◌}
use Rattle.flow_model.specs.Texts.{printed_entry}
use Rattle.flux_journal.proofs.Paged.{printed_last}
use Rattle.flux_journal.proofs.paging.print_later.Goals as goal

pub pages-preserved : goal.pages-preserved
pages-preserved c =
    let made = printed_last (printed_entry c.args.phrases.now) c.pages.entries c.print_last.new.entries _ c.in_ok-page.page c.pages.pages c.add.new.self c.in_ok-page.ensures.left c.in_ok-page.ensures.text c.in_ok-add.ensures.added in
    (c.lines_in_page-lines.ensures, made ∙ c.pages.invariant.1)
