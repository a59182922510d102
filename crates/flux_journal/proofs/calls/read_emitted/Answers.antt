use Rattle.std.proofs.Common.{sym, ◌∙◌}
use Rattle.flux_journal.proofs.Missing.{emitted_none, emitted_part, emitted_empty, emitted_is, no_bytes, some_bytes}
use Rattle.flux_journal.proofs.calls.read_emitted.Goals as goal

pub returns-in_default : goal.returns-in_default
returns-in_default c = let none = rw c.in_default.is at c.in_ok-bytes.ensures in emitted_none c.args.text.now none

pub returns-then-length-text : goal.returns-then-length-text
returns-then-length-text c =
    let begins = rw c.in-Some.is at c.in_ok-bytes.ensures in
    emitted_part c.args.text.now c.in-Some.bytes c.in-Some.length begins c.if-length-text.true

pub returns-then-is_empty : goal.returns-then-is_empty
returns-then-is_empty c =
    let begins = rw c.in-Some.is at c.in_ok-bytes.ensures in
    emitted_empty c.args.text.now c.in-Some.bytes c.in-Some.length begins (sym c.as_bytes.ensures ∙ no_bytes c.as_bytes.result.now c.if-is_empty.ensures)

pub returns : goal.returns
returns c =
    let begins = rw c.in-Some.is at c.in_ok-bytes.ensures in
    emitted_is c.args.text.now c.in-Some.bytes c.in-Some.length begins c.if-length-text.false (λ empty. some_bytes c.as_bytes.result.now c.if-is_empty.ensures (c.as_bytes.ensures ∙ empty))
