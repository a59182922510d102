use Rattle.std.proofs.Common.{◌≡◌, true, false, sym, ◌∙◌}
use Rattle.flux_cli.proofs.Numbers.{script_given, threaded_read, runtime_told}
use Rattle.flux_cli.proofs.values.is_runtime.Goals as goal

pub returns-in-Some-strip : goal.returns-in-Some-strip
returns-in-Some-strip c = rw c.in-Some.is (script_given c.in-Some.value.now c.in-Some-strip.list.now c.in-Some-strip.ensures.found c.are_numbers.result c.are_numbers.ensures)

pub returns-in-None : goal.returns-in-None
returns-in-None c = rw (c.in-Some.is, c.is_some.ensures) (runtime_told c.in-Some.value.now c.read_threaded.result (threaded_read c.in-Some.value.now c.read_threaded.result
    (λ e. let told = rw (e, c.as_slice.ensures) at c.eq.ensures in let no : true ≡ false = sym told ∙ c.if-eq.false in absurd cc)
    c.in-None.ensures.none c.read_threaded.ensures))
