-- What a line spells is an entry of the program.
use Rattle.std.proofs.Common.{ℕ, List, [], ◌∷◌, ◌++◌, arith, Option, Some, None, codes}
use Rattle.std.specs.List.{AllByRecursion}
use Rattle.flux_values.specs.declared.values.Value.{Value}
use Rattle.flux_values.specs.declared.values.Value.TheVariants.{Text}
use Rattle.flux_values.specs.declared.answers.CallResult.{CallResult}
use Rattle.flux_values.specs.declared.answers.CallResult.TheVariants as results
use Rattle.flux_values.specs.declared.answers.Put.{Put}
use Rattle.flux_values.specs.declared.texts.TheConstants.{EMISSION_LIMIT, TEXT_LIMIT}
use Rattle.flux_values.specs.Reading.{IsValue}
use Rattle.flux_model.specs.declared.programs.Program.{Program}
use Rattle.flow_model.specs.declared.journals.CallMade.{CallMade}
use Rattle.flow_model.specs.declared.journals.Event.{Event}
use Rattle.flow_model.specs.declared.journals.Event.TheVariants as events
use Rattle.flow_model.specs.declared.journals.Entry.{Entry}
use Rattle.flow_model.specs.declared.journals.Journal.{Journal}
use Rattle.flux_journal.specs.Entries.{IsNodeOf, IsResult, IsTextOf, IsValueOrNone, IsPutOf, IsCallOf, IsEventOf, AreEntriesOf}
use Rattle.flux_journal.specs.Spelled.{BeginEach, BeginsValue, BeginsNext, BeginClosed, BeginValues, BeginsResult, BeginsChange, BeginsPut, IsEmission, IsCallText, IsEventText}
use Rattle.flux_journal.specs.Journals.{event_lines, AreEntryLines, ReadsAs}

-- ---- calls

each_value : (vs : List Value) (text rest : List ℕ) → BeginEach BeginsNext text vs rest → AllByRecursion IsValue vs
each_value [] text rest each = tt
each_value (v ∷ vs) text rest each = let next = each.part in let value = next.then_ in let s = value.spells in (s.is_value, each_value vs each.rest rest each.then_)

closed_values : (vs : List Value) (text rest : List ℕ) → BeginClosed text vs rest → AllByRecursion IsValue vs
closed_values [] text rest closed = tt
closed_values (v ∷ vs) text rest closed = let value = closed.part in let s = value.spells in (s.is_value, each_value vs closed.rest (codes ")" ++ rest) closed.then_)

are_values : (vs : List Value) (text rest : List ℕ) → BeginValues text vs rest → AllByRecursion IsValue vs
are_values vs text rest begin = closed_values vs begin.rest rest begin.then_

is_result : (r : CallResult) (text rest : List ℕ) → BeginsResult text r rest → IsResult r
is_result (results.Good vs) text rest begins = are_values vs begins.rest rest begins.then_
is_result (results.Bad code) text rest begins = let c = begins.then_ in c.small

name_is : (text name rest : List ℕ) → BeginsValue text (Text name) rest → IsTextOf TEXT_LIMIT name
name_is text name rest begins = let s = begins.spells in let is = s.is_value in record { each = is.0; few = is.1 }

change_is : (p : Program) (put : Put) (v : Option Value) (text rest : List ℕ) → BeginsChange text put.cell put.name v rest → IsTextOf TEXT_LIMIT put.name × IsValueOrNone v
change_is p put None text rest change = let b = change.then_ in (name_is b.rest put.name rest b.then_, tt)
change_is p put (Some v) text rest change =
    let b = change.then_ in
    let n = b.then_ in
    let y = n.then_ in
    let value = y.then_ in
    let s = value.spells in
    (name_is b.rest put.name n.rest n.part, s.is_value)

are_puts : (p : Program) (puts : List Put) (text rest : List ℕ) → BeginEach (BeginsPut p) text puts rest → AllByRecursion (IsPutOf p) puts
are_puts p [] text rest each = tt
are_puts p (put ∷ puts) text rest each =
    let begins = each.part in
    let c = change_is p put put.value text each.rest begins.change in
    (record { cell = begins.cell; name = c.0; value = c.1 }, are_puts p puts each.rest rest each.then_)

is_emission : (text bytes : List ℕ) → IsEmission text bytes → IsTextOf EMISSION_LIMIT bytes
is_emission text [] is = record { each = λ k d lt. absurd (omega arith); few = omega arith }
is_emission text (b ∷ bytes) is = let t = is.then_ in t.1

call_entered : (p : Program) (text : List ℕ) (made : CallMade) → IsNodeOf p made.node → IsCallText p text made → IsCallOf p made
call_entered p text made node call = record {
  node = node;
  args = are_values made.args text _ call.args;
  result_ = is_result made.answer.result call.result_text call.puts_text call.result_;
  puts = are_puts p made.answer.puts call.puts_text call.emission_text call.puts;
  emits = is_emission call.emission_text made.answer.emits call.emission;
}

-- ---- entries

event_entered : (p : Program) (text : List ℕ) (event : Event) → IsEventText p text event → IsEventOf p event
event_entered p text (events.Take key mode) is = is.0
event_entered p text (events.Wait key mode) is = is.0
event_entered p text (events.Enter node) is = is.0
event_entered p text (events.Choose place) is = is.0
event_entered p text (events.Call made) is = let b = is.1 in call_entered p b.rest made is.0 b.then_
event_entered p text (events.Exit node outcome) is = (is.0, is.1)
event_entered p text (events.Drop key) is = is.0
event_entered p text (events.End outcome) is = is.0

lines_entered : (p : Program) (lines : List (List ℕ)) (entries : List Entry) → AreEntryLines p lines entries → AreEntriesOf p entries
lines_entered p lines [] are = tt
lines_entered p [] (entry ∷ entries) are = absurd are
lines_entered p (line ∷ lines) (entry ∷ entries) are =
    let is = are.0 in
    (record { flow = is.flow; event_ = event_entered p is.event_text entry.event is.event_ }, lines_entered p lines entries are.1)

pub journal_entries : (p : Program) (text : List ℕ) (journal : Journal) → ReadsAs p text journal → AreEntriesOf p journal.entries
journal_entries p text journal reads = lines_entered p (event_lines text) journal.entries reads.lines
