-- No line end is in the printed line of an entry.
use Rattle.std.proofs.Common.{◌≡◌, ◌≢◌, ℕ, ◌<◌, ◌^◌, Bool, true, false, eqb, List, [], ◌∷◌, ◌++◌, Option, Some, None, codes, refl, sym, subst, arith}
use Rattle.std.specs.List.{AllByRecursion, concat, flat_map, slice_get}
use Rattle.std.specs.Char.{digit_value}
use Rattle.std.specs.Str.Parse.{AllDigits}
use Rattle.std.specs.Fmt.{decimal}
use Rattle.std.proofs.lemmas.Bool.Decides.{nat_tests}
use Rattle.std.proofs.lemmas.Fmt.{decimal_is_IsNumeral}
use Rattle.std.proofs.lemmas.Str.Parse.{digit_from_value}
use Rattle.flux_values.specs.declared.values.Value.{Value}
use Rattle.flux_values.specs.declared.values.Value.TheVariants as values
use Rattle.flux_values.specs.declared.answers.CallResult.{CallResult}
use Rattle.flux_values.specs.declared.answers.CallResult.TheVariants as results
use Rattle.flux_values.specs.declared.answers.Mode.{Mode}
use Rattle.flux_values.specs.declared.answers.Mode.TheVariants.{Reader, Writer}
use Rattle.flux_values.specs.declared.answers.Put.{Put}
use Rattle.flux_values.specs.declared.texts.TheConstants.{EMISSION_LIMIT, TEXT_LIMIT}
use Rattle.flux_values.specs.Reading.{IsValue}
use Rattle.flux_values.specs.Texts.{printed_value, printed_text}
use Rattle.flux_values.specs.Spellings.{minus, escaped, SpellsByte, SpellEach, SpellsText, Spells}
use Rattle.flux_spelling.proofs.Causes.{printed_spells, printed_text_spells}
use Rattle.flux_model.specs.declared.programs.Program.{Program}
use Rattle.flux_model.specs.declared.programs.Class.{Class}
use Rattle.flow_model.specs.declared.journals.Key.{Key}
use Rattle.flow_model.specs.declared.journals.Outcome.{Outcome}
use Rattle.flow_model.specs.declared.journals.Outcome.TheVariants as outcomes
use Rattle.flow_model.specs.declared.journals.CallMade.{CallMade}
use Rattle.flow_model.specs.declared.journals.Event.{Event}
use Rattle.flow_model.specs.declared.journals.Event.TheVariants as events
use Rattle.flux_model.specs.Names.{IsNamed}
use Rattle.flux_model.specs.Texts.{node_name, class_name, printed_values, printed_mode}
use Rattle.flow_model.specs.Texts.{printed_session, printed_key, printed_result, printed_change, printed_put, printed_emission, printed_call, printed_exit, printed_end, printed_event}
use Rattle.flux_journal.specs.Entries.{IsKeyIn, IsKeyOf, HasSession, IsOutcome, IsResult, IsTextOf, IsCellOf, IsPutOf, IsCallOf, IsEventOf, IsValueOrNone}
use Rattle.flux_journal.specs.steps.Cuts.{HasNone}
use Rattle.flux_journal.specs.steps.Listed.{listed}
use Rattle.flux_journal.proofs.ValueLists.{more, listed_more}
use Rattle.flux_journal.proofs.Keying.{class_clean}
use Rattle.flux_journal.proofs.Worded.{clean_by}
use Rattle.flux_journal.proofs.Lined.{node_free}

pub both_clean : (m : ℕ) (a b : List ℕ) → HasNone m a → HasNone m b → HasNone m (a ++ b)
both_clean m [] b first second = second
both_clean m (c ∷ a) b first second = (first.0, both_clean m a b first.1 second)

-- ---- numbers

digits_clean : (ds : List ℕ) → AllDigits 10 ds → HasNone 10 ds
digits_clean [] all = tt
digits_clean (d ∷ ds) all = let r = digit_from_value d all.0 in (let other : d ≢ 10 = omega arith in grind (arith, nat_tests), digits_clean ds all.1)

pub decimal_clean : (n : ℕ) → n < 2 ^ 64 → HasNone 10 (decimal n)
decimal_clean n small = let d = decimal_is_IsNumeral n small in digits_clean (decimal n) d.0.1

-- ---- values

no_line_end : (b : ℕ) → b ≢ 10 → eqb b 10 ≡ false
no_line_end b other = grind (arith, nat_tests)

piece_clean : (piece : List ℕ) (byte : ℕ) → SpellsByte piece byte → HasNone 10 piece
piece_clean [] byte s = tt
piece_clean (raw ∷ []) byte s = (no_line_end raw s.3, tt)
piece_clean (mark ∷ letter ∷ []) byte s =
    (no_line_end mark (λ e. let n = s.0 in omega (arith, e)), (no_line_end letter (λ e. let none : None ≡ Some byte = subst (λ (l : ℕ). escaped l ≡ Some byte) e s.1 in cc), tt))
piece_clean (mark ∷ letter ∷ high ∷ []) byte s = absurd s
piece_clean (mark ∷ letter ∷ high ∷ low ∷ []) byte s = (
  no_line_end mark (λ e. let n = s.0 in omega (arith, e)),
  (
    no_line_end letter (λ e. let n = s.1 in omega (arith, e)),
    (
      no_line_end high (λ e. let n = subst (λ (h : ℕ). digit_value h < 16) e s.2 in omega arith),
      (no_line_end low (λ e. let n = subst (λ (h : ℕ). digit_value h < 16) e s.3 in omega arith), tt),
    ),
  ),
)
piece_clean (mark ∷ letter ∷ high ∷ low ∷ other ∷ rest) byte s = absurd s

pieces_clean : (pieces : List (List ℕ)) (text : List ℕ) → SpellEach pieces text → HasNone 10 (concat pieces)
pieces_clean [] text s = tt
pieces_clean (piece ∷ pieces) [] s = absurd s
pieces_clean (piece ∷ pieces) (b ∷ text) s = both_clean 10 piece (concat pieces) (piece_clean piece b s.0) (pieces_clean pieces text s.1)

text_spelling_clean : (spelling text : List ℕ) → SpellsText spelling text → HasNone 10 spelling
text_spelling_clean spelling text s =
    let o = s.opens in
    subst (HasNone 10) (sym s.closed) (both_clean 10 s.opened (34 ∷ []) (subst (HasNone 10) (sym o.laid) (refl, pieces_clean o.pieces text o.each)) (refl, tt))

sign_clean : (negative : Bool) → HasNone 10 (minus negative)
sign_clean true = (refl, tt)
sign_clean false = tt

spelling_clean : (spelling : List ℕ) (v : Value) → Spells spelling v → HasNone 10 spelling
spelling_clean spelling (values.Int z) s = let f = s.form in subst (HasNone 10) (sym f.laid) (both_clean 10 (minus f.negative) f.digits (sign_clean f.negative) (digits_clean f.digits f.numeral.1))
spelling_clean spelling (values.Bool true) s = subst (HasNone 10) (sym s.form) (clean_by 10 (codes "true") refl)
spelling_clean spelling (values.Bool false) s = subst (HasNone 10) (sym s.form) (clean_by 10 (codes "false") refl)
spelling_clean spelling (values.Text t) s = text_spelling_clean spelling t s.form

value_clean : (v : Value) → IsValue v → HasNone 10 (printed_value v)
value_clean v is = spelling_clean (printed_value v) v (printed_spells v is)

more_clean : (vs : List Value) → AllByRecursion IsValue vs → HasNone 10 (more vs)
more_clean [] all = tt
more_clean (v ∷ vs) all = (refl, (refl, both_clean 10 (printed_value v) (more vs) (value_clean v all.0) (more_clean vs all.1)))

listed_clean : (vs : List Value) → AllByRecursion IsValue vs → HasNone 10 (listed vs)
listed_clean [] all = tt
listed_clean (v ∷ vs) all = subst (HasNone 10) (sym (listed_more v vs)) (both_clean 10 (printed_value v) (more vs) (value_clean v all.0) (more_clean vs all.1))

values_clean : (vs : List Value) → AllByRecursion IsValue vs → HasNone 10 (printed_values vs)
values_clean vs all = (refl, both_clean 10 (listed vs) (codes ")") (listed_clean vs all) (refl, tt))

-- ---- calls

result_clean : (r : CallResult) → IsResult r → HasNone 10 (printed_result r)
result_clean (results.Good vs) is = both_clean 10 (codes "ok ") (printed_values vs) (clean_by 10 (codes "ok ") refl) (values_clean vs is)
result_clean (results.Bad code) is = both_clean 10 (codes "fail ") (decimal code) (clean_by 10 (codes "fail ") refl) (decimal_clean code (omega (arith, is)))

cell_clean : (p : Program) → IsNamed p → (cell : List ℕ) → IsCellOf p cell → HasNone 10 cell
cell_clean p named cell is =
    let class = is.class in
    class_clean 10 refl p named class.session cell (record { 0 = is.place }) (record { class = class; at = is.at; named = is.named; scope = refl })

text_clean : (limit : ℕ) (text : List ℕ) → IsTextOf limit text → HasNone 10 (printed_text text)
text_clean limit text is = text_spelling_clean (printed_text text) text (printed_text_spells text is.each)

change_clean : (p : Program) → IsNamed p → (put : Put) (v : Option Value) → IsPutOf p put → IsValueOrNone v → HasNone 10 (printed_change put v)
change_clean p named put None is value =
    both_clean 10 ((codes " cut " ++ put.cell) ++ codes " ") (printed_text put.name)
    (both_clean 10 (codes " cut " ++ put.cell) (codes " ") (both_clean 10 (codes " cut ") put.cell (clean_by 10 (codes " cut ") refl) (cell_clean p named put.cell is.cell)) (refl, tt))
    (text_clean TEXT_LIMIT put.name is.name)
change_clean p named put (Some v) is value =
    both_clean 10 ((((codes " put " ++ put.cell) ++ codes " ") ++ printed_text put.name) ++ codes " ") (printed_value v)
    (both_clean 10 (((codes " put " ++ put.cell) ++ codes " ") ++ printed_text put.name) (codes " ")
    (both_clean 10 ((codes " put " ++ put.cell) ++ codes " ") (printed_text put.name)
    (both_clean 10 (codes " put " ++ put.cell) (codes " ") (both_clean 10 (codes " put ") put.cell (clean_by 10 (codes " put ") refl) (cell_clean p named put.cell is.cell)) (refl, tt))
    (text_clean TEXT_LIMIT put.name is.name)) (refl, tt))
    (value_clean v value)

puts_clean : (p : Program) → IsNamed p → (puts : List Put) → AllByRecursion (IsPutOf p) puts → HasNone 10 (flat_map printed_put puts)
puts_clean p named [] all = tt
puts_clean p named (put ∷ puts) all = let is = all.0 in both_clean 10 (printed_put put) (flat_map printed_put puts) (change_clean p named put put.value is is.value) (puts_clean p named puts all.1)

emission_clean : (bytes : List ℕ) → IsTextOf EMISSION_LIMIT bytes → HasNone 10 (printed_emission bytes)
emission_clean [] is = tt
emission_clean (b ∷ bytes) is = both_clean 10 (codes " emits ") (printed_text (b ∷ bytes)) (clean_by 10 (codes " emits ") refl) (text_clean EMISSION_LIMIT (b ∷ bytes) is)

-- ---- events

key_clean : (p : Program) → IsNamed p → (key : Key) → IsKeyOf p key → HasNone 10 (printed_key p key)
key_clean p named key is = both_clean 10 (class_name (slice_get p.classes key.class.0)) (printed_session key.id) (class_at (slice_get p.classes key.class.0) refl is) (session_at (slice_get p.classes key.class.0) key.id is)
  where
    class_at : (o : Option Class) → slice_get p.classes key.class.0 ≡ o → IsKeyIn o key.id → HasNone 10 (class_name o)
    class_at None at in_ = absurd in_
    class_at (Some class) at in_ = class_clean 10 refl p named class.session class.name key.class (record { class = class; at = at; named = refl; scope = refl })

    number_in : (s : Bool) (id : Option ℕ) → HasSession s id → HasNone 10 (printed_session id)
    number_in true (Some n) has = both_clean 10 (codes "@") (decimal n) (refl, tt) (decimal_clean n has)
    number_in true None has = absurd has
    number_in false (Some n) has = absurd has
    number_in false None has = tt

    session_at : (o : Option Class) (id : Option ℕ) → IsKeyIn o id → HasNone 10 (printed_session id)
    session_at None id in_ = absurd in_
    session_at (Some class) id in_ = number_in class.session id in_

mode_clean : (mode : Mode) → HasNone 10 (printed_mode mode)
mode_clean Reader = (refl, tt)
mode_clean Writer = (refl, tt)

exit_clean : (outcome : Outcome) → IsOutcome outcome → HasNone 10 (printed_exit outcome)
exit_clean outcomes.Good is = clean_by 10 (codes "ok") refl
exit_clean outcomes.Over is = clean_by 10 (codes "over") refl
exit_clean (outcomes.Bad code) is = both_clean 10 (codes "fail ") (decimal code) (clean_by 10 (codes "fail ") refl) (decimal_clean code (omega (arith, is)))

end_clean : (outcome : Outcome) → IsOutcome outcome → HasNone 10 (printed_end outcome)
end_clean outcomes.Good is = clean_by 10 (codes "done") refl
end_clean outcomes.Over is = clean_by 10 (codes "handled") refl
end_clean (outcomes.Bad code) is = both_clean 10 (codes "fail ") (decimal code) (clean_by 10 (codes "fail ") refl) (decimal_clean code (omega (arith, is)))

call_clean : (p : Program) → IsNamed p → (made : CallMade) → IsCallOf p made → HasNone 10 (printed_call p made)
call_clean p named made is =
    let node = node_name p made.node in
    let args = printed_values made.args in
    let result_ = printed_result made.answer.result in
    let puts = flat_map printed_put made.answer.puts in
    both_clean 10 (((((codes "call " ++ node) ++ codes " ") ++ args) ++ codes " " ++ result_) ++ puts) (printed_emission made.answer.emits)
    (both_clean 10 ((((codes "call " ++ node) ++ codes " ") ++ args) ++ codes " " ++ result_) puts
    (both_clean 10 ((((codes "call " ++ node) ++ codes " ") ++ args) ++ codes " ") result_
    (both_clean 10 (((codes "call " ++ node) ++ codes " ") ++ args) (codes " ")
    (both_clean 10 ((codes "call " ++ node) ++ codes " ") args
    (both_clean 10 (codes "call " ++ node) (codes " ") (both_clean 10 (codes "call ") node (clean_by 10 (codes "call ") refl) (node_free 10 refl p named made.node)) (refl, tt))
    (values_clean made.args is.args)) (refl, tt))
    (result_clean made.answer.result is.result_))
    (puts_clean p named made.answer.puts is.puts))
    (emission_clean made.answer.emits is.emits)

pub event_clean : (p : Program) → IsNamed p → (event : Event) → IsEventOf p event → HasNone 10 (printed_event p event)
event_clean p named (events.Take key mode) is = both_clean 10 (codes "take " ++ printed_key p key) (printed_mode mode) (both_clean 10 (codes "take ") (printed_key p key) (clean_by 10 (codes "take ") refl) (key_clean p named key is)) (mode_clean mode)
event_clean p named (events.Wait key mode) is = both_clean 10 (codes "wait " ++ printed_key p key) (printed_mode mode) (both_clean 10 (codes "wait ") (printed_key p key) (clean_by 10 (codes "wait ") refl) (key_clean p named key is)) (mode_clean mode)
event_clean p named (events.Enter node) is = both_clean 10 (codes "enter ") (node_name p node) (clean_by 10 (codes "enter ") refl) (node_free 10 refl p named node)
event_clean p named (events.Choose place) is = both_clean 10 (codes "choose ") (decimal place) (clean_by 10 (codes "choose ") refl) (decimal_clean place (omega (arith, is)))
event_clean p named (events.Call made) is = call_clean p named made is
event_clean p named (events.Exit node outcome) is =
    both_clean 10 ((codes "exit " ++ node_name p node) ++ codes " ") (printed_exit outcome)
    (both_clean 10 (codes "exit " ++ node_name p node) (codes " ") (both_clean 10 (codes "exit ") (node_name p node) (clean_by 10 (codes "exit ") refl) (node_free 10 refl p named node)) (refl, tt))
    (exit_clean outcome is.1)
event_clean p named (events.Drop key) is = both_clean 10 (codes "drop ") (printed_key p key) (clean_by 10 (codes "drop ") refl) (key_clean p named key is)
event_clean p named (events.End outcome) is = both_clean 10 (codes "end ") (printed_end outcome) (clean_by 10 (codes "end ") refl) (end_clean outcome is)
