-- A line spells one entry.
use Rattle.std.proofs.Common.{◌≡◌, ℕ, ◌<◌, ◌^◌, List, [], ◌∷◌, ◌++◌, length, Ok, Err, Result, codes, refl, sym, ap, ◌∙◌, subst, append_assoc, arith, inl, inr}
use Rattle.std.specs.Fmt.{decimal}
use Rattle.std.proofs.lemmas.List.{length-append, append_cancel_left}
use Rattle.flux_values.specs.Answers.{IsOrMemory}
use Rattle.flux_values.specs.declared.answers.Mode.{Mode}
use Rattle.flux_values.specs.declared.answers.Mode.TheVariants.{Reader, Writer}
use Rattle.flux_model.specs.declared.programs.Program.{Program}
use Rattle.flux_model.specs.declared.programs.NodeNo.{NodeNo}
use Rattle.flow_model.specs.declared.journals.Key.{Key}
use Rattle.flow_model.specs.declared.journals.Outcome.{Outcome}
use Rattle.flow_model.specs.declared.journals.Outcome.TheVariants.{Good, Over, Bad}
use Rattle.flow_model.specs.declared.journals.CallMade.{CallMade}
use Rattle.flow_model.specs.declared.journals.Event.{Event}
use Rattle.flow_model.specs.declared.journals.Event.TheVariants as events
use Rattle.flow_model.specs.declared.journals.Entry.{Entry}
use Rattle.flux_model.specs.Names.{IsNamed}
use Rattle.flux_model.specs.Texts.{node_name}
use Rattle.flow_model.specs.Texts.{printed_key, printed_exit}
use Rattle.flux_journal.specs.declared.faults.LineFault.{LineFault}
use Rattle.flux_journal.specs.declared.faults.LineFault.TheVariants as faults
use Rattle.flux_journal.specs.declared.lines.Word.TheVariants as words
use Rattle.flux_journal.specs.Spelled.{IsCallText, IsEventText, IsEntryLine}
use Rattle.flux_journal.specs.Journals.{HasLineCause}
use Rattle.flux_journal.specs.steps.Parts.{IsHoldText, IsExitText, IsEndText}
use Rattle.flux_journal.specs.steps.Events.{word_text, word_of, IsExitRest, IsCallRest, IsRestOf}
use Rattle.flux_journal.proofs.Cutting.{same_cut, one_number}
use Rattle.flux_journal.proofs.Keying.{one_key}
use Rattle.flux_journal.proofs.Called.{at_place, call_once}
use Rattle.flux_journal.proofs.Worded.{rest_of, word_clean, same_word}
use Rattle.flux_journal.proofs.Lined.{node_clean, one_node, number_clean, entry_laid}

-- ---- parts

last_same : (a b : List ℕ) (x y : ℕ) → a ++ x ∷ [] ≡ b ++ y ∷ [] → (a ≡ b) × (x ≡ y)
last_same [] [] x y e = (refl, cc)
last_same [] (c ∷ b) x y e = absurd (omega (arith, ap length e, length-append b (y ∷ [])))
last_same (c ∷ a) [] x y e = absurd (omega (arith, ap length e, length-append a (x ∷ [])))
last_same (c ∷ a) (d ∷ b) x y e =
    let heads : c ≡ d = cc in
    let tails : a ++ x ∷ [] ≡ b ++ y ∷ [] = cc in
    let s = last_same a b x y tails in
    (ap (λ (k : ℕ). k ∷ a) heads ∙ ap (λ (l : List ℕ). d ∷ l) s.0, s.1)

hold_once : (p : Program) → IsNamed p → (text : List ℕ) (k l : Key) (m n : Mode) → IsHoldText p text k m → IsHoldText p text l n → (k ≡ l) × (m ≡ n)
hold_once p named text k l Reader Reader first second = let s = last_same (printed_key p k) (printed_key p l) 63 63 (sym first.1 ∙ second.1) in (one_key p named (printed_key p k) k l (first.0, refl) (second.0, s.0), refl)
hold_once p named text k l Reader Writer first second = let s = last_same (printed_key p k) (printed_key p l) 63 33 (sym first.1 ∙ second.1) in absurd (let e = s.1 in omega arith)
hold_once p named text k l Writer Reader first second = let s = last_same (printed_key p k) (printed_key p l) 33 63 (sym first.1 ∙ second.1) in absurd (let e = s.1 in omega arith)
hold_once p named text k l Writer Writer first second = let s = last_same (printed_key p k) (printed_key p l) 33 33 (sym first.1 ∙ second.1) in (one_key p named (printed_key p k) k l (first.0, refl) (second.0, s.0), refl)

code_once : (c d : ℕ) → c < 2 ^ 16 → d < 2 ^ 16 → codes "fail " ++ decimal c ≡ codes "fail " ++ decimal d → c ≡ d
code_once c d small less e = one_number 65535 c d (omega arith) (omega (arith, small)) (omega (arith, less)) (append_cancel_left (codes "fail ") (decimal c) (decimal d) e)

exit_once : (text : List ℕ) (a b : Outcome) → IsExitText text a → IsExitText text b → a ≡ b
exit_once text Good Good first second = refl
exit_once text Good Over first second = absurd (at_place 1 107 118 (codes "ok") (codes "over") refl refl (omega arith) (sym first.1 ∙ second.1))
exit_once text Good (Bad d) first second = absurd (at_place 0 111 102 (codes "ok") (codes "fail " ++ decimal d) refl refl (omega arith) (sym first.1 ∙ second.1))
exit_once text Over Good first second = absurd (at_place 1 118 107 (codes "over") (codes "ok") refl refl (omega arith) (sym first.1 ∙ second.1))
exit_once text Over Over first second = refl
exit_once text Over (Bad d) first second = absurd (at_place 0 111 102 (codes "over") (codes "fail " ++ decimal d) refl refl (omega arith) (sym first.1 ∙ second.1))
exit_once text (Bad c) Good first second = absurd (at_place 0 102 111 (codes "fail " ++ decimal c) (codes "ok") refl refl (omega arith) (sym first.1 ∙ second.1))
exit_once text (Bad c) Over first second = absurd (at_place 0 102 111 (codes "fail " ++ decimal c) (codes "over") refl refl (omega arith) (sym first.1 ∙ second.1))
exit_once text (Bad c) (Bad d) first second = ap Bad (code_once c d first.0 second.0 (sym first.1 ∙ second.1))

end_once : (text : List ℕ) (a b : Outcome) → IsEndText text a → IsEndText text b → a ≡ b
end_once text Good Good first second = refl
end_once text Good Over first second = absurd (at_place 0 100 104 (codes "done") (codes "handled") refl refl (omega arith) (sym first.1 ∙ second.1))
end_once text Good (Bad d) first second = absurd (at_place 0 100 102 (codes "done") (codes "fail " ++ decimal d) refl refl (omega arith) (sym first.1 ∙ second.1))
end_once text Over Good first second = absurd (at_place 0 104 100 (codes "handled") (codes "done") refl refl (omega arith) (sym first.1 ∙ second.1))
end_once text Over Over first second = refl
end_once text Over (Bad d) first second = absurd (at_place 0 104 102 (codes "handled") (codes "fail " ++ decimal d) refl refl (omega arith) (sym first.1 ∙ second.1))
end_once text (Bad c) Good first second = absurd (at_place 0 102 100 (codes "fail " ++ decimal c) (codes "done") refl refl (omega arith) (sym first.1 ∙ second.1))
end_once text (Bad c) Over first second = absurd (at_place 0 102 104 (codes "fail " ++ decimal c) (codes "handled") refl refl (omega arith) (sym first.1 ∙ second.1))
end_once text (Bad c) (Bad d) first second = ap Bad (code_once c d first.0 second.0 (sym first.1 ∙ second.1))

exit_rest_once : (p : Program) → IsNamed p → (text : List ℕ) (a b : NodeNo) (o q : Outcome) → IsExitRest p text a o → IsExitRest p text b q → (a ≡ b) × (o ≡ q)
exit_rest_once p named text a b o q first second =
    let cut = same_cut 32 (node_name p a) (node_name p b) (printed_exit o) (printed_exit q) (node_clean p named a) (node_clean p named b)
    (sym (append_assoc (node_name p a) (32 ∷ []) (printed_exit o)) ∙ sym first.laid ∙ second.laid ∙ append_assoc (node_name p b) (32 ∷ []) (printed_exit q)) in (
      one_node p named (node_name p a) a b (first.node_, refl) (second.node_, cut.front),
      exit_once (printed_exit o) o q (first.outcome_, refl) (second.outcome_, cut.rest),
    )

call_rest_once : (p : Program) → IsNamed p → (text : List ℕ) (x y : CallMade) → IsCallRest p text x → IsCallRest p text y → x ≡ y
call_rest_once p named text x y first second =
    let b = first.call in
    let d = second.call in
    let cut = same_cut 32 (node_name p x.node) (node_name p y.node) b.rest d.rest (node_clean p named x.node) (node_clean p named y.node)
    (sym (append_assoc (node_name p x.node) (32 ∷ []) b.rest) ∙ sym b.laid ∙ d.laid ∙ append_assoc (node_name p y.node) (32 ∷ []) d.rest) in
    let node = one_node p named (node_name p x.node) x.node y.node (first.node_, refl) (second.node_, cut.front) in
    call_once p named b.rest x y b.then_ (subst (λ (t : List ℕ). IsCallText p t y) (sym cut.rest) d.then_) node

-- ---- events of one word

take_is : (e : Event) → words.Take ≡ word_of e → (key : Key) × ((mode : Mode) × (e ≡ events.Take key mode))
take_is (events.Take key mode) s = (key, (mode, refl))
take_is e s = absurd (let h : words.Take ≡ word_of e = s in cc)

wait_is : (e : Event) → words.Wait ≡ word_of e → (key : Key) × ((mode : Mode) × (e ≡ events.Wait key mode))
wait_is (events.Wait key mode) s = (key, (mode, refl))
wait_is e s = absurd (let h : words.Wait ≡ word_of e = s in cc)

enter_is : (e : Event) → words.Enter ≡ word_of e → (node : NodeNo) × (e ≡ events.Enter node)
enter_is (events.Enter node) s = (node, refl)
enter_is e s = absurd (let h : words.Enter ≡ word_of e = s in cc)

choose_is : (e : Event) → words.Choose ≡ word_of e → (place : ℕ) × (e ≡ events.Choose place)
choose_is (events.Choose place) s = (place, refl)
choose_is e s = absurd (let h : words.Choose ≡ word_of e = s in cc)

call_is : (e : Event) → words.Call ≡ word_of e → (made : CallMade) × (e ≡ events.Call made)
call_is (events.Call made) s = (made, refl)
call_is e s = absurd (let h : words.Call ≡ word_of e = s in cc)

exit_is_ : (e : Event) → words.Exit ≡ word_of e → (node : NodeNo) × ((outcome : Outcome) × (e ≡ events.Exit node outcome))
exit_is_ (events.Exit node outcome) s = (node, (outcome, refl))
exit_is_ e s = absurd (let h : words.Exit ≡ word_of e = s in cc)

drop_is : (e : Event) → words.Drop ≡ word_of e → (key : Key) × (e ≡ events.Drop key)
drop_is (events.Drop key) s = (key, refl)
drop_is e s = absurd (let h : words.Drop ≡ word_of e = s in cc)

end_is : (e : Event) → words.End ≡ word_of e → (outcome : Outcome) × (e ≡ events.End outcome)
end_is (events.End outcome) s = (outcome, refl)
end_is e s = absurd (let h : words.End ≡ word_of e = s in cc)

rest_once : (p : Program) → IsNamed p → (text : List ℕ) (x y : Event) → IsRestOf p text x → IsRestOf p text y → word_of x ≡ word_of y → x ≡ y
rest_once p named text (events.Take k m) y first second s =
    let v = take_is y s in
    let one = hold_once p named text k v.0 m v.1.0 first (subst (IsRestOf p text) v.1.1 second) in
    ap (λ (l : Key). events.Take l m) one.0 ∙ ap (events.Take v.0) one.1 ∙ sym v.1.1
rest_once p named text (events.Wait k m) y first second s =
    let v = wait_is y s in
    let one = hold_once p named text k v.0 m v.1.0 first (subst (IsRestOf p text) v.1.1 second) in
    ap (λ (l : Key). events.Wait l m) one.0 ∙ ap (events.Wait v.0) one.1 ∙ sym v.1.1
rest_once p named text (events.Enter node) y first second s =
    let v = enter_is y s in
    ap events.Enter (one_node p named text node v.0 first (subst (IsRestOf p text) v.1 second)) ∙ sym v.1
rest_once p named text (events.Choose place) y first second s =
    let v = choose_is y s in
    let other = subst (IsRestOf p text) v.1 second in
    ap events.Choose (one_number 4294967295 place v.0 (omega arith) (omega (arith, first.0)) (omega (arith, other.0)) (sym first.1 ∙ other.1)) ∙ sym v.1
rest_once p named text (events.Call made) y first second s =
    let v = call_is y s in
    ap events.Call (call_rest_once p named text made v.0 first (subst (IsRestOf p text) v.1 second)) ∙ sym v.1
rest_once p named text (events.Exit node outcome) y first second s =
    let v = exit_is_ y s in
    let one = exit_rest_once p named text node v.0 outcome v.1.0 first (subst (IsRestOf p text) v.1.1 second) in
    ap (λ (n : NodeNo). events.Exit n outcome) one.0 ∙ ap (events.Exit v.0) one.1 ∙ sym v.1.1
rest_once p named text (events.Drop key) y first second s =
    let v = drop_is y s in
    ap events.Drop (one_key p named text key v.0 first (subst (IsRestOf p text) v.1 second)) ∙ sym v.1
rest_once p named text (events.End outcome) y first second s =
    let v = end_is y s in
    ap events.End (end_once text outcome v.0 first (subst (IsRestOf p text) v.1 second)) ∙ sym v.1

-- ---- events and entries

pub event_once : (p : Program) → IsNamed p → (text : List ℕ) (x y : Event) → IsEventText p text x → IsEventText p text y → x ≡ y
event_once p named text x y first second =
    let r = rest_of p text x first in
    let t = rest_of p text y second in
    let cut = same_cut 32 (word_text (word_of x)) (word_text (word_of y)) r.rest t.rest (word_clean (word_of x)) (word_clean (word_of y)) (sym r.laid ∙ t.laid) in
    rest_once p named r.rest x y r.is (subst (λ (s : List ℕ). IsRestOf p s y) (sym cut.rest) t.is) (same_word (word_of x) (word_of y) cut.front)

abbrev entry_of : ℕ → Event → Entry
entry_of flow event = record { flow = record { 0 = flow }; event = event }

pub entry_once : (p : Program) → IsNamed p → (line : List ℕ) (x y : Entry) → IsEntryLine p line x → IsEntryLine p line y → x ≡ y
entry_once p named line x y first second =
    let cut = same_cut 32 (decimal x.flow.0) (decimal y.flow.0) first.event_text second.event_text (number_clean x.flow.0 (omega (arith, first.flow))) (number_clean y.flow.0 (omega (arith, second.flow))) (sym (entry_laid p line x first) ∙ entry_laid p line y second) in
    let flow : x.flow.0 ≡ y.flow.0 = one_number 4294967295 x.flow.0 y.flow.0 (omega arith) (omega (arith, first.flow)) (omega (arith, second.flow)) cut.front in
    let event : x.event ≡ y.event = event_once p named first.event_text x.event y.event first.event_ (subst (λ (t : List ℕ). IsEventText p t y.event) (sym cut.rest) second.event_) in
    ap (λ (n : ℕ). entry_of n x.event) flow ∙ ap (entry_of y.flow.0) event

-- each cause has its answer
pub answers_entry : (p : Program) → IsNamed p → (line : List ℕ) (r : Result Entry LineFault) → HasLineCause p line r → (entry : Entry) → IsEntryLine p line entry → IsOrMemory faults.Memory (Ok entry) r
answers_entry p named line (Ok own) cause entry is = inl (ap Ok (entry_once p named line own entry cause is))
answers_entry p named line (Err faults.BadLine) cause entry is = absurd (cause entry is)
answers_entry p named line (Err faults.Memory) cause entry is = inr refl
