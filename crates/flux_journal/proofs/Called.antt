-- A call's text is one call's.
use Rattle.std.proofs.Common.{◌≡◌, ◌≢◌, ℕ, get_or, List, [], ◌∷◌, ◌++◌, length, Option, Some, None, codes, refl, sym, ap, ◌∙◌, subst, append_assoc, arith}
use Rattle.std.proofs.lemmas.List.{append-nil}
use Rattle.flux_values.specs.declared.values.Value.{Value}
use Rattle.flux_values.specs.declared.values.Value.TheVariants.{Text}
use Rattle.flux_values.specs.declared.answers.CallResult.{CallResult}
use Rattle.flux_values.specs.declared.answers.CallResult.TheVariants as results
use Rattle.flux_values.specs.declared.answers.Put.{Put}
use Rattle.flux_values.specs.declared.texts.TheConstants.{EMISSION_LIMIT}
use Rattle.flux_values.specs.Spellings.{SpellsText, BeginsText}
use Rattle.flux_spelling.proofs.Literals.{one_text}
use Rattle.flux_model.specs.declared.programs.Program.{Program}
use Rattle.flux_model.specs.declared.programs.NodeNo.{NodeNo}
use Rattle.flow_model.specs.declared.journals.CallMade.{CallMade}
use Rattle.flux_model.specs.Names.{IsNamed}
use Rattle.flux_journal.specs.Entries.{IsCellOf, IsTextOf}
use Rattle.flux_journal.specs.Spelled.{BeginEach, BeginsValue, BeginsNext, BeginClosed, BeginValues, BeginsCode, BeginsResult, BeginsChange, BeginsPut, IsEmission, IsCallText}
use Rattle.flux_journal.specs.steps.Cuts.{HasNone}
use Rattle.flux_journal.specs.steps.Reading.{NoPut}
use Rattle.flux_journal.proofs.Cutting.{same_cut}
use Rattle.flux_journal.proofs.Keying.{class_clean}
use Rattle.flux_journal.proofs.Parted.{Same, behind_word, value_once, no_value_closed, code_once, each_once}

-- texts that differ at a place
pub at_place : (i b c : ℕ) (s t : List ℕ) → get_or s i 0 ≡ b → get_or t i 0 ≡ c → b ≢ c → s ≡ t → ⊥
at_place i b c s t first second other e = other (sym first ∙ ap (λ (l : List ℕ). get_or l i 0) e ∙ second)

-- ---- values

pub next_once : (text : List ℕ) (v w : Value) (a b : List ℕ) → BeginsNext text v a → BeginsNext text w b → Same v w a b
next_once text v w a b first second =
    let same = behind_word (codes ", ") first.rest second.rest text first.laid second.laid in
    value_once first.rest v w a b first.then_ (subst (λ (t : List ℕ). BeginsValue t w b) (sym same) second.then_)

pub no_next_closed : (a : List ℕ) (v : Value) (tail : List ℕ) → BeginsNext (codes ")" ++ a) v tail → ⊥
no_next_closed a v tail next = let e = next.laid in absurd cc

pub closed_once : (vs ws : List Value) (text a b : List ℕ) → BeginClosed text vs a → BeginClosed text ws b → Same vs ws a b
closed_once [] [] text a b first second = record { given = refl; rest = behind_word (codes ")") a b text first second }
closed_once [] (w ∷ ws) text a b first second = absurd (no_value_closed text a w second.rest first second.part)
closed_once (v ∷ vs) [] text a b first second = absurd (no_value_closed text b v first.rest second first.part)
closed_once (v ∷ vs) (w ∷ ws) text a b first second =
    let one = value_once text v w first.rest second.rest first.part second.part in
    let more = each_once BeginsNext next_once vs ws first.rest (codes ")" ++ a) (codes ")" ++ b) (no_next_closed a) (no_next_closed b) first.then_ (subst (λ (t : List ℕ). BeginEach BeginsNext t ws (codes ")" ++ b)) (sym one.rest) second.then_) in
    record {
      given = ap (λ (x : Value). x ∷ vs) one.given ∙ ap (λ (l : List Value). w ∷ l) more.given;
      rest = behind_word (codes ")") a b (codes ")" ++ b) (sym more.rest) refl;
    }

pub values_once : (vs ws : List Value) (text a b : List ℕ) → BeginValues text vs a → BeginValues text ws b → Same vs ws a b
values_once vs ws text a b first second =
    let same = behind_word (codes "(") first.rest second.rest text first.laid second.laid in
    closed_once vs ws first.rest a b first.then_ (subst (λ (t : List ℕ). BeginClosed t ws b) (sym same) second.then_)

-- ---- results

pub result_once : (text : List ℕ) (x y : CallResult) (a b : List ℕ) → BeginsResult text x a → BeginsResult text y b → Same x y a b
result_once text (results.Good vs) (results.Good ws) a b first second =
    let same = behind_word (codes "ok ") first.rest second.rest text first.laid second.laid in
    let one = values_once vs ws first.rest a b first.then_ (subst (λ (t : List ℕ). BeginValues t ws b) (sym same) second.then_) in
    record { given = ap results.Good one.given; rest = one.rest }
result_once text (results.Good vs) (results.Bad d) a b first second = absurd (at_place 0 111 102 (codes "ok " ++ first.rest) (codes "fail " ++ second.rest) refl refl (omega arith) (sym first.laid ∙ second.laid))
result_once text (results.Bad c) (results.Good ws) a b first second = absurd (at_place 0 102 111 (codes "fail " ++ first.rest) (codes "ok " ++ second.rest) refl refl (omega arith) (sym first.laid ∙ second.laid))
result_once text (results.Bad c) (results.Bad d) a b first second =
    let same = behind_word (codes "fail ") first.rest second.rest text first.laid second.laid in
    let one = code_once first.rest c d a b first.then_ (subst (λ (t : List ℕ). BeginsCode t d b) (sym same) second.then_) in
    record { given = ap results.Bad one.given; rest = one.rest }

-- ---- changes

-- a class's name has no space
pub cell_clean : (p : Program) → IsNamed p → (cell : List ℕ) → IsCellOf p cell → HasNone 32 cell
cell_clean p named cell is =
    let class = is.class in
    class_clean 32 refl p named class.session cell (record { 0 = is.place }) (record { class = class; at = is.at; named = is.named; scope = refl })

pub cell_once : (p : Program) → IsNamed p → (text c d a b : List ℕ) → IsCellOf p c → IsCellOf p d → text ≡ (c ++ codes " ") ++ a → text ≡ (d ++ codes " ") ++ b → Same c d a b
cell_once p named text c d a b is are first second =
    let cut = same_cut 32 c d a b (cell_clean p named c is) (cell_clean p named d are) (sym (append_assoc c (32 ∷ []) a) ∙ sym first ∙ second ∙ append_assoc d (32 ∷ []) b) in
    record { given = cut.front; rest = cut.rest }

record SameChange (c d n m : List ℕ) (v w : Option Value) (a b : List ℕ) : Type 0 where
  cell : c ≡ d
  name : n ≡ m
  value : v ≡ w
  rest : a ≡ b

text_is : (n m : List ℕ) → Text n ≡ Text m → n ≡ m
text_is n m e = cc

change_once : (p : Program) → IsNamed p → (text c d n m : List ℕ) (v w : Option Value) (a b : List ℕ) → IsCellOf p c → IsCellOf p d → BeginsChange text c n v a → BeginsChange text d m w b → SameChange c d n m v w a b
change_once p named text c d n m None None a b is are first second =
    let front = behind_word (codes " cut ") first.rest second.rest text first.laid second.laid in
    let x = first.then_ in
    let y = second.then_ in
    let cell = cell_once p named first.rest c d x.rest y.rest is are x.laid (front ∙ y.laid) in
    let name = value_once x.rest (Text n) (Text m) a b x.then_ (subst (λ (t : List ℕ). BeginsValue t (Text m) b) (sym cell.rest) y.then_) in
    record { cell = cell.given; name = text_is n m name.given; value = refl; rest = name.rest }
change_once p named text c d n m None (Some w) a b is are first second = absurd (at_place 1 99 112 (codes " cut " ++ first.rest) (codes " put " ++ second.rest) refl refl (omega arith) (sym first.laid ∙ second.laid))
change_once p named text c d n m (Some v) None a b is are first second = absurd (at_place 1 112 99 (codes " put " ++ first.rest) (codes " cut " ++ second.rest) refl refl (omega arith) (sym first.laid ∙ second.laid))
change_once p named text c d n m (Some v) (Some w) a b is are first second =
    let front = behind_word (codes " put ") first.rest second.rest text first.laid second.laid in
    let x = first.then_ in
    let y = second.then_ in
    let cell = cell_once p named first.rest c d x.rest y.rest is are x.laid (front ∙ y.laid) in
    let u = x.then_ in
    let z = y.then_ in
    let name = value_once x.rest (Text n) (Text m) u.rest z.rest u.part (subst (λ (t : List ℕ). BeginsValue t (Text m) z.rest) (sym cell.rest) z.part) in
    let i = u.then_ in
    let j = z.then_ in
    let space = behind_word (codes " ") i.rest j.rest u.rest i.laid (name.rest ∙ j.laid) in
    let value = value_once i.rest v w a b i.then_ (subst (λ (t : List ℕ). BeginsValue t w b) (sym space) j.then_) in
    record { cell = cell.given; name = text_is n m name.given; value = ap Some value.given; rest = value.rest }

abbrev put_of : List ℕ → List ℕ → Option Value → Put
put_of cell name value = record { cell = cell; name = name; value = value }

pub put_once : (p : Program) → IsNamed p → (text : List ℕ) (x y : Put) (a b : List ℕ) → BeginsPut p text x a → BeginsPut p text y b → Same x y a b
put_once p named text x y a b first second =
    let one = change_once p named text x.cell y.cell x.name y.name x.value y.value a b first.cell second.cell first.change second.change in
    record {
      given = ap (λ (c : List ℕ). put_of c x.name x.value) one.cell ∙ ap (λ (n : List ℕ). put_of y.cell n x.value) one.name ∙ ap (λ (v : Option Value). put_of y.cell y.name v) one.value;
      rest = one.rest;
    }

change_marked : (text c n : List ℕ) (v : Option Value) (tail : List ℕ) → BeginsChange text c n v tail → NoPut text → ⊥
change_marked text c n None tail change none = none.no_cut change.rest change.laid
change_marked text c n (Some v) tail change none = none.no_put change.rest change.laid

-- a change has its mark
pub put_marked : (p : Program) (text : List ℕ) (x : Put) (tail : List ℕ) → NoPut text → BeginsPut p text x tail → ⊥
put_marked p text x tail none begins = change_marked text x.cell x.name x.value tail begins.change none

-- ---- emissions

pub emission_no_put : (text bytes : List ℕ) → IsEmission text bytes → NoPut text
emission_no_put text [] is = record { no_put = λ tail e. let f = sym is ∙ e in absurd cc; no_cut = λ tail e. let f = sym is ∙ e in absurd cc }
emission_no_put text (b ∷ bytes) is = record {
  no_put = λ tail e. at_place 1 101 112 (codes " emits " ++ is.rest) (codes " put " ++ tail) refl refl (omega arith) (sym is.laid ∙ e);
  no_cut = λ tail e. at_place 1 101 99 (codes " emits " ++ is.rest) (codes " cut " ++ tail) refl refl (omega arith) (sym is.laid ∙ e);
}

as_text : (text bytes : List ℕ) → SpellsText text bytes → IsTextOf EMISSION_LIMIT bytes → BeginsText text bytes EMISSION_LIMIT (length text)
as_text text bytes spells is = record { spelling = text; rest = []; each = is.each; few = is.few; spells = spells; front = sym (append-nil text); long = refl }

pub text_once : (text a b : List ℕ) → SpellsText text a → IsTextOf EMISSION_LIMIT a → SpellsText text b → IsTextOf EMISSION_LIMIT b → a ≡ b
text_once text a b first is second are = let one = one_text text a b EMISSION_LIMIT (length text) (length text) (as_text text a first is) (as_text text b second are) in one.text

pub emission_once : (text a b : List ℕ) → IsEmission text a → IsEmission text b → a ≡ b
emission_once text [] [] first second = refl
emission_once text [] (c ∷ b) first second = let e = sym first ∙ second.laid in absurd cc
emission_once text (c ∷ a) [] first second = let e = sym second ∙ first.laid in absurd cc
emission_once text (c ∷ a) (d ∷ b) first second =
    let same = behind_word (codes " emits ") first.rest second.rest text first.laid second.laid in
    let x = first.then_ in
    let y = second.then_ in
    text_once first.rest (c ∷ a) (d ∷ b) x.0 x.1 (subst (λ (t : List ℕ). SpellsText t (d ∷ b)) (sym same) y.0) y.1

-- ---- calls

abbrev made_of : NodeNo → List Value → CallResult → List Put → List ℕ → CallMade
made_of node args given puts emits = record { node = node; args = args; answer = record { result = given; puts = puts; emits = emits } }

pub call_once : (p : Program) → IsNamed p → (text : List ℕ) (x y : CallMade) → IsCallText p text x → IsCallText p text y → x.node ≡ y.node → x ≡ y
call_once p named text x y first second node =
    let args = values_once x.args y.args text (codes " " ++ first.result_text) (codes " " ++ second.result_text) first.args second.args in
    let result_text = behind_word (codes " ") first.result_text second.result_text (codes " " ++ second.result_text) (sym args.rest) refl in
    let one = result_once first.result_text x.answer.result y.answer.result first.puts_text second.puts_text first.result_ (subst (λ (t : List ℕ). BeginsResult t y.answer.result second.puts_text) (sym result_text) second.result_) in
    let puts = each_once (BeginsPut p) (put_once p named) x.answer.puts y.answer.puts first.puts_text first.emission_text second.emission_text
    (λ put tail begins. put_marked p first.emission_text put tail (emission_no_put first.emission_text x.answer.emits first.emission) begins)
    (λ put tail begins. put_marked p second.emission_text put tail (emission_no_put second.emission_text y.answer.emits second.emission) begins)
    first.puts (subst (λ (t : List ℕ). BeginEach (BeginsPut p) t y.answer.puts second.emission_text) (sym one.rest) second.puts) in
    let emits = emission_once first.emission_text x.answer.emits y.answer.emits first.emission (subst (λ (t : List ℕ). IsEmission t y.answer.emits) (sym puts.rest) second.emission) in
    ap (λ (n : NodeNo). made_of n x.args x.answer.result x.answer.puts x.answer.emits) node
    ∙ ap (λ (l : List Value). made_of y.node l x.answer.result x.answer.puts x.answer.emits) args.given
    ∙ ap (λ (r : CallResult). made_of y.node y.args r x.answer.puts x.answer.emits) one.given
    ∙ ap (λ (l : List Put). made_of y.node y.args y.answer.result l x.answer.emits) puts.given
    ∙ ap (λ (e : List ℕ). made_of y.node y.args y.answer.result y.answer.puts e) emits
