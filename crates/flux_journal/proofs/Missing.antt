-- Why no part begins a text where the reader of one of its parts finds none.
use Rattle.std.proofs.Common.{◌≡◌, inl, inr, ℕ, suc, true, false, eqb, map, Result, Ok, Err, ◌+◌, List, [], ◌∷◌, ◌++◌, length, Option, Some, None, codes, refl, sym, ap, ◌∙◌, subst, append_assoc, arith}
use Rattle.std.proofs.lemmas.Bool.{eqb-true, both_ways}
use Rattle.std.proofs.lemmas.List.{append-nil, length-append}
use Rattle.flux_values.specs.declared.values.Value.{Value}
use Rattle.flux_values.specs.declared.values.Value.TheVariants as values
use Rattle.flux_values.specs.declared.answers.CallResult.{CallResult}
use Rattle.flux_values.specs.declared.answers.CallResult.TheVariants as results
use Rattle.flux_values.specs.declared.answers.Put.{Put}
use Rattle.flux_values.specs.declared.texts.TheConstants.{EMISSION_LIMIT}
use Rattle.flux_values.specs.Values.{text_of}
use Rattle.flux_values.specs.Spellings.{SpellsText, BeginsText, IsTextRead}
use Rattle.flux_spelling.proofs.Literals.{one_text}
use Rattle.flux_model.specs.declared.programs.Program.{Program}
use Rattle.flux_model.specs.declared.programs.NodeNo.{NodeNo}
use Rattle.flow_model.specs.declared.journals.CallMade.{CallMade}
use Rattle.flux_model.specs.Names.{IsNamed}
use Rattle.flux_journal.specs.Entries.{IsCellOf, IsTextOf}
use Rattle.flux_journal.specs.Spelled.{Behind, Before, BeginEach, BeginsValue, BeginsNext, BeginClosed, BeginValues, BeginsResult, BeginsChange, BeginsPut, IsEmission, IsCallText}
use Rattle.flux_journal.specs.steps.Cuts.{HasNone, IsCut}
use Rattle.flux_journal.specs.steps.Reading.{BeginsNone, IsNotBehind, AreAdded, NoMore, BeginsCell, BeginsName, BeginsSet, BeginsRemoved, NoPut, IsBadPut, NoPuts, IsWholeRead, IsEmitted, IsCallAt}
use Rattle.flux_journal.specs.declared.faults.LineFault.{LineFault}
use Rattle.flux_journal.proofs.Failing.{on_bad}
use Rattle.flux_journal.proofs.Cutting.{same_cut, no_cut}
use Rattle.flux_journal.proofs.Parted.{behind_word, value_once, each_once, each_alike, each_push, over}
use Rattle.flux_journal.proofs.Called.{at_place, next_once, no_next_closed, values_once, result_once, cell_clean, cell_once, put_once, put_marked, emission_no_put}

-- ---- words

-- nothing comes after a word that isn't there
pub not_behind : {X : Type 0} (word text : List ℕ) (Then : X → List ℕ → List ℕ → Type 0) → IsNotBehind word text → (x : X) (tail : List ℕ) → Behind word (Then x tail) text → ⊥
not_behind word text Then none x tail b = none b.rest b.laid

-- ---- values

not_text : (v : Value) (t : List ℕ) → None ≡ text_of v → v ≡ values.Text t → ⊥
not_text v t none e = let f : None ≡ Some t = none ∙ ap text_of e in absurd cc

-- a value whose text this is
pub the_text : (v : Value) (t : List ℕ) → Some t ≡ text_of v → v ≡ values.Text t
the_text (values.Int x) t is = absurd cc
the_text (values.Bool x) t is = absurd cc
the_text (values.Text u) t is = cc

pub other_no_name : (text : List ℕ) (v : Value) (rest : List ℕ) → None ≡ text_of v → BeginsValue text v rest → BeginsNone BeginsName text
other_no_name text v rest other begins name tail named = let one = value_once text v (values.Text name) rest tail begins named in not_text v name other one.given

pub more_pushed : (old now new : List Value) (text rest front behind : List ℕ) (v : Value) → AreAdded old now text rest → rest ≡ codes ", " ++ front → BeginsValue front v behind → new ≡ now ++ v ∷ [] → AreAdded old new text behind
more_pushed old now new text rest front behind v so laid begins is = record {
  more = so.more ++ v ∷ [];
  are = is ∙ ap (λ (l : List Value). l ++ v ∷ []) so.are ∙ append_assoc old so.more (v ∷ []);
  each = each_push BeginsNext next_once so.more v text rest behind so.each (record { rest = front; laid = laid; then_ = begins });
}

-- no value comes after a comma
pub more_bad : (old now : List Value) (text rest front : List ℕ) → AreAdded old now text rest → rest ≡ codes ", " ++ front → BeginsNone BeginsValue front → NoMore text
more_bad old now text rest front so laid none more tail each = elim (each_alike BeginsNext next_once so.more more text rest (codes ")" ++ tail) so.each each) [
  | inl on ↦ let o = over BeginsNext next_once on.more rest (codes ")" ++ tail) no_next on.each in at_place 0 44 41 (codes ", " ++ front) (codes ")" ++ tail) refl refl (omega arith) (sym laid ∙ o.1)
  | inr on ↦ let o = over BeginsNext next_once on.more (codes ")" ++ tail) rest (no_next_closed tail) on.each in at_place 0 41 44 (codes ")" ++ tail) (codes ", " ++ front) refl refl (omega arith) (o.1 ∙ laid)
]
  where
    no_next : (v : Value) (behind : List ℕ) → BeginsNext rest v behind → ⊥
    no_next v behind next = none v behind (subst (λ (t : List ℕ). BeginsValue t v behind) (behind_word (codes ", ") next.rest front rest next.laid laid) next.then_)

-- after a first value
pub closed_no_value : (text : List ℕ) → IsNotBehind (codes ")") text → BeginsNone BeginsValue text → BeginsNone BeginClosed text
closed_no_value text open_ none [] tail closed = open_ tail closed
closed_no_value text open_ none (v ∷ vs) tail closed = none v closed.rest closed.part

pub closed_no_more : (text rest : List ℕ) (v : Value) → IsNotBehind (codes ")") text → BeginsValue text v rest → NoMore rest → BeginsNone BeginClosed text
closed_no_more text rest v open_ begins none [] tail closed = open_ tail closed
closed_no_more text rest v open_ begins none (w ∷ ws) tail closed =
    let one = value_once text v w rest closed.rest begins closed.part in
    none ws tail (subst (λ (t : List ℕ). BeginEach BeginsNext t ws (codes ")" ++ tail)) (sym one.rest) closed.then_)

no_comma : (rest : List ℕ) → IsNotBehind (codes ", ") rest → BeginsNone BeginsNext rest
no_comma rest none v tail next = none next.rest next.laid

pub closed_no_end : (text mid rest : List ℕ) (v : Value) (first all : List Value) → IsNotBehind (codes ")") text → BeginsValue text v mid → AreAdded first all mid rest → IsNotBehind (codes ", ") rest → IsNotBehind (codes ")") rest → BeginsNone BeginClosed text
closed_no_end text mid rest v first all open_ begins so comma end [] tail closed = open_ tail closed
closed_no_end text mid rest v first all open_ begins so comma end (w ∷ ws) tail closed =
    let one = value_once text v w mid closed.rest begins closed.part in
    let more = each_once BeginsNext next_once so.more ws mid rest (codes ")" ++ tail) (no_comma rest comma) (no_next_closed tail) so.each (subst (λ (t : List ℕ). BeginEach BeginsNext t ws (codes ")" ++ tail)) (sym one.rest) closed.then_) in
    end tail more.rest

pub closed_read : (text mid rest end : List ℕ) (v : Value) (first all : List Value) → first ≡ v ∷ [] → BeginsValue text v mid → AreAdded first all mid rest → rest ≡ codes ")" ++ end → BeginClosed text all end
closed_read text mid rest end v first all is begins so laid =
    let are : all ≡ v ∷ so.more = so.are ∙ ap (λ (l : List Value). l ++ so.more) is in
    subst (λ (l : List Value). BeginClosed text l end) (sym are) (record { rest = mid; part = begins; then_ = subst (BeginEach BeginsNext mid so.more) laid so.each })

-- ---- changes of cells

pub cell_none : (p : Program) → IsNamed p → (text front behind : List ℕ) → IsCut 32 text front behind → (IsCellOf p front → ⊥) → BeginsNone (BeginsCell p) text
cell_none p named text front behind cut none cell tail b =
    let same = same_cut 32 front cell behind tail cut.none (cell_clean p named cell b.is_cell) (sym cut.laid ∙ b.laid ∙ append_assoc cell (32 ∷ []) tail) in
    none (subst (IsCellOf p) (sym same.front) b.is_cell)

pub cell_no_space : (p : Program) (text : List ℕ) → HasNone 32 text → BeginsNone (BeginsCell p) text
cell_no_space p text clean cell tail b = no_cut 32 text cell tail clean (b.laid ∙ append_assoc cell (32 ∷ []) tail)

-- what follows ` put ` has its parts
module _ (p : Program) (named : IsNamed p) (text mid : List ℕ) (cell : List ℕ) (begins : BeginsCell p text cell mid) where
  pub set_no_name : BeginsNone BeginsName mid → (put : Put) (tail : List ℕ) → BeginsSet p text put tail put.value → ⊥
  set_no_name none put tail set = by_value put.value set
    where
      by_value : (v : Option Value) → BeginsSet p text put tail v → ⊥
      by_value None h = h
      by_value (Some v) h =
          let b = h.1 in
          let same = cell_once p named text cell put.cell mid b.rest begins.is_cell h.0 begins.laid b.laid in
          let x = b.then_ in
          none put.name x.rest (subst (λ (t : List ℕ). BeginsName t put.name x.rest) (sym same.rest) x.part)

  pub set_no_space : (name end : List ℕ) → BeginsName mid name end → IsNotBehind (codes " ") end → (put : Put) (tail : List ℕ) → BeginsSet p text put tail put.value → ⊥
  set_no_space name end is none put tail set = by_value put.value set
    where
      by_value : (v : Option Value) → BeginsSet p text put tail v → ⊥
      by_value None h = h
      by_value (Some v) h =
          let b = h.1 in
          let same = cell_once p named text cell put.cell mid b.rest begins.is_cell h.0 begins.laid b.laid in
          let x = b.then_ in
          let one = value_once mid (values.Text name) (values.Text put.name) end x.rest is (subst (λ (t : List ℕ). BeginsName t put.name x.rest) (sym same.rest) x.part) in
          let y = x.then_ in
          none y.rest (one.rest ∙ y.laid)

  pub set_no_value : (name end last : List ℕ) → BeginsName mid name end → end ≡ codes " " ++ last → BeginsNone BeginsValue last → (put : Put) (tail : List ℕ) → BeginsSet p text put tail put.value → ⊥
  set_no_value name end last is laid none put tail set = by_value put.value set
    where
      by_value : (v : Option Value) → BeginsSet p text put tail v → ⊥
      by_value None h = h
      by_value (Some v) h =
          let b = h.1 in
          let same = cell_once p named text cell put.cell mid b.rest begins.is_cell h.0 begins.laid b.laid in
          let x = b.then_ in
          let one = value_once mid (values.Text name) (values.Text put.name) end x.rest is (subst (λ (t : List ℕ). BeginsName t put.name x.rest) (sym same.rest) x.part) in
          let y = x.then_ in
          let space = behind_word (codes " ") last y.rest end laid (one.rest ∙ y.laid) in
          none v tail (subst (λ (t : List ℕ). BeginsValue t v tail) (sym space) y.then_)

  pub removed_no_name : BeginsNone BeginsName mid → (put : Put) (tail : List ℕ) → BeginsRemoved p text put tail put.value → ⊥
  removed_no_name none put tail removed = by_value put.value removed
    where
      by_value : (v : Option Value) → BeginsRemoved p text put tail v → ⊥
      by_value (Some v) h = h
      by_value None h =
          let b = h.1 in
          let same = cell_once p named text cell put.cell mid b.rest begins.is_cell h.0 begins.laid b.laid in
          none put.name tail (subst (λ (t : List ℕ). BeginsName t put.name tail) (sym same.rest) b.then_)

-- after its mark a change has its parts
pub bad_set : (p : Program) (text front : List ℕ) → text ≡ codes " put " ++ front → ((put : Put) (tail : List ℕ) → BeginsSet p front put tail put.value → ⊥) → IsBadPut p text
bad_set p text front laid none = record { marked = λ no_. no_.no_put front laid; none = λ put tail begins. by_value put tail begins.cell put.value begins.change (λ v. none put tail) }
  where
    by_value : (put : Put) (tail : List ℕ) → IsCellOf p put.cell → (v : Option Value) → BeginsChange text put.cell put.name v tail → (Option Value → BeginsSet p front put tail v → ⊥) → ⊥
    by_value put tail is None change no_set = at_place 1 112 99 (codes " put " ++ front) (codes " cut " ++ change.rest) refl refl (omega arith) (sym laid ∙ change.laid)
    by_value put tail is (Some v) change no_set =
        let same = behind_word (codes " put ") change.rest front text change.laid laid in
        no_set None (is, subst (λ (t : List ℕ). Behind (put.cell ++ codes " ") (λ front_. Before BeginsValue (Behind (codes " ") (λ behind. BeginsValue behind v tail)) front_ (values.Text put.name)) t) same change.then_)

pub bad_removed : (p : Program) (text front : List ℕ) → text ≡ codes " cut " ++ front → ((put : Put) (tail : List ℕ) → BeginsRemoved p front put tail put.value → ⊥) → IsBadPut p text
bad_removed p text front laid none = record { marked = λ no_. no_.no_cut front laid; none = λ put tail begins. by_value put tail begins.cell put.value begins.change (λ v. none put tail) }
  where
    by_value : (put : Put) (tail : List ℕ) → IsCellOf p put.cell → (v : Option Value) → BeginsChange text put.cell put.name v tail → (Option Value → BeginsRemoved p front put tail v → ⊥) → ⊥
    by_value put tail is (Some v) change no_cut_ = at_place 1 99 112 (codes " cut " ++ front) (codes " put " ++ change.rest) refl refl (omega arith) (sym laid ∙ change.laid)
    by_value put tail is None change no_cut_ =
        let same = behind_word (codes " cut ") change.rest front text change.laid laid in
        no_cut_ None (is, subst (λ (t : List ℕ). Behind (put.cell ++ codes " ") (λ front_. BeginsValue front_ (values.Text put.name) tail) t) same change.then_)

-- no changes are before an emission where one is bad
pub puts_bad : (p : Program) → IsNamed p → (text rest : List ℕ) (puts : List Put) → BeginEach (BeginsPut p) text puts rest → IsBadPut p rest → NoPuts p text
puts_bad p named text rest puts so bad others tail emits each emission = elim (each_alike (BeginsPut p) (put_once p named) puts others text rest tail so each) [
  | inl on ↦ more on.more on.each
  | inr on ↦ fewer on.more on.each
]
  where
    more : (xs : List Put) → BeginEach (BeginsPut p) rest xs tail → ⊥
    more [] e = bad.marked (subst NoPut (sym e) (emission_no_put tail emits emission))
    more (x ∷ xs) e = bad.none x e.rest e.part

    fewer : (xs : List Put) → BeginEach (BeginsPut p) tail xs rest → ⊥
    fewer [] e = bad.marked (subst NoPut e (emission_no_put tail emits emission))
    fewer (x ∷ xs) e = put_marked p tail x e.rest (emission_no_put tail emits emission) e.part

-- ---- results

pub result_no_values : (text front : List ℕ) → text ≡ codes "ok " ++ front → BeginsNone BeginValues front → BeginsNone BeginsResult text
result_no_values text front laid none (results.Good vs) tail b = none vs tail (subst (λ (t : List ℕ). BeginValues t vs tail) (behind_word (codes "ok ") b.rest front text b.laid laid) b.then_)
result_no_values text front laid none (results.Bad code) tail b = at_place 0 111 102 (codes "ok " ++ front) (codes "fail " ++ b.rest) refl refl (omega arith) (sym laid ∙ b.laid)

-- ---- emissions

as_whole : (text bytes : List ℕ) → SpellsText text bytes → IsTextOf EMISSION_LIMIT bytes → BeginsText text bytes EMISSION_LIMIT (length text)
as_whole text bytes spells is = record { spelling = text; rest = []; each = is.each; few = is.few; spells = spells; front = sym (append-nil text); long = refl }

pub emitted_none : (text : List ℕ) → IsTextRead text EMISSION_LIMIT None → (x : List ℕ) → IsEmitted text x → ⊥
emitted_none text none [] is = is
emitted_none text none (b ∷ x) is = none (b ∷ x) (length text) (as_whole text (b ∷ x) is.0 is.1)

pub emitted_part : (text t : List ℕ) (n : ℕ) → BeginsText text t EMISSION_LIMIT n → (n ≡ length text → ⊥) → (x : List ℕ) → IsEmitted text x → ⊥
emitted_part text t n begins part [] is = is
emitted_part text t n begins part (b ∷ x) is = let one = one_text text t (b ∷ x) EMISSION_LIMIT n (length text) begins (as_whole text (b ∷ x) is.0 is.1) in part one.long

pub emitted_empty : (text t : List ℕ) (n : ℕ) → BeginsText text t EMISSION_LIMIT n → t ≡ [] → (x : List ℕ) → IsEmitted text x → ⊥
emitted_empty text t n begins empty [] is = is
emitted_empty text t n begins empty (b ∷ x) is =
    let one = one_text text t (b ∷ x) EMISSION_LIMIT n (length text) begins (as_whole text (b ∷ x) is.0 is.1) in
    at_place 0 0 (b + 1) (map suc []) (map suc (b ∷ x)) refl (omega arith) (omega arith) (ap (map suc) (sym empty ∙ one.text))

whole_spelling : (spelling rest text : List ℕ) → text ≡ spelling ++ rest → length spelling ≡ length text → spelling ≡ text
whole_spelling spelling [] text laid n = sym (laid ∙ append-nil spelling)
whole_spelling spelling (b ∷ rest) text laid n = absurd (omega (arith, n, ap length laid, length-append spelling (b ∷ rest)))

pub emitted_is : (text t : List ℕ) (n : ℕ) → BeginsText text t EMISSION_LIMIT n → n ≡ length text → (t ≡ [] → ⊥) → IsEmitted text t
emitted_is text [] n begins all some = some refl
emitted_is text (b ∷ t) n begins all some = (subst (λ (s : List ℕ). SpellsText s (b ∷ t)) (whole_spelling begins.spelling begins.rest text begins.front (sym begins.long ∙ all)) begins.spells, record { each = begins.each; few = begins.few })

pub emission_read : (text rest : List ℕ) (r : Result (List ℕ) LineFault) → text ≡ codes " emits " ++ rest → IsWholeRead (IsEmitted rest) r → IsWholeRead (IsEmission text) r
emission_read text rest (Ok []) laid is = absurd is
emission_read text rest (Ok (b ∷ x)) laid is = record { rest = rest; laid = laid; then_ = is }
emission_read text rest (Err fault) laid h = on_bad fault h other
  where
    other : ((x : List ℕ) → IsEmitted rest x → ⊥) → (x : List ℕ) → IsEmission text x → ⊥
    other none [] is = at_place 0 0 33 (map suc []) (map suc (codes " emits " ++ rest)) refl refl (omega arith) (ap (map suc) (sym is ∙ laid))
    other none (b ∷ x) is = none (b ∷ x) (subst (λ (t : List ℕ). SpellsText t (b ∷ x) × IsTextOf EMISSION_LIMIT (b ∷ x)) (behind_word (codes " emits ") is.rest rest text is.laid laid) is.then_)

-- ---- calls

module _ (p : Program) (named : IsNamed p) (node : NodeNo) (text : List ℕ) where
  pub call_no_args : BeginsNone BeginValues text → (made : CallMade) → IsCallAt p node text made → ⊥
  call_no_args none made is = let call = is.0 in none made.args (codes " " ++ call.result_text) call.args

  pub call_no_space : (args : List Value) (mid : List ℕ) → BeginValues text args mid → IsNotBehind (codes " ") mid → (made : CallMade) → IsCallAt p node text made → ⊥
  call_no_space args mid begins none made is =
      let call = is.0 in
      let one = values_once args made.args text mid (codes " " ++ call.result_text) begins call.args in
      none call.result_text one.rest

  -- what is in the place of a result
  result_there : (args : List Value) (mid rest : List ℕ) → BeginValues text args mid → mid ≡ codes " " ++ rest → (made : CallMade) (call : IsCallText p text made) → BeginsResult rest made.answer.result call.puts_text
  result_there args mid rest begins laid made call =
      let one = values_once args made.args text mid (codes " " ++ call.result_text) begins call.args in
      let same = behind_word (codes " ") rest call.result_text mid laid one.rest in
      subst (λ (t : List ℕ). BeginsResult t made.answer.result call.puts_text) (sym same) call.result_

  pub call_no_result : (args : List Value) (mid rest : List ℕ) → BeginValues text args mid → mid ≡ codes " " ++ rest → BeginsNone BeginsResult rest → (made : CallMade) → IsCallAt p node text made → ⊥
  call_no_result args mid rest begins laid none made is = let call = is.0 in none made.answer.result call.puts_text (result_there args mid rest begins laid made call)

  -- what is in the place of changes
  puts_there : (args : List Value) (mid rest left : List ℕ) (given : CallResult) → BeginValues text args mid → mid ≡ codes " " ++ rest → BeginsResult rest given left → (made : CallMade) (call : IsCallText p text made) → BeginEach (BeginsPut p) left made.answer.puts call.emission_text
  puts_there args mid rest left given begins laid result_ made call =
      let one = result_once rest given made.answer.result left call.puts_text result_ (result_there args mid rest begins laid made call) in
      subst (λ (t : List ℕ). BeginEach (BeginsPut p) t made.answer.puts call.emission_text) (sym one.rest) call.puts

  pub call_no_puts : (args : List Value) (mid rest left : List ℕ) (given : CallResult) → BeginValues text args mid → mid ≡ codes " " ++ rest → BeginsResult rest given left → NoPuts p left → (made : CallMade) → IsCallAt p node text made → ⊥
  call_no_puts args mid rest left given begins laid result_ none made is =
      let call = is.0 in
      none made.answer.puts call.emission_text made.answer.emits (puts_there args mid rest left given begins laid result_ made call) call.emission

  pub call_no_emission : (args : List Value) (mid rest left end : List ℕ) (given : CallResult) (puts : List Put) → BeginValues text args mid → mid ≡ codes " " ++ rest → BeginsResult rest given left → BeginEach (BeginsPut p) left puts end → NoPut end
      → ((x : List ℕ) → IsEmission end x → ⊥) → (made : CallMade) → IsCallAt p node text made → ⊥
  call_no_emission args mid rest left end given puts begins laid result_ each over_ none made is =
      let call = is.0 in
      let one = each_once (BeginsPut p) (put_once p named) puts made.answer.puts left end call.emission_text
      (λ put tail b. put_marked p end put tail over_ b)
      (λ put tail b. put_marked p call.emission_text put tail (emission_no_put call.emission_text made.answer.emits call.emission) b)
      each (puts_there args mid rest left given begins laid result_ made call) in
      none made.answer.emits (subst (λ (t : List ℕ). IsEmission t made.answer.emits) (sym one.rest) call.emission)

pub no_bytes : (t : List ℕ) → true ≡ eqb (length t) 0 → t ≡ []
no_bytes [] e = refl
no_bytes (b ∷ t) e = absurd (let no_ : length (b ∷ t) ≡ 0 = eqb-true (length (b ∷ t)) 0 (sym e) in omega arith)

pub some_bytes : (t : List ℕ) → false ≡ eqb (length t) 0 → t ≡ [] → ⊥
some_bytes [] e is = both_ways true (sym e) refl
some_bytes (b ∷ t) e is = let n : length (b ∷ t) ≡ 0 = ap length is in omega arith
