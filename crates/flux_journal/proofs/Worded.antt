-- An event's text by its word and what follows it.
use Rattle.std.proofs.Common.{◌≡◌, ℕ, true, not, eqb, cond, List, [], ◌∷◌, ◌++◌, Option, Some, None, Result, Ok, Err, codes, refl, sym, ap, ◌∙◌, subst}
use Rattle.std.specs.List.{list_all}
use Rattle.std.specs.Str.{bytes_eq}
use Rattle.std.specs.Fmt.{decimal}
use Rattle.flux_model.specs.declared.programs.Program.{Program}
use Rattle.flow_model.specs.declared.journals.Event.{Event}
use Rattle.flow_model.specs.declared.journals.Event.TheVariants as events
use Rattle.flux_model.specs.Texts.{node_name}
use Rattle.flux_journal.specs.declared.lines.Word.{Word}
use Rattle.flux_journal.specs.declared.lines.Word.TheVariants as words
use Rattle.flux_journal.specs.Spelled.{IsEventText}
use Rattle.flux_journal.specs.steps.Cuts.{HasNone, IsCut}
use Rattle.flux_journal.specs.steps.Events.{word_text, word_of, IsRestOf, IsNoRest, IsRestRead}
use Rattle.flux_journal.specs.steps.Reading.{IsWholeRead}
use Rattle.flux_journal.proofs.Cutting.{not_back, same_cut, no_cut}
use Rattle.flux_journal.proofs.Keying.{both_true}
use Rattle.flux_journal.proofs.Failing.{on_bad}

-- ---- words

pub clean_by : (m : ℕ) (text : List ℕ) → list_all (λ b. not (eqb b m)) text ≡ true → HasNone m text
clean_by m [] e = tt
clean_by m (b ∷ text) e = let two = both_true (not (eqb b m)) (list_all (λ c. not (eqb c m)) text) e in (not_back (eqb b m) two.0, clean_by m text two.1)

pub word_clean : (w : Word) → HasNone 32 (word_text w)
word_clean words.Take = clean_by 32 (codes "take") refl
word_clean words.Wait = clean_by 32 (codes "wait") refl
word_clean words.Enter = clean_by 32 (codes "enter") refl
word_clean words.Choose = clean_by 32 (codes "choose") refl
word_clean words.Call = clean_by 32 (codes "call") refl
word_clean words.Exit = clean_by 32 (codes "exit") refl
word_clean words.Drop = clean_by 32 (codes "drop") refl
word_clean words.End = clean_by 32 (codes "end") refl

-- the word of a text
abbrev read_back : List ℕ → Option Word
read_back text =
    cond (bytes_eq text (codes "take")) (Some words.Take) (
    cond (bytes_eq text (codes "wait")) (Some words.Wait) (
    cond (bytes_eq text (codes "enter")) (Some words.Enter) (
    cond (bytes_eq text (codes "choose")) (Some words.Choose) (
    cond (bytes_eq text (codes "call")) (Some words.Call) (
    cond (bytes_eq text (codes "exit")) (Some words.Exit) (
    cond (bytes_eq text (codes "drop")) (Some words.Drop) (
    cond (bytes_eq text (codes "end")) (Some words.End) None)))))))

again : (w : Word) → read_back (word_text w) ≡ Some w
again words.Take = refl
again words.Wait = refl
again words.Enter = refl
again words.Choose = refl
again words.Call = refl
again words.Exit = refl
again words.Drop = refl
again words.End = refl

pub same_word : (v w : Word) → word_text v ≡ word_text w → v ≡ w
same_word v w e = let both : Some v ≡ Some w = sym (again v) ∙ ap read_back e ∙ again w in cc

-- ---- events

-- what follows an event's word
pub record HasRest (p : Program) (text : List ℕ) (event : Event) : Type 0 where
  pub rest : List ℕ
  pub laid : text ≡ word_text (word_of event) ++ 32 ∷ rest
  pub is : IsRestOf p rest event

pub rest_of : (p : Program) (text : List ℕ) (event : Event) → IsEventText p text event → HasRest p text event
rest_of p text (events.Take key mode) is = record { rest = _; laid = is.1; is = (is.0, refl) }
rest_of p text (events.Wait key mode) is = record { rest = _; laid = is.1; is = (is.0, refl) }
rest_of p text (events.Enter node) is = record { rest = node_name p node; laid = is.1; is = (is.0, refl) }
rest_of p text (events.Choose place) is = record { rest = decimal place; laid = is.1; is = (is.0, refl) }
rest_of p text (events.Call made) is =
    let b = is.1 in
    record { rest = (node_name p made.node ++ codes " ") ++ b.rest; laid = b.laid; is = record { node_ = is.0; call = record { rest = b.rest; laid = refl; then_ = b.then_ } } }
rest_of p text (events.Exit node outcome) is = record { rest = _; laid = is.2; is = record { node_ = is.0; outcome_ = is.1; laid = refl } }
rest_of p text (events.Drop key) is = record { rest = _; laid = is.1; is = (is.0, refl) }
rest_of p text (events.End outcome) is = record { rest = _; laid = is.1; is = (is.0, refl) }

-- an event by its word and its rest
rest_back : (p : Program) (text rest : List ℕ) (event : Event) → IsRestOf p rest event → text ≡ word_text (word_of event) ++ 32 ∷ rest → IsEventText p text event
rest_back p text rest (events.Take key mode) is laid = (is.0, laid ∙ ap (λ (r : List ℕ). codes "take" ++ 32 ∷ r) is.1)
rest_back p text rest (events.Wait key mode) is laid = (is.0, laid ∙ ap (λ (r : List ℕ). codes "wait" ++ 32 ∷ r) is.1)
rest_back p text rest (events.Enter node) is laid = (is.0, laid ∙ ap (λ (r : List ℕ). codes "enter" ++ 32 ∷ r) is.1)
rest_back p text rest (events.Choose place) is laid = (is.0, laid ∙ ap (λ (r : List ℕ). codes "choose" ++ 32 ∷ r) is.1)
rest_back p text rest (events.Call made) is laid =
    let call = is.call in
    (is.node_, record { rest = call.rest; laid = laid ∙ ap (λ (r : List ℕ). codes "call" ++ 32 ∷ r) call.laid; then_ = call.then_ })
rest_back p text rest (events.Exit node outcome) is laid = (is.node_, is.outcome_, laid ∙ ap (λ (r : List ℕ). codes "exit" ++ 32 ∷ r) is.laid)
rest_back p text rest (events.Drop key) is laid = (is.0, laid ∙ ap (λ (r : List ℕ). codes "drop" ++ 32 ∷ r) is.1)
rest_back p text rest (events.End outcome) is laid = (is.0, laid ∙ ap (λ (r : List ℕ). codes "end" ++ 32 ∷ r) is.1)

pub no_rest : (p : Program) (text : List ℕ) (event : Event) → IsNoRest p text (word_of event) → IsRestOf p text event → ⊥
no_rest p text (events.Take key mode) none is = none key mode is
no_rest p text (events.Wait key mode) none is = none key mode is
no_rest p text (events.Enter node) none is = none node is
no_rest p text (events.Choose place) none is = none place is
no_rest p text (events.Call made) none is = none made is
no_rest p text (events.Exit node outcome) none is = none node outcome is
no_rest p text (events.Drop key) none is = none key is
no_rest p text (events.End outcome) none is = none outcome is

-- no space
pub event_no_cut : (p : Program) (text : List ℕ) → HasNone 32 text → (event : Event) → IsEventText p text event → ⊥
event_no_cut p text clean event is = let r = rest_of p text event is in no_cut 32 text (word_text (word_of event)) r.rest clean r.laid

-- no word
pub event_no_word : (p : Program) (text front behind : List ℕ) → IsCut 32 text front behind → ((w : Word) → front ≡ word_text w → ⊥) → (event : Event) → IsEventText p text event → ⊥
event_no_word p text front behind cut none event is =
    let r = rest_of p text event is in
    let same = same_cut 32 front (word_text (word_of event)) behind r.rest cut.none (word_clean (word_of event)) (sym cut.laid ∙ r.laid) in
    none (word_of event) same.front

-- what is read after a word
pub event_read : (p : Program) (text front behind : List ℕ) (w : Word) → IsCut 32 text front behind → front ≡ word_text w → (r : Result Event _) → IsRestRead p w behind r → IsWholeRead (IsEventText p text) r
event_read p text front behind w cut is (Ok event) read =
    rest_back p text behind event read.1 (cut.laid ∙ ap (λ (t : List ℕ). t ++ 32 ∷ behind) (is ∙ ap word_text (sym read.0)))
event_read p text front behind w cut is (Err fault) read = on_bad fault read other
  where
    other : IsNoRest p behind w → (event : Event) → IsEventText p text event → ⊥
    other none event event_is =
        let r = rest_of p text event event_is in
        let same = same_cut 32 front (word_text (word_of event)) behind r.rest cut.none (word_clean (word_of event)) (sym cut.laid ∙ r.laid) in
        let word : w ≡ word_of event = same_word w (word_of event) (sym is ∙ same.front) in
        no_rest p r.rest event (subst (λ (t : List ℕ). IsNoRest p t (word_of event)) same.rest (subst (IsNoRest p behind) word none)) r.is
