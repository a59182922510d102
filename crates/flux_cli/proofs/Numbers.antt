-- Numbers of flows with commas between them, and the values of options: each is read one way.
use Rattle.std.proofs.Common.{◌≡◌, ◌⊎◌, inl, inr, ℕ, Option, Some, None, zero, suc, ◌+◌, ◌-◌, ◌*◌, ◌<◌, ◌≤◌, List, [], ◌∷◌, ◌++◌, length, take, get_or, refl, sym, ap, ◌∙◌, subst, arith, codes}
use Rattle.std.specs.Prelude.{◌↔◌, ◌==◌, if◌then◌else◌, Bool, IsTrue}
use Rattle.std.specs.Option.{is_some}
use native.Mathlib.Bridge.{le_prop}
use Rattle.std.specs.List.{AllByRecursion, slice_split}
use Rattle.std.proofs.lemmas.List.{append_cancel_left, take_more, take_all}
use Rattle.flux_model.specs.declared.items.FlowNo.{FlowNo}
use Rattle.flux_cli.specs.declared.values.TheConstants.{NUMBER_LIMIT, WORKER_LIMIT, PORT_LIMIT, BATCHES_LIMIT}
use Rattle.flux_cli.specs.declared.workers.Workers.{Workers}
use Rattle.flux_cli.specs.declared.values.Runtime.{Runtime}
use Rattle.flux_cli.specs.declared.values.Runtime.TheVariants.{Event, EventWithHelpers, Script, PerFlow, Pool}
use Rattle.flux_cli.specs.declared.values.JournalFormat.{JournalFormat}
use Rattle.flux_cli.specs.declared.values.JournalFormat.TheVariants.{One, Two}
use Rattle.flux_cli.specs.Values.{is_comma, IsDigit, number_from, SpellsNumber, SpellEach, SpellsNumbers, SpellsRuntime, StartsThreads, SpellsFormat, IsRuntime, IsFormat, IsPort, IsBatches}
use Rattle.flux_cli.specs.declared.replies.Replying.{Replying}
use Rattle.flux_cli.specs.declared.replies.Replying.TheVariants.{AtEnd, AtOnce}
use Rattle.flux_cli.specs.Replies.{IsAtOnce, IsReplying}
use Rattle.flux_cli.specs.steps.Found.{AreSoFar, IsThreadedRead, IsThreaded, IsRuntimeRead}

-- ---- one number

-- digits after a number spell no smaller one
from_least : (before : ℕ) (digits : List ℕ) → before ≤ number_from before digits
from_least before [] = omega arith
from_least before (b ∷ digits) = let more = from_least (10 * before + (b - 48)) digits in omega (arith, more)

-- how far digits have been read: the number so far, with those that are left
pub record AreRead (most : ℕ) (digits rest : List ℕ) (number : ℕ) : Type 0 where
  pub same : number_from number rest ≡ number_from 0 digits
  pub small : number ≤ most
  pub to : AllByRecursion IsDigit rest → AllByRecursion IsDigit digits
  pub from : AllByRecursion IsDigit digits → AllByRecursion IsDigit rest

pub none_read : (most : ℕ) (digits : List ℕ) → AreRead most digits digits 0
none_read most digits = record { same = refl; small = omega arith; to = λ all. all; from = λ all. all }

module _ (most : ℕ) (digits rest : List ℕ) (number b : ℕ) (others : List ℕ) (so : AreRead most digits rest number) (is : rest ≡ b ∷ others) where
  pub one_read : IsDigit b → 10 * number + (b - 48) ≤ most → AreRead most digits others (10 * number + (b - 48))
  one_read digit small = record {
    same = ap (number_from number) (sym is) ∙ so.same;
    small = small;
    to = λ all. so.to (subst (AllByRecursion IsDigit) (sym is) (digit, all));
    from = λ all. let own : AllByRecursion IsDigit (b ∷ others) = subst (AllByRecursion IsDigit) is (so.from all) in own.1;
  }

  -- what is no digit is none of a number
  pub no_digit : (IsDigit b → ⊥) → AllByRecursion IsDigit digits → ⊥
  no_digit other all =
      let own : AllByRecursion IsDigit (b ∷ others) = subst (AllByRecursion IsDigit) is (so.from all) in other own.0

  -- past the limit no digit leads back
  past_limit : most < 10 * number + (b - 48) → number_from 0 digits ≤ most → ⊥
  past_limit past small =
      let whole : number_from (10 * number + (b - 48)) others ≡ number_from 0 digits = ap (number_from number) (sym is) ∙ so.same in
      let least = from_least (10 * number + (b - 48)) others in
      omega (arith, whole, least, past, small)

pub past_first : (most : ℕ) (digits rest : List ℕ) (number x : ℕ) → AreRead most digits rest number → 1 ≤ length rest → x ≡ get_or rest 0 0 - 48
    → most < 10 * number + x → number_from 0 digits ≤ most → ⊥
past_first most digits [] number x so some is past small = omega (arith, some)
past_first most digits (b ∷ others) number x so some is past small =
    let own : x ≡ b - 48 = is in
    past_limit most digits (b ∷ others) number b others so refl (omega (arith, own, past)) small

pub same_flow : (a b : FlowNo) → a.0 ≡ b.0 → a ≡ b
same_flow a b e = ap (λ (n : ℕ). let f : FlowNo = record { 0 = n } in f) e

pub one_number : (least most : ℕ) (digits : List ℕ) (a b : ℕ) → SpellsNumber least most digits a → SpellsNumber least most digits b → a ≡ b
one_number least most digits a b s t = s.value ∙ sym t.value

-- digits of a number past a limit, or below the least, spell none
pub none_past : (least most : ℕ) (digits : List ℕ) → (AllByRecursion IsDigit digits → number_from 0 digits ≤ most → ⊥) → (number : ℕ) → SpellsNumber least most digits number → ⊥
none_past least most digits past number s = past s.decimal_ (omega (arith, s.value, s.to))

-- ---- numbers

one_list : (pieces : List (List ℕ)) (xs ys : List FlowNo) → SpellEach pieces xs → SpellEach pieces ys → xs ≡ ys
one_list [] [] [] s t = refl
one_list [] [] (y ∷ ys) s t = absurd t
one_list [] (x ∷ xs) ys s t = absurd s
one_list (digits ∷ pieces) [] ys s t = absurd s
one_list (digits ∷ pieces) (x ∷ xs) [] s t = absurd t
one_list (digits ∷ pieces) (x ∷ xs) (y ∷ ys) s t =
    ap (λ (f : FlowNo). f ∷ xs) (same_flow x y (one_number 0 NUMBER_LIMIT digits x.0 y.0 s.0 t.0)) ∙ ap (λ (l : List FlowNo). y ∷ l) (one_list pieces xs ys s.1 t.1)

-- no number is spelled by nothing
none_empty : (ys : List FlowNo) → SpellEach ([] ∷ []) ys → ⊥
none_empty [] s = s
none_empty (y ∷ ys) s = let some = s.0 in omega (arith, some.some)

empty_split : (list : List ℕ) (ys : List FlowNo) → list ≡ [] → SpellEach (slice_split is_comma list) ys → ⊥
empty_split list ys e s = none_empty ys (subst (λ (l : List ℕ). SpellEach (slice_split is_comma l) ys) e s)

pub one_numbers : (list : List ℕ) (xs ys : List FlowNo) → SpellsNumbers list xs → SpellsNumbers list ys → xs ≡ ys
one_numbers list xs ys a b = by a.laid b.laid
  where
    by : ((list ≡ []) × (xs ≡ [])) ⊎ SpellEach (slice_split is_comma list) xs
        → ((list ≡ []) × (ys ≡ [])) ⊎ SpellEach (slice_split is_comma list) ys → xs ≡ ys
    by (inl e) (inl f) = e.1 ∙ sym f.1
    by (inl e) (inr f) = absurd (empty_split list ys e.0 f)
    by (inr e) (inl f) = absurd (empty_split list xs f.0 e)
    by (inr e) (inr f) = one_list (slice_split is_comma list) xs ys e f

each_more : (pieces : List (List ℕ)) (xs : List FlowNo) (digits : List ℕ) (y : FlowNo) → SpellEach pieces xs → SpellsNumber 0 NUMBER_LIMIT digits y.0
    → SpellEach (pieces ++ digits ∷ []) (xs ++ y ∷ [])
each_more [] [] digits y s t = (t, tt)
each_more [] (x ∷ xs) digits y s t = absurd s
each_more (piece ∷ pieces) [] digits y s t = absurd s
each_more (piece ∷ pieces) (x ∷ xs) digits y s t = (s.0, each_more pieces xs digits y s.1 t)

pub number_more : (list : List ℕ) (n : ℕ) (digits : List ℕ) (numbers new : List FlowNo) (flow : FlowNo) → AreSoFar list n numbers
    → (n < length (slice_split is_comma list)) × (digits ≡ get_or (slice_split is_comma list) n digits) → SpellsNumber 0 NUMBER_LIMIT digits flow.0
    → new ≡ numbers ++ flow ∷ [] → AreSoFar list (n + 1) new
number_more list n digits numbers new flow so at spells new_ =
    let pieces = slice_split is_comma list in
    let one_more : take (n + 1) pieces ≡ take n pieces ++ digits ∷ [] =
    take_more pieces n digits at.0 ∙ ap (λ (l : List ℕ). take n pieces ++ l ∷ []) (sym at.1) in
    subst (AreSoFar list (n + 1)) (sym new_)
    (subst (λ (ps : List (List ℕ)). SpellEach ps (numbers ++ flow ∷ [])) (sym one_more) (each_more (take n pieces) numbers digits flow so spells))

pub all_numbers : (list : List ℕ) (n : ℕ) (numbers : List FlowNo) → AreSoFar list n numbers → n ≡ length (slice_split is_comma list) → SpellsNumbers list numbers
all_numbers list n numbers so end =
    record { laid = inr (subst (λ (ps : List (List ℕ)). SpellEach ps numbers) (take_all n (slice_split is_comma list) (omega (arith, end))) so) }

-- where a piece spells no number, the pieces spell none
no_piece : (pieces : List (List ℕ)) (numbers : List FlowNo) (n : ℕ) (digits : List ℕ) → n < length pieces
    → digits ≡ get_or pieces n digits → ((number : ℕ) → SpellsNumber 0 NUMBER_LIMIT digits number → ⊥) → SpellEach pieces numbers → ⊥
no_piece [] numbers n digits lt is none spell = absurd (omega (arith, lt))
no_piece (piece ∷ pieces) [] n digits lt is none spell = spell
no_piece (piece ∷ pieces) (flow ∷ numbers) zero digits lt is none spell =
    none flow.0 (subst (λ (d : List ℕ). SpellsNumber 0 NUMBER_LIMIT d flow.0) (sym is) spell.0)
no_piece (piece ∷ pieces) (flow ∷ numbers) (suc n) digits lt is none spell =
    no_piece pieces numbers n digits (omega (arith, lt)) is none spell.1

pub no_numbers : (list : List ℕ) (n : ℕ) (digits : List ℕ) → (list ≡ [] → ⊥)
    → (n < length (slice_split is_comma list)) × (digits ≡ get_or (slice_split is_comma list) n digits)
    → ((number : ℕ) → SpellsNumber 0 NUMBER_LIMIT digits number → ⊥) → (numbers : List FlowNo) → SpellsNumbers list numbers → ⊥
no_numbers list n digits some at none numbers spells = elim spells.laid [
  | inl e ↦ some e.0
  | inr e ↦ no_piece (slice_split is_comma list) numbers n digits at.0 at.1 none e
]

-- ---- values

-- what the second letter of a value says of the runtime, and after `event` the sixth
mark : Runtime → ℕ
mark Event = 0
mark (EventWithHelpers helpers) = 61
mark (Script numbers) = 99
mark PerFlow = 101
mark (Pool workers) = 111

telling : List ℕ → ℕ
telling value = if get_or value 1 0 == 118 then get_or value 5 0 else get_or value 1 0

marked : (value : List ℕ) (a : Runtime) → SpellsRuntime value a → telling value ≡ mark a
unfolding mark telling
marked value Event s = ap (λ (l : List ℕ). telling l) s
marked value (EventWithHelpers helpers) s = ap (λ (l : List ℕ). telling l) s.1
marked value (Script numbers) s = ap (λ (l : List ℕ). telling l) s.1
marked value PerFlow s = ap (λ (l : List ℕ). telling l) s
marked value (Pool workers) s = ap (λ (l : List ℕ). telling l) s.1

abbrev workers_of : (count : ℕ) → 1 ≤ count → count ≤ 16 → Workers
workers_of count some few = record { count = count; some = some; few = few }

same_count : (m n : ℕ) → m ≡ n → (some : 1 ≤ m) (some' : 1 ≤ n) (few : m ≤ 16) (few' : n ≤ 16)
    → workers_of m some few ≡ workers_of n some' few'
same_count m n e = subst
    (λ (k : ℕ). (some : 1 ≤ m) (some' : 1 ≤ k) (few : m ≤ 16) (few' : k ≤ 16) → workers_of m some few ≡ workers_of k some' few') e
    (λ some some' few few'. λ i. workers_of m (le_prop some some' i) (le_prop few few' i))

same_workers : (a b : Workers) → a.count ≡ b.count → a ≡ b
same_workers a b e = same_count a.count b.count e a.some b.some a.few b.few

-- a number that is spelled after a mark is spelled one way
same_behind : (before value : List ℕ) (v w : Workers) → ((digits : List ℕ) × (value ≡ before ++ digits) × SpellsNumber 1 WORKER_LIMIT digits v.count)
    → ((digits : List ℕ) × (value ≡ before ++ digits) × SpellsNumber 1 WORKER_LIMIT digits w.count) → v ≡ w
same_behind before value v w s t =
    let same : s.0 ≡ t.0 = append_cancel_left before s.0 t.0 (sym s.1 ∙ t.1) in
    same_workers v w (one_number 1 WORKER_LIMIT t.0 v.count w.count (subst (λ (l : List ℕ). SpellsNumber 1 WORKER_LIMIT l v.count) same s.2) t.2)

-- digits that spell no number of workers spell none after a mark
none_behind : (before value digits : List ℕ) (v : Workers) → value ≡ before ++ digits → ((number : ℕ) → SpellsNumber 1 WORKER_LIMIT digits number → ⊥)
    → ((own : List ℕ) × (value ≡ before ++ own) × SpellsNumber 1 WORKER_LIMIT own v.count) → ⊥
none_behind before value digits v is none s =
    let same : s.0 ≡ digits = append_cancel_left before s.0 digits (sym s.1 ∙ is) in
    none v.count (subst (λ (l : List ℕ). SpellsNumber 1 WORKER_LIMIT l v.count) same s.2)

value_by_mark : (value : List ℕ) (a b : Runtime) → mark a ≡ mark b → SpellsRuntime value a → SpellsRuntime value b → a ≡ b
unfolding mark
value_by_mark value Event Event m s t = refl
value_by_mark value (Script xs) (Script ys) m s t =
    let same : s.0 ≡ t.0 = append_cancel_left (codes "script=") s.0 t.0 (sym s.1 ∙ t.1) in
    ap Script (one_numbers t.0 xs ys (subst (λ (l : List ℕ). SpellsNumbers l xs) same s.2) t.2)
value_by_mark value PerFlow PerFlow m s t = refl
value_by_mark value (EventWithHelpers v) (EventWithHelpers w) m s t = ap EventWithHelpers (same_behind (codes "event=") value v w s t)
value_by_mark value (Pool v) (Pool w) m s t = ap Pool (same_behind (codes "pool=") value v w s t)
value_by_mark value a b m s t = absurd (omega (arith, m))

one_value : (value : List ℕ) (a b : Runtime) → SpellsRuntime value a → SpellsRuntime value b → a ≡ b
one_value value a b s t = value_by_mark value a b (sym (marked value a s) ∙ marked value b t) s t

-- a value that begins as a script's spells no other runtime
only_script : (value list : List ℕ) (runtime : Runtime) → value ≡ codes "script=" ++ list → SpellsRuntime value runtime → mark runtime ≡ 99
unfolding telling
only_script value list runtime is s = sym (marked value runtime s) ∙ ap (λ (l : List ℕ). telling l) is

-- no runtime is spelled by a list that spells no numbers
pub no_script : (value list : List ℕ) → value ≡ codes "script=" ++ list
    → ((numbers : List FlowNo) → SpellsNumbers list numbers → ⊥) → (runtime : Runtime) → SpellsRuntime value runtime → ⊥
unfolding mark
no_script value list is none Event s = let e = only_script value list Event is s in omega (arith, e)
no_script value list is none (EventWithHelpers helpers) s = let e = only_script value list (EventWithHelpers helpers) is s in omega (arith, e)
no_script value list is none (Script numbers) s =
    let same : s.0 ≡ list = append_cancel_left (codes "script=") s.0 list (sym s.1 ∙ is) in
    none numbers (subst (λ (l : List ℕ). SpellsNumbers l numbers) same s.2)
no_script value list is none PerFlow s = let e = only_script value list PerFlow is s in omega (arith, e)
no_script value list is none (Pool workers) s = let e = only_script value list (Pool workers) is s in omega (arith, e)

-- no runtime with threads is spelled by a value that is none of these
pub no_threads : (value : List ℕ) → (value ≡ codes "perflow" → ⊥) → ((digits : List ℕ) → value ≡ codes "pool=" ++ digits → ⊥)
    → ((digits : List ℕ) → value ≡ codes "event=" ++ digits → ⊥) → (runtime : Runtime) → SpellsRuntime value runtime → StartsThreads runtime → ⊥
no_threads value other no_pool no_event Event s t = t
no_threads value other no_pool no_event (EventWithHelpers helpers) s t = no_event s.0 s.1
no_threads value other no_pool no_event (Script numbers) s t = t
no_threads value other no_pool no_event PerFlow s t = other s
no_threads value other no_pool no_event (Pool workers) s t = no_pool s.0 s.1

-- and none where no number of workers comes after `pool=`
pub no_workers : (value digits : List ℕ) → value ≡ codes "pool=" ++ digits
    → ((number : ℕ) → SpellsNumber 1 WORKER_LIMIT digits number → ⊥) → (runtime : Runtime) → SpellsRuntime value runtime → StartsThreads runtime → ⊥
unfolding mark telling
no_workers value digits is none (Pool workers) s t = none_behind (codes "pool=") value digits workers is none s
no_workers value digits is none Event s t = t
no_workers value digits is none (Script numbers) s t = t
no_workers value digits is none PerFlow s t =
    let e : 101 ≡ 111 = sym (marked value PerFlow s) ∙ ap (λ (l : List ℕ). telling l) is in omega (arith, e)
no_workers value digits is none (EventWithHelpers helpers) s t =
    let e : 61 ≡ 111 = sym (marked value (EventWithHelpers helpers) s) ∙ ap (λ (l : List ℕ). telling l) is in omega (arith, e)

-- or after `event=`
pub no_helpers : (value digits : List ℕ) → value ≡ codes "event=" ++ digits
    → ((number : ℕ) → SpellsNumber 1 WORKER_LIMIT digits number → ⊥) → (runtime : Runtime) → SpellsRuntime value runtime → StartsThreads runtime → ⊥
unfolding mark telling
no_helpers value digits is none (EventWithHelpers helpers) s t = none_behind (codes "event=") value digits helpers is none s
no_helpers value digits is none Event s t = t
no_helpers value digits is none (Script numbers) s t = t
no_helpers value digits is none PerFlow s t =
    let e : 101 ≡ 61 = sym (marked value PerFlow s) ∙ ap (λ (l : List ℕ). telling l) is in omega (arith, e)
no_helpers value digits is none (Pool workers) s t =
    let e : 111 ≡ 61 = sym (marked value (Pool workers) s) ∙ ap (λ (l : List ℕ). telling l) is in omega (arith, e)

-- the runtime of a value that begins as no script's and isn't `event`
pub threaded_read : (value : List ℕ) (found : Option Runtime) → (value ≡ codes "event" → ⊥) → ((list : List ℕ) → value ≡ codes "script=" ++ list → ⊥)
    → IsThreadedRead value found → IsRuntimeRead (value ∷ []) found
threaded_read value (Some runtime) other none is = is.0
threaded_read value None other none is = λ runtime s. by runtime s
  where
    by : (runtime : Runtime) → SpellsRuntime value runtime → ⊥
    by Event s = other s
    by (Script numbers) s = none s.0 s.1
    by (EventWithHelpers helpers) s = is (EventWithHelpers helpers) s tt
    by PerFlow s = is PerFlow s tt
    by (Pool workers) s = is (Pool workers) s tt

-- one value, and a runtime with threads
pub threaded_one : (value : List ℕ) (found : Option Runtime) → IsThreadedRead value found → IsTrue (is_some found) ↔ IsThreaded (value ∷ [])
threaded_one value (Some runtime) read = ((λ e. record { runtime = runtime; is = read.0; starts = read.1 }), (λ t. refl))
threaded_one value None read = ((λ e. absurd cc), (λ t. absurd (read t.runtime t.is t.starts)))

-- no value, and no runtime with threads
pub threaded_none : IsThreaded [] → ⊥
threaded_none threaded = by threaded.runtime threaded.is threaded.starts
  where
    by : (runtime : Runtime) → runtime ≡ Event → StartsThreads runtime → ⊥
    by Event is starts = starts
    by (Script numbers) is starts = starts
    by (EventWithHelpers helpers) is starts = absurd cc
    by PerFlow is starts = absurd cc
    by (Pool workers) is starts = absurd cc

-- a value that begins as a script's spells that of its numbers
script_numbers : (value list : List ℕ) → value ≡ codes "script=" ++ list → (runtime : Runtime) → SpellsRuntime value runtime → (numbers : List FlowNo) × SpellsNumbers list numbers
unfolding mark
script_numbers value list is Event s = let e = only_script value list Event is s in absurd (omega (arith, e))
script_numbers value list is (EventWithHelpers helpers) s = let e = only_script value list (EventWithHelpers helpers) is s in absurd (omega (arith, e))
script_numbers value list is (Script numbers) s =
    let same : s.0 ≡ list = append_cancel_left (codes "script=") s.0 list (sym s.1 ∙ is) in
    (numbers, subst (λ (l : List ℕ). SpellsNumbers l numbers) same s.2)
script_numbers value list is PerFlow s = let e = only_script value list PerFlow is s in absurd (omega (arith, e))
script_numbers value list is (Pool workers) s = let e = only_script value list (Pool workers) is s in absurd (omega (arith, e))

-- a list for which the answer is that it spells numbers, or none, spells a runtime, or none
pub script_given : (value list : List ℕ) → value ≡ codes "script=" ++ list → (told : Bool)
    → (IsTrue told ↔ ((numbers : List FlowNo) × SpellsNumbers list numbers)) → IsTrue told ↔ ((runtime : Runtime) × SpellsRuntime value runtime)
script_given value list is told both = (λ yes. let found = both.0 yes in (Script found.0, (list, is, found.1)), λ has. both.1 (script_numbers value list is has.0 has.1))

-- a runtime that is read, or none, is the answer
pub runtime_told : (value : List ℕ) (found : Option Runtime) → IsRuntimeRead (value ∷ []) found → IsTrue (is_some found) ↔ ((runtime : Runtime) × IsRuntime (value ∷ []) runtime)
runtime_told value (Some runtime) is = ((λ yes. (runtime, is)), (λ has. refl))
runtime_told value None none = ((λ e. absurd cc), (λ has. absurd (none has.0 has.1)))

pub one_runtime : (values : List (List ℕ)) (a b : Runtime) → IsRuntime values a → IsRuntime values b → a ≡ b
one_runtime [] a b s t = s ∙ sym t
one_runtime (v ∷ []) a b s t = one_value v a b s t
one_runtime (v ∷ w ∷ values) a b s t = absurd s

one_spelled : (value : List ℕ) (a b : JournalFormat) → SpellsFormat value a → SpellsFormat value b → a ≡ b
one_spelled value One One s t = refl
one_spelled value Two Two s t = refl
one_spelled value One Two s t = absurd (let first : 49 ≡ 50 = ap (λ (l : List ℕ). get_or l 0 0) (sym s ∙ t) in omega arith)
one_spelled value Two One s t = absurd (let first : 50 ≡ 49 = ap (λ (l : List ℕ). get_or l 0 0) (sym s ∙ t) in omega arith)

pub one_format : (values : List (List ℕ)) (a b : JournalFormat) → IsFormat values a → IsFormat values b → a ≡ b
one_format [] a b s t = s ∙ sym t
one_format (v ∷ []) a b s t = one_spelled v a b s t
one_format (v ∷ w ∷ values) a b s t = absurd s

-- ---- ports, and counts of batches

pub one_port : (vs : List (List ℕ)) (a b : ℕ) → IsPort vs a → IsPort vs b → a ≡ b
one_port [] a b x y = absurd x
one_port (v ∷ []) a b x y = one_number 1 PORT_LIMIT v a b x y
one_port (v ∷ w ∷ vs) a b x y = absurd x

pub one_batches : (vs : List (List ℕ)) (a b : ℕ) → IsBatches vs a → IsBatches vs b → a ≡ b
one_batches [] a b x y = x ∙ sym y
one_batches (v ∷ []) a b x y = one_number 1 BATCHES_LIMIT v a b x y
one_batches (v ∷ w ∷ vs) a b x y = absurd x

one_at_once : (vs : List (List ℕ)) (a b : ℕ) → IsAtOnce vs a → IsAtOnce vs b → a ≡ b
one_at_once [] a b x y = absurd x
one_at_once (v ∷ []) a b x y = one_number 1 WORKER_LIMIT v a b x y
one_at_once (v ∷ w ∷ vs) a b x y = absurd x

none_at_once : (vs : List (List ℕ)) (workers : ℕ) → vs ≡ [] → IsAtOnce vs workers → ⊥
none_at_once vs workers none is = subst (λ (l : List (List ℕ)). IsAtOnce l workers) none is

pub one_replying : (runtimes at_once : List (List ℕ)) (a b : Replying) → IsReplying runtimes at_once a → IsReplying runtimes at_once b → a ≡ b
one_replying runtimes at_once (AtEnd r) (AtEnd s) x y = ap AtEnd (one_runtime runtimes r s x.1 y.1)
one_replying runtimes at_once (AtOnce v) (AtOnce w) x y = ap AtOnce (same_workers v w (one_at_once at_once v.count w.count x.1 y.1))
one_replying runtimes at_once (AtEnd r) (AtOnce w) x y = absurd (none_at_once at_once w.count x.0 y.1)
one_replying runtimes at_once (AtOnce v) (AtEnd s) x y = absurd (none_at_once at_once v.count y.0 x.1)
