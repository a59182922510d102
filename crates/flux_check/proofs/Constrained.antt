-- What nodes of declarations declare is what their constraints say, joined class by class.
use Rattle.std.proofs.Common.{◌≡◌, ◌≤◌, ◌<◌, ◌+◌, ℕ, zero, suc, inl, inr, ◌⊎◌, ◌||◌, Bool, true, false, if◌then◌else◌, List, [], ◌∷◌, ◌++◌, length, map, Option, Some, None, slice_index_or, refl, sym, ap, subst, ◌∙◌, arith}
use Rattle.std.specs.List.{slice_get, list_any, filter_map, flat_map, cons_option, enumerate_from, AllByRecursion, Contains}
use Rattle.std.specs.declared.cmp.Ordering.{Ordering}
use Rattle.std.specs.declared.cmp.Ordering.TheVariants.{Less, Equal, Greater}
use Rattle.std.specs.Ordering.{ordering_reverse, is_eq}
use Rattle.std.specs.Str.{bytes_eq}
use Rattle.flux_values.specs.declared.answers.Mode.{Mode}
use Rattle.flux_values.specs.declared.answers.Mode.TheVariants.{Reader, Writer}
use Rattle.flux_model.specs.declared.programs.Class.{Class}
use Rattle.flux_model.specs.declared.programs.ClassNo.{ClassNo}
use Rattle.flux_model.specs.declared.programs.Hold.{Hold}
use Rattle.flux_model.specs.Modes.{class_cmp, at_least}
use Rattle.flux_syntax.specs.declared.declarations.Word.{Word}
use Rattle.flux_syntax.specs.declared.declarations.Constraint.{Constraint}
use Rattle.flux_syntax.specs.declared.declarations.Decl.{Decl}
use Rattle.flux_syntax.specs.declared.declarations.Decl.TheVariants.{Signature, Flow, Source, Typedef, Handler, Atomic, Session}
use Rattle.flux_syntax.specs.ProgramOfText.{class_of, constraints_of, constraints_on, insert_class, classes_among, classes_of, is_on, joined, mode_on, hold_on, declared_by}
use Rattle.flux_names.proofs.Canonical.{class_order, same_class, is_on_tied}
use Rattle.flux_check.specs.Rows.{ConstraintOn, constraints_in}

-- one of a list
abbrev pub IsAmong : {A : Type 0} → A → List A → Type 0
IsAmong x [] = ⊥
IsAmong x (y ∷ ys) = (x ≡ y) ⊎ IsAmong x ys

pub among_left : {A : Type 0} (x : A) (a b : List A) → IsAmong x a → IsAmong x (a ++ b)
among_left x [] b is = absurd is
among_left x (y ∷ a) b (inl e) = inl e
among_left x (y ∷ a) b (inr is) = inr (among_left x a b is)

pub among_right : {A : Type 0} (x : A) (a b : List A) → IsAmong x b → IsAmong x (a ++ b)
among_right x [] b is = is
among_right x (y ∷ a) b is = inr (among_right x a b is)

pub among_both : {A : Type 0} (x : A) (a b : List A) → IsAmong x (a ++ b) → IsAmong x a ⊎ IsAmong x b
among_both x [] b is = inr is
among_both x (y ∷ a) b (inl e) = inl (inl e)
among_both x (y ∷ a) b (inr is) = one (among_both x a b is)
  where
    one : IsAmong x a ⊎ IsAmong x b → IsAmong x (y ∷ a) ⊎ IsAmong x b
    one (inl i) = inl (inr i)
    one (inr i) = inr i

-- where a test holds of one of a list
pub any_among : {A : Type 0} (p : A → Bool) (xs : List A) → list_any p xs ≡ true → (x : A) × IsAmong x xs × (p x ≡ true)
any_among p [] e = absurd cc
any_among {A} p (x ∷ xs) e = one (p x) refl e (any_among p xs)
  where
    one : (t : Bool) → p x ≡ t → (t || list_any p xs) ≡ true → (list_any p xs ≡ true → (y : A) × IsAmong y xs × (p y ≡ true)) → (y : A) × IsAmong y (x ∷ xs) × (p y ≡ true)
    one true i e more = (x, inl refl, i)
    one false i e more = let found = more e in (found.0, inr found.1, found.2)

-- and back
pub among_any : {A : Type 0} (p : A → Bool) (xs : List A) (x : A) → IsAmong x xs → p x ≡ true → list_any p xs ≡ true
among_any p [] x is e = absurd is
among_any p (y ∷ xs) x (inl i) e = ap (λ (t : Bool). t || list_any p xs) (ap p (sym i) ∙ e)
among_any p (y ∷ xs) x (inr i) e = ap (λ (t : Bool). p y || t) (among_any p xs x i e) ∙ or_true (p y)
  where
    or_true : (t : Bool) → (t || true) ≡ true
    or_true true = refl
    or_true false = refl

pub all_among : {A : Type 0} (P : A → Type 0) (xs : List A) (x : A) → AllByRecursion P xs → IsAmong x xs → P x
all_among P [] x all is = absurd is
all_among P (y ∷ xs) x all (inl e) = subst P (sym e) all.0
all_among P (y ∷ xs) x all (inr is) = all_among P xs x all.1 is

-- ---- constraints of a node among those of all

pub on_all : (node : List ℕ) (decls : List Decl) (c : Constraint) → IsAmong c (flat_map (constraints_on node) decls) → IsAmong c (flat_map constraints_of decls)
on_all node [] c is = absurd is
on_all node (Atomic own cs ∷ decls) c is = one (bytes_eq own.text node) is (on_all node decls c)
  where
    one : (t : Bool) → IsAmong c ((if t then cs else []) ++ flat_map (constraints_on node) decls) → (IsAmong c (flat_map (constraints_on node) decls) → IsAmong c (flat_map constraints_of decls)) → IsAmong c (cs ++ flat_map constraints_of decls)
    one true is more = two (among_both c cs (flat_map (constraints_on node) decls) is)
      where
        two : IsAmong c cs ⊎ IsAmong c (flat_map (constraints_on node) decls) → IsAmong c (cs ++ flat_map constraints_of decls)
        two (inl i) = among_left c cs (flat_map constraints_of decls) i
        two (inr i) = among_right c cs (flat_map constraints_of decls) (more i)
    one false is more = among_right c cs (flat_map constraints_of decls) (more is)
on_all node (other ∷ decls) c is = on_all node decls c is

-- with the node of its line
pub record IsLineOf (node : List ℕ) (decls : List Decl) (c : Constraint) : Type 0 where
  pub own : Word
  pub same : bytes_eq own.text node ≡ true
  pub among : IsAmong (record { node = own; constraint = c }) (flat_map constraints_in decls)

with_node : (own : Word) (cs : List Constraint) (c : Constraint) → IsAmong c cs → IsAmong {A = ConstraintOn} (record { node = own; constraint = c }) (map (λ d. record { node = own; constraint = d }) cs)
with_node own [] c is = absurd is
with_node own (d ∷ cs) c (inl i) = inl (ap (λ (x : Constraint). record { node = own; constraint = x }) i)
with_node own (d ∷ cs) c (inr i) = inr (with_node own cs c i)

pub on_line : (node : List ℕ) (decls : List Decl) (c : Constraint) → IsAmong c (flat_map (constraints_on node) decls) → IsLineOf node decls c
on_line node [] c is = absurd is
on_line node (Atomic own cs ∷ decls) c is = one (bytes_eq own.text node) refl is (λ i. later (on_line node decls c i))
  where
    later : IsLineOf node decls c → IsLineOf node (Atomic own cs ∷ decls) c
    later l = record { own = l.own; same = l.same; among = among_right _ (constraints_in (Atomic own cs)) (flat_map constraints_in decls) l.among }

    one : (t : Bool) → bytes_eq own.text node ≡ t → IsAmong c ((if t then cs else []) ++ flat_map (constraints_on node) decls) → (IsAmong c (flat_map (constraints_on node) decls) → IsLineOf node (Atomic own cs ∷ decls) c) → IsLineOf node (Atomic own cs ∷ decls) c
    one true e is more = two (among_both c cs (flat_map (constraints_on node) decls) is)
      where
        two : IsAmong c cs ⊎ IsAmong c (flat_map (constraints_on node) decls) → IsLineOf node (Atomic own cs ∷ decls) c
        two (inl i) = record { own = own; same = e; among = among_left _ (constraints_in (Atomic own cs)) (flat_map constraints_in decls) (with_node own cs c i) }
        two (inr i) = more i
    one false e is more = more is
on_line node (Signature name ins outs ∷ decls) c is = later_of (on_line node decls c is)
  where
    later_of : IsLineOf node decls c → IsLineOf node (Signature name ins outs ∷ decls) c
    later_of l = record { own = l.own; same = l.same; among = l.among }
on_line node (Flow name patterns members ∷ decls) c is = let l = on_line node decls c is in record { own = l.own; same = l.same; among = l.among }
on_line node (Source name target ∷ decls) c is = let l = on_line node decls c is in record { own = l.own; same = l.same; among = l.among }
on_line node (Typedef name function ∷ decls) c is = let l = on_line node decls c is in record { own = l.own; same = l.same; among = l.among }
on_line node (Handler own codes handler ∷ decls) c is = let l = on_line node decls c is in record { own = l.own; same = l.same; among = l.among }
on_line node (Session source function ∷ decls) c is = let l = on_line node decls c is in record { own = l.own; same = l.same; among = l.among }

-- ---- classes

-- a class has a number
abbrev pub HasNumber : List Class → Class → Type 0
HasNumber classes class = (number : ℕ) × (slice_get classes number ≡ Some class)

pub ties_itself : (class : Class) → class_cmp class class ≡ Equal
ties_itself class = one (class_cmp class class) refl
  where
    one : (o : Ordering) → class_cmp class class ≡ o → class_cmp class class ≡ Equal
    one Less e = let turned : Less ≡ Greater = sym e ∙ class_order.antisymm class class ∙ ap ordering_reverse e in absurd cc
    one Equal e = e
    one Greater e = let turned : Greater ≡ Less = sym e ∙ class_order.antisymm class class ∙ ap ordering_reverse e in absurd cc

after_one : (classes : List Class) (first class : Class) → HasNumber classes class → HasNumber (first ∷ classes) class
after_one classes first class (number, at) = (suc number, at)

inserted : (class : Class) (classes : List Class) → HasNumber (insert_class class classes) class
inserted class [] = (0, refl)
inserted class (o ∷ classes) = one (class_cmp class o) refl (inserted class classes)
  where
    one : (t : Ordering) → class_cmp class o ≡ t → HasNumber (insert_class class classes) class → HasNumber (insert_class class (o ∷ classes)) class
    one Less e more = rw e (0, refl)
    one Equal e more = rw e (0, ap Some (sym (same_class class o e)))
    one Greater e more = rw e (after_one (insert_class class classes) o class more)

kept : (class new : Class) (classes : List Class) → HasNumber classes class → HasNumber (insert_class new classes) class
kept class new [] (number, at) = absurd cc
kept class new (o ∷ classes) has = one (class_cmp new o) refl has (kept class new classes)
  where
    one : (t : Ordering) → class_cmp new o ≡ t → HasNumber (o ∷ classes) class → (HasNumber classes class → HasNumber (insert_class new classes) class) → HasNumber (insert_class new (o ∷ classes)) class
    one Less e has more = rw e (after_one (o ∷ classes) new class has)
    one Equal e has more = rw e has
    one Greater e (zero, at) more = rw e (0, at)
    one Greater e (suc number, at) more = rw e (after_one (insert_class new classes) o class (more (number, at)))

-- the class of each constraint has one
pub class_numbered : (cs : List Constraint) (c : Constraint) → IsAmong c cs → HasNumber (classes_among cs) (class_of c)
class_numbered [] c is = absurd is
class_numbered (d ∷ cs) c (inl e) = subst (λ (x : Constraint). HasNumber (classes_among (d ∷ cs)) (class_of x)) (sym e) (inserted (class_of d) (classes_among cs))
class_numbered (d ∷ cs) c (inr is) = kept (class_of c) (class_of d) (classes_among cs) (class_numbered cs c is)

-- what holds of the class of each constraint holds of all classes
all_inserted : (P : Class → Type 0) (class : Class) (classes : List Class) → P class → AllByRecursion P classes → AllByRecursion P (insert_class class classes)
all_inserted P class [] own all = (own, tt)
all_inserted P class (o ∷ classes) own all = one (class_cmp class o) refl (all_inserted P class classes own all.1)
  where
    one : (t : Ordering) → class_cmp class o ≡ t → AllByRecursion P (insert_class class classes) → AllByRecursion P (insert_class class (o ∷ classes))
    one Less e more = rw e (own, all)
    one Equal e more = rw e all
    one Greater e more = rw e (all.0, more)

pub all_classes : (P : Class → Type 0) (cs : List Constraint) → AllByRecursion (λ c. P (class_of c)) cs → AllByRecursion P (classes_among cs)
all_classes P [] all = tt
all_classes P (c ∷ cs) all = all_inserted P (class_of c) (classes_among cs) all.0 (all_classes P cs all.1)

-- ---- modes

on_own : (c : Constraint) → is_on (class_of c) c ≡ true
on_own c = is_on_tied (class_of c) c ∙ ap is_eq (ties_itself (class_of c))

joined_own : (mode : Mode) (other : Option Mode) → (m : Mode) × (joined mode other ≡ Some m) × (at_least m mode ≡ true)
joined_own Reader None = (Reader, refl, refl)
joined_own Writer None = (Writer, refl, refl)
joined_own Writer (Some other) = (Writer, refl, refl)
joined_own Reader (Some Reader) = (Reader, refl, refl)
joined_own Reader (Some Writer) = (Writer, refl, refl)

joined_other : (mode other wanted : Mode) → at_least other wanted ≡ true → (m : Mode) × (joined mode (Some other) ≡ Some m) × (at_least m wanted ≡ true)
joined_other Writer other wanted e = (Writer, refl, refl)
joined_other Reader other wanted e = (other, refl, e)

abbrev HasMode : Class → List Constraint → Mode → Type 0
HasMode class cs mode = (m : Mode) × (mode_on class cs ≡ Some m) × (at_least m mode ≡ true)

-- the class of a constraint has at least its mode
pub mode_had : (cs : List Constraint) (c : Constraint) → IsAmong c cs → HasMode (class_of c) cs c.mode
mode_had [] c is = absurd is
mode_had (d ∷ cs) c (inl e) = subst (λ (x : Constraint). HasMode (class_of x) (d ∷ cs) x.mode) (sym e) (rw (on_own d) (joined_own d.mode (mode_on (class_of d) cs)))
mode_had (d ∷ cs) c (inr is) = one (is_on (class_of c) d) refl (mode_had cs c is)
  where
    one : (t : Bool) → is_on (class_of c) d ≡ t → HasMode (class_of c) cs c.mode → HasMode (class_of c) (d ∷ cs) c.mode
    one true e (m, at, enough) = rw (e, at) (joined_other d.mode m c.mode enough)
    one false e more = rw e more

-- a class that has a mode is that of a constraint
pub mode_from : (class : Class) (cs : List Constraint) (mode : Mode) → mode_on class cs ≡ Some mode → (c : Constraint) × IsAmong c cs × (class_of c ≡ class)
mode_from class [] mode e = absurd cc
mode_from class (d ∷ cs) mode e = one (is_on class d) refl (mode_from class cs mode)
  where
    tied : (o : Ordering) → is_eq o ≡ true → o ≡ Equal
    tied Less e = absurd cc
    tied Equal e = refl
    tied Greater e = absurd cc

    one : (t : Bool) → is_on class d ≡ t → (mode_on class cs ≡ Some mode → (c : Constraint) × IsAmong c cs × (class_of c ≡ class)) → (c : Constraint) × IsAmong c (d ∷ cs) × (class_of c ≡ class)
    one true i more = (d, inl refl, same_class (class_of d) class (tied (class_cmp (class_of d) class) (sym (is_on_tied class d) ∙ i)))
    one false i more = let found = more (let h : mode_on class cs ≡ Some mode = rw i at e in h) in (found.0, inr found.1, found.2)

-- ---- holds

abbrev Pick : Type 0
Pick = ℕ × Class → Option Hold

contains_after : (o : Option Hold) (holds : List Hold) (hold : Hold) → Contains holds hold → Contains (cons_option o holds) hold
contains_after None holds hold has = has
contains_after (Some first) holds hold (k, lt, at) = (suc k, omega (arith, lt), at)

picked : (pick : Pick) (start : ℕ) (classes : List Class) (k : ℕ) (class : Class) (hold : Hold) → slice_get classes k ≡ Some class → pick (start + k, class) ≡ Some hold → Contains (filter_map pick (enumerate_from start classes)) hold
picked pick start [] k class hold at e = absurd cc
picked pick start (c ∷ classes) zero class hold at e =
    let same : c ≡ class = cc in
    let none : start + 0 ≡ start = omega arith in
    let own : pick (start, c) ≡ Some hold = ap (λ (x : Class). pick (start, x)) same ∙ ap (λ (n : ℕ). pick (n, class)) (sym none) ∙ e in
    rw own (0, omega arith, refl)
picked pick start (c ∷ classes) (suc k) class hold at e =
    let next : (start + 1) + k ≡ start + suc k = omega arith in
    contains_after (pick (start, c)) (filter_map pick (enumerate_from (start + 1) classes)) hold (picked pick (start + 1) classes k class hold at (ap (λ (n : ℕ). pick (n, class)) next ∙ e))

abbrev IsPicked : Pick → ℕ → List Class → Hold → Type 0
IsPicked pick start classes hold = (k : ℕ) × (class : Class) × (slice_get classes k ≡ Some class) × (pick (start + k, class) ≡ Some hold)

pick_from : (pick : Pick) (start : ℕ) (classes : List Class) (hold : Hold) → Contains (filter_map pick (enumerate_from start classes)) hold → IsPicked pick start classes hold
pick_from pick start [] hold (k, lt, at) = absurd (omega (arith, lt))
pick_from pick start (c ∷ classes) hold has = one (pick (start, c)) refl has (λ more. later (pick_from pick (start + 1) classes hold more))
  where
    later : IsPicked pick (start + 1) classes hold → IsPicked pick start (c ∷ classes) hold
    later (k, class, at, e) = let next : start + suc k ≡ (start + 1) + k = omega arith in (suc k, class, at, ap (λ (n : ℕ). pick (n, class)) next ∙ e)

    one : (o : Option Hold) → pick (start, c) ≡ o → Contains (cons_option o (filter_map pick (enumerate_from (start + 1) classes))) hold
        → (Contains (filter_map pick (enumerate_from (start + 1) classes)) hold → IsPicked pick start (c ∷ classes) hold) → IsPicked pick start (c ∷ classes) hold
    one None e has more = more has
    one (Some first) e (zero, lt, at) more = let none : start + 0 ≡ start = omega arith in (0, c, refl, ap (λ (n : ℕ). pick (n, c)) none ∙ e ∙ ap Some at)
    one (Some first) e (suc k, lt, at) more = more (k, omega (arith, lt), at)

-- a node declares the class of each of its constraints, in at least its mode
pub record IsDeclared (classes : List Class) (holds : List Hold) (c : Constraint) : Type 0 where
  pub hold : Hold
  pub contains : Contains holds hold
  pub numbered : let class = hold.class in slice_get classes class.0 ≡ Some (class_of c)
  pub enough : at_least hold.mode c.mode ≡ true

module _ (decls : List Decl) (node : List ℕ) where
  abbrev cs : List Constraint
  cs = flat_map (constraints_on node) decls

  pub declares : (c : Constraint) → IsAmong c cs → IsDeclared (classes_of decls) (declared_by (classes_of decls) node decls) c
  declares c is =
      let (number, at) = class_numbered (flat_map constraints_of decls) c (on_all node decls c is) in
      let (mode, had, enough) = mode_had cs c is in
      let hold : Hold = record { class = record { 0 = number }; mode = mode } in
      let none : 0 + number ≡ number = omega arith in
      record {
        hold = hold;
        contains = picked (λ numbered. hold_on numbered.0 (mode_on numbered.1 cs)) 0 (classes_of decls) number (class_of c) hold at (ap (λ (n : ℕ). hold_on n (mode_on (class_of c) cs)) none ∙ ap (hold_on number) had);
        numbered = at;
        enough = enough;
      }

  -- and what a node declares is on the class of one of its constraints
  pub declared_from : (hold : Hold) → Contains (declared_by (classes_of decls) node decls) hold → (c : Constraint) × IsAmong c cs × (let class = hold.class in slice_get (classes_of decls) class.0 ≡ Some (class_of c))
  declared_from hold has = found (pick_from (λ numbered. hold_on numbered.0 (mode_on numbered.1 cs)) 0 (classes_of decls) hold has)
    where
      at_number : (number k : ℕ) (class : Class) (mode : Option Mode) → hold_on number mode ≡ Some hold → number ≡ k → slice_get (classes_of decls) k ≡ Some class → (m : Mode) × (mode ≡ Some m) × (let own = hold.class in slice_get (classes_of decls) own.0 ≡ Some class)
      at_number number k class None e same at = absurd cc
      at_number number k class (Some m) e same at =
          let is : record { class = record { 0 = number }; mode = m } ≡ hold = cc in
          (m, refl, ap (λ (h : Hold). let own = h.class in slice_get (classes_of decls) own.0) (sym is) ∙ ap (slice_get (classes_of decls)) same ∙ at)

      found : IsPicked (λ numbered. hold_on numbered.0 (mode_on numbered.1 cs)) 0 (classes_of decls) hold → (c : Constraint) × IsAmong c cs × (let class = hold.class in slice_get (classes_of decls) class.0 ≡ Some (class_of c))
      found (k, class, at, e) =
          let (m, mode, own) = at_number (0 + k) k class (mode_on class cs) e (omega arith) at in
          let (c, is, same) = mode_from class cs m mode in
          (c, is, own ∙ ap Some (sym same))
