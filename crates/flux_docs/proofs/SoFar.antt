-- The documents so far, and the next one.
use Rattle.std.proofs.Common.{◌≡◌, ◌⊎◌, inl, inr, ℕ, ◌+◌, ◌<◌, ◌≤◌, Bool, true, false, cond, List, [], ◌∷◌, ◌++◌, length, Option, Some, None, Result, Ok, is_some, refl, sym, ap, ◌∙◌, subst, arith, append_assoc, length-append}
use Rattle.std.specs.Prelude.{IfSome, nat_le}
use Rattle.std.specs.List.{AllByRecursion}
use Rattle.std.specs.Str.{bytes_eq}
use Rattle.std.specs.Ordering.{nat_cmp, eq_by_cmp}
use Rattle.std.specs.Cmp.Lexicographic.{slice_cmp, nat_list_cmp_total}
use Rattle.std.specs.FinMap as fin
use Rattle.std.proofs.lemmas.Bool.Decides.{nat_tests}
use Rattle.std.proofs.lemmas.Map.Text.{is_eq-slice_cmp}
use Rattle.std.proofs.lemmas.Slice.Eq.{bytes_eq-Decides}
use Rattle.std.proofs.lemmas.List.Sums.{sum_by-append, sum_by-cons}
use Rattle.flux_library.specs.declared.documents.TheConstants.{BODY_LIMIT}
use Rattle.flux_library.specs.Documents.{Bodies, added}
use Rattle.flux_outside.specs.declared.faults.StoreFault.{StoreFault}
use Rattle.flux_outside.specs.declared.folders.NextDoc.{NextDoc}
use Rattle.flux_outside.specs.declared.folders.NextDoc.TheVariants.{Doc, Longer}
use Rattle.flux_outside.specs.declared.memory.FileBytes.{FileBytes}
use Rattle.flux_outside.specs.Folders.{next_of, left_behind, IsNextOf}
use Rattle.flux_outside.specs.Memory.{first_of}
use Rattle.flux_docs.specs.declared.reading.TheConstants.{DOC_LIMIT, BODIES_LIMIT}
use Rattle.flux_docs.specs.Documents.{IsShort, AreWithin, HasFirst, total_size}
use Rattle.flux_docs.specs.steps.Reading.{AreSoFar}

-- ---- the start

pub none_yet : (left : Option (List FileBytes)) (named : Bodies) → named ≡ fin.empty → IfSome left (λ docs. AreSoFar docs left named 0 0)
none_yet None named e = tt
none_yet (Some docs) named e = record {
  done = [];
  rest = docs;
  are = refl;
  left_ = refl;
  within = record { each = tt; few = omega arith; small = omega arith };
  first = λ name. ap (λ (m : Bodies). fin.get m name) e ∙ fin.get-empty (slice_cmp nat_cmp) name;
  count_ = refl;
  size_ = refl;
}

-- ---- the next document

all_at : (done more : List FileBytes) (doc : FileBytes) → AllByRecursion IsShort (done ++ doc ∷ more) → IsShort doc
all_at [] more doc all = all.0
all_at (d ∷ done) more doc all = all_at done more doc all.1

longer_first : (doc : FileBytes) (b : Bool) → b ≡ nat_le (length doc.body) BODY_LIMIT → Longer ≡ cond b (Doc doc.name doc.body) Longer → IsShort doc → ⊥
longer_first doc true e is short = absurd cc
longer_first doc false e is short = grind (arith, nat_tests)

longer_rest : (done rest : List FileBytes) → Longer ≡ next_of rest BODY_LIMIT → AreWithin (done ++ rest) → ⊥
longer_rest done [] is within = absurd cc
longer_rest done (doc ∷ rest) is within = longer_first doc (nat_le (length doc.body) BODY_LIMIT) refl is (all_at done rest doc within.each)

next_at : (left after : Option (List FileBytes)) (rest : List FileBytes) (result : Result NextDoc StoreFault) (next : NextDoc) → IfSome left (λ docs. IsNextOf docs BODY_LIMIT result after) → left ≡ Some rest → result ≡ Ok next → (next ≡ next_of rest BODY_LIMIT) × (after ≡ Some (left_behind rest BODY_LIMIT))
next_at left after rest result next told is ok = subst (λ (r : Result NextDoc StoreFault). IsNextOf rest BODY_LIMIT r after) ok (subst (λ (l : Option (List FileBytes)). IfSome l (λ docs. IsNextOf docs BODY_LIMIT result after)) is told)

-- a document that is longer is past its limit
pub longer : (all left after : Option (List FileBytes)) (named : Bodies) (count size : ℕ) (result : Result NextDoc StoreFault) (got : NextDoc) → IfSome all (λ docs. AreSoFar docs left named count size) → IfSome left (λ docs. IsNextOf docs BODY_LIMIT result after) → result ≡ Ok got → got ≡ Longer
    → IfSome all (λ docs. AreWithin docs → ⊥)
longer None left after named count size result got so told ok is = tt
longer (Some docs) left after named count size result got so told ok is = λ within.
    longer_rest so.done so.rest (sym is ∙ (next_at left after so.rest result got told so.left_ ok).0) (subst AreWithin so.are within)

-- the document that was given is the first of those left
pub record IsFirst (rest : List FileBytes) (name body : List ℕ) : Type 0 where
  pub doc : FileBytes
  pub more : List FileBytes
  pub are : rest ≡ doc ∷ more
  pub name_ : name ≡ doc.name
  pub body_ : body ≡ doc.body
  pub short : IsShort doc
  pub behind : left_behind rest BODY_LIMIT ≡ more

given_first : (doc : FileBytes) (rest : List FileBytes) (name body : List ℕ) (b : Bool) → b ≡ nat_le (length doc.body) BODY_LIMIT → Doc name body ≡ cond b (Doc doc.name doc.body) Longer → IsFirst (doc ∷ rest) name body
given_first doc rest name body true e is = record {
  doc = doc;
  more = rest;
  are = refl;
  name_ = cc;
  body_ = cc;
  short = grind (arith, nat_tests);
  behind = ap (λ (t : Bool). cond t rest (doc ∷ rest)) (sym e);
}
given_first doc rest name body false e is = absurd cc

first_given : (rest : List FileBytes) (name body : List ℕ) → Doc name body ≡ next_of rest BODY_LIMIT → IsFirst rest name body
first_given [] name body is = absurd cc
first_given (doc ∷ rest) name body is = given_first doc rest name body (nat_le (length doc.body) BODY_LIMIT) refl is

total_size-append : (done more : List FileBytes) (doc : FileBytes) → total_size (done ++ doc ∷ more) ≡ total_size done + (length doc.body + total_size more)
total_size-append done more doc = sum_by-append (λ (d : FileBytes). length d.body) done (doc ∷ more) ∙ ap (λ (n : ℕ). total_size done + n) (sum_by-cons (λ (d : FileBytes). length d.body) doc more)

past_limits : (docs done more : List FileBytes) (doc : FileBytes) → docs ≡ done ++ doc ∷ more → (DOC_LIMIT < length done + 1) ⊎ (BODIES_LIMIT < total_size done + length doc.body) → AreWithin docs → ⊥
past_limits docs done more doc are (inl many) within = omega (arith, within.few, ap length are, length-append done (doc ∷ more), many)
past_limits docs done more doc are (inr great) within = omega (arith, within.small, ap total_size are, total_size-append done more doc, great)

pub too_much : (all left after : Option (List FileBytes)) (named : Bodies) (count size long : ℕ) (name body : List ℕ) (result : Result NextDoc StoreFault) (got : NextDoc) → IfSome all (λ docs. AreSoFar docs left named count size) → IfSome left (λ docs. IsNextOf docs BODY_LIMIT result after) → result ≡ Ok got → got ≡ Doc name body
    → long ≡ length body → (DOC_LIMIT < count + 1) ⊎ (BODIES_LIMIT < size + long) → IfSome all (λ docs. AreWithin docs → ⊥)
too_much None left after named count size long name body result got so told ok doc_ is past = tt
too_much (Some docs) left after named count size long name body result got so told ok doc_ is past =
    let f = first_given so.rest name body (sym doc_ ∙ (next_at left after so.rest result got told so.left_ ok).0) in
    past_limits docs so.done f.more f.doc (so.are ∙ ap (λ (l : List FileBytes). so.done ++ l) f.are) (elim past [
      | inl many ↦ inl (omega (arith, many, so.count_))
      | inr great ↦ inr (omega (arith, great, so.size_, is, ap length f.body_))
    ])

-- ---- one document more

same_bytes : (a b : List ℕ) → eq_by_cmp (slice_cmp nat_cmp) a b ≡ bytes_eq a b
same_bytes a b = is_eq-slice_cmp a b

bytes_eq-same : (a b : List ℕ) → bytes_eq a b ≡ bytes_eq b a
bytes_eq-same a b = by (bytes_eq a b) (bytes_eq b a) (bytes_eq-Decides a b) (bytes_eq-Decides b a)
  where
    by : (s t : Bool) → (s ≡ true → a ≡ b) × (a ≡ b → s ≡ true) → (t ≡ true → b ≡ a) × (b ≡ a → t ≡ true) → s ≡ t
    by true true p q = refl
    by false false p q = refl
    by true false p q = sym (q.1 (sym (p.0 refl)))
    by false true p q = p.1 (sym (q.0 refl))

-- the first document of a name, with a document more
first_of-append : (done : List FileBytes) (doc : FileBytes) (name : List ℕ) → first_of (done ++ doc ∷ []) name ≡ cond (is_some (first_of done name)) (first_of done name) (cond (bytes_eq doc.name name) (Some doc.body) None)
first_of-append [] doc name = refl
first_of-append (d ∷ done) doc name = by (bytes_eq d.name name) (first_of-append done doc name)
  where
    by : (b : Bool) → first_of (done ++ doc ∷ []) name ≡ cond (is_some (first_of done name)) (first_of done name) (cond (bytes_eq doc.name name) (Some doc.body) None) → cond b (Some d.body) (first_of (done ++ doc ∷ []) name) ≡ cond (is_some (cond b (Some d.body) (first_of done name))) (cond b (Some d.body) (first_of done name)) (cond (bytes_eq doc.name name) (Some doc.body) None)
    by true e = refl
    by false e = e

get-added : (named : Bodies) (name body asked : List ℕ) → fin.get (added named name body) asked ≡ cond (is_some (fin.get named asked)) (fin.get named asked) (cond (bytes_eq name asked) (Some body) None)
get-added named name body asked = cases (is_some (fin.get named name)) refl
  where
    same : (a b : List ℕ) → bytes_eq a b ≡ true → a ≡ b
    same a b e = (bytes_eq-Decides a b).0 e

    kept : (o : Option (List ℕ)) (b : Bool) → (b ≡ true → is_some o ≡ true) → o ≡ cond (is_some o) o (cond b (Some body) None)
    kept None true there = absurd (let no : false ≡ true = there refl in cc)
    kept None false there = refl
    kept (Some x) b there = refl

    new : (o : Option (List ℕ)) (b : Bool) → (b ≡ true → is_some o ≡ false) → cond b (Some body) o ≡ cond (is_some o) o (cond b (Some body) None)
    new None true other = refl
    new None false other = refl
    new (Some x) true other = absurd (let no : true ≡ false = other refl in cc)
    new (Some x) false other = refl

    there_at : (t : Bool) → is_some (fin.get named name) ≡ t → bytes_eq name asked ≡ true → is_some (fin.get named asked) ≡ t
    there_at t e is = ap (λ (n : List ℕ). is_some (fin.get named n)) (sym (same name asked is)) ∙ e

    cases : (b : Bool) → is_some (fin.get named name) ≡ b → fin.get (cond b named (fin.insert named name body)) asked ≡ cond (is_some (fin.get named asked)) (fin.get named asked) (cond (bytes_eq name asked) (Some body) None)
    cases true e = kept (fin.get named asked) (bytes_eq name asked) (there_at true e)
    cases false e =
        fin.get-insert nat_list_cmp_total named name body asked ∙ ap (λ (t : Bool). cond t (Some body) (fin.get named asked)) (same_bytes asked name ∙ bytes_eq-same asked name)
        ∙ new (fin.get named asked) (bytes_eq name asked) (there_at false e)

first_more : (done : List FileBytes) (doc : FileBytes) (named : Bodies) → HasFirst named done → HasFirst (added named doc.name doc.body) (done ++ doc ∷ [])
first_more done doc named first = λ name.
    get-added named doc.name doc.body name
    ∙ ap (λ (o : Option (List ℕ)). cond (is_some o) o (cond (bytes_eq doc.name name) (Some doc.body) None)) (first name)
    ∙ sym (first_of-append done doc name)

all_more : (done : List FileBytes) (doc : FileBytes) → AllByRecursion IsShort done → IsShort doc → AllByRecursion IsShort (done ++ doc ∷ [])
all_more [] doc all is = (is, tt)
all_more (d ∷ done) doc all is = (all.0, all_more done doc all.1 is)

pub one_more : (all left after : Option (List FileBytes)) (named now : Bodies) (count size long : ℕ) (name body : List ℕ) (result : Result NextDoc StoreFault) (got : NextDoc) → IfSome all (λ docs. AreSoFar docs left named count size) → IfSome left (λ docs. IsNextOf docs BODY_LIMIT result after) → result ≡ Ok got → got ≡ Doc name body
    → long ≡ length body → count + 1 ≤ DOC_LIMIT → size + long ≤ BODIES_LIMIT → now ≡ added named name body → IfSome all (λ docs. AreSoFar docs after now (count + 1) (size + long))
one_more None left after named now count size long name body result got so told ok doc_ is few small adds = tt
one_more (Some docs) left after named now count size long name body result got so told ok doc_ is few small adds =
    let next = next_at left after so.rest result got told so.left_ ok in
    let f = first_given so.rest name body (sym doc_ ∙ next.0) in
    let total = total_size-append so.done [] f.doc in
    record {
      done = so.done ++ f.doc ∷ [];
      rest = f.more;
      are = so.are ∙ ap (λ (l : List FileBytes). so.done ++ l) f.are ∙ sym (append_assoc so.done (f.doc ∷ []) f.more);
      left_ = next.1 ∙ ap Some f.behind;
      within = record {
        each = all_more so.done f.doc so.within.each f.short;
        few = omega (arith, few, so.count_, length-append so.done (f.doc ∷ []));
        small = omega (arith, small, so.size_, is, ap length f.body_, total);
      };
      first = subst (λ (m : Bodies). HasFirst m (so.done ++ f.doc ∷ [])) (sym (adds ∙ ap (λ (n : List ℕ). added named n body) f.name_ ∙ ap (added named f.doc.name) f.body_)) (first_more so.done f.doc named so.first);
      count_ = omega (arith, so.count_, length-append so.done (f.doc ∷ []));
      size_ = omega (arith, so.size_, is, ap length f.body_, total);
    }
