-- Keys and how they are held, as their texts have them.
use Rattle.std.proofs.Common.{◌≡◌, ℕ, zero, suc, ◌<◌, ◌^◌, Bool, true, false, ◌&&◌, ◌||◌, eqb, List, [], ◌∷◌, ◌++◌, Option, Some, None, IfNone, refl, sym, ap, ◌∙◌, subst, arith}
use Rattle.std.specs.List.{AllByRecursion, list_all, slice_get}
use Rattle.std.specs.Fmt.{decimal}
use Rattle.std.proofs.lemmas.Bool.{eqb-true, both_ways}
use Rattle.std.proofs.lemmas.List.{append-nil}
use Rattle.flux_values.specs.Identifiers.{is_word_start, is_word_byte, IsIdentifier}
use Rattle.flux_model.specs.declared.programs.Program.{Program}
use Rattle.flux_model.specs.declared.programs.Class.{Class}
use Rattle.flux_model.specs.declared.programs.ClassNo.{ClassNo}
use Rattle.flow_model.specs.declared.journals.Key.{Key}
use Rattle.flux_model.specs.Names.{IsNamed}
use Rattle.flux_model.specs.Texts.{class_name}
use Rattle.flow_model.specs.Texts.{printed_session}
use Rattle.flux_journal.specs.Entries.{HasSession, IsKeyIn}
use Rattle.flux_journal.specs.steps.Cuts.{HasNone, IsCut, IsNumber}
use Rattle.flux_journal.specs.steps.Named.{IsClassNamed}
use Rattle.flux_journal.specs.steps.Parts.{IsKeyText}
use Rattle.flux_journal.proofs.Cutting.{same_cut, no_cut, one_number}

-- ---- identifiers

-- where two bytes are tested alike, they may be equal; where not, they aren't
other_byte : (b m : ℕ) (t : Bool) → eqb b m ≡ t → is_word_byte b ≡ true → is_word_byte m ≡ false → t ≡ false
other_byte b m false e word free = refl
other_byte b m true e word free = absurd (both_ways (is_word_byte m) free (ap is_word_byte (sym (eqb-true b m e)) ∙ word))

pub both_true : (a b : Bool) → (a && b) ≡ true → (a ≡ true) × (b ≡ true)
both_true true b e = (refl, e)
both_true false b e = absurd cc

either_true : (a b : Bool) → a ≡ true → (a || b) ≡ true
either_true true b e = refl
either_true false b e = absurd cc

all_clean : (m : ℕ) → is_word_byte m ≡ false → (bytes : List ℕ) → list_all is_word_byte bytes ≡ true → HasNone m bytes
all_clean m free [] e = tt
all_clean m free (b ∷ bytes) e = let both = both_true (is_word_byte b) (list_all is_word_byte bytes) e in (other_byte b m (eqb b m) refl both.0 free, all_clean m free bytes both.1)

-- free byte that isn't a word's is in an identifier
pub identifier_clean : (m : ℕ) → is_word_byte m ≡ false → (name : List ℕ) → IsIdentifier name → HasNone m name
identifier_clean m free [] is = tt
identifier_clean m free (b ∷ bytes) is =
    let both = both_true (is_word_start b) (list_all is_word_byte bytes) is.word in
    (other_byte b m (eqb b m) refl (either_true (is_word_start b) _ both.0) free, all_clean m free bytes both.1)

-- ---- keys

-- a session's key: the class's name, `@` and the number
pub record HasNumber (p : Program) (bytes : List ℕ) (class : ClassNo) (number : ℕ) : Type 0 where
  pub name : List ℕ
  pub named : IsClassNamed p true name class
  pub small : number < 2 ^ 64
  pub laid : bytes ≡ name ++ 64 ∷ decimal number

-- a key's text by its number
abbrev pub KeyView : Program → List ℕ → ClassNo → Option ℕ → Type 0
KeyView p bytes class None = IsClassNamed p false bytes class
KeyView p bytes class (Some number) = HasNumber p bytes class number

scoped : (p : Program) (bytes : List ℕ) (number : ClassNo) (class : Class) → slice_get p.classes number.0 ≡ Some class → (s : Bool) → class.session ≡ s → (id : Option ℕ) → HasSession s id → bytes ≡ class.name ++ printed_session id → KeyView p bytes number id
scoped p bytes number class at true scope (Some n) small laid = record { name = class.name; named = record { class = class; at = at; named = refl; scope = scope }; small = small; laid = laid }
scoped p bytes number class at true scope None has laid = absurd has
scoped p bytes number class at false scope (Some n) has laid = absurd has
scoped p bytes number class at false scope None has laid = record { class = class; at = at; named = sym (laid ∙ append-nil class.name); scope = scope }

viewed : (p : Program) (bytes : List ℕ) (number : ClassNo) (o : Option Class) → slice_get p.classes number.0 ≡ o → (id : Option ℕ) → IsKeyIn o id → bytes ≡ class_name o ++ printed_session id → KeyView p bytes number id
viewed p bytes number None at id has laid = absurd has
viewed p bytes number (Some class) at id has laid = scoped p bytes number class at class.session refl id has laid

pub view : (p : Program) (bytes : List ℕ) (number : ClassNo) (id : Option ℕ) → IsKeyText p bytes (record { class = number; id = id }) → KeyView p bytes number id
view p bytes number id is = viewed p bytes number (slice_get p.classes number.0) refl id is.0 is.1

pub view_back : (p : Program) (bytes : List ℕ) (number : ClassNo) (id : Option ℕ) → KeyView p bytes number id → IsKeyText p bytes (record { class = number; id = id })
view_back p bytes number None named =
    let class = named.class in (
      subst (λ (o : Option Class). IsKeyIn o None) (sym named.at) (subst (λ (s : Bool). HasSession s None) (sym named.scope) tt),
      sym (append-nil _ ∙ ap class_name named.at ∙ named.named),
    )
view_back p bytes number (Some n) has =
    let named = has.named in
    let class = named.class in (
      subst (λ (o : Option Class). IsKeyIn o (Some n)) (sym named.at) (subst (λ (s : Bool). HasSession s (Some n)) (sym named.scope) has.small),
      has.laid ∙ ap (λ (name : List ℕ). name ++ 64 ∷ decimal n) (sym (ap class_name named.at ∙ named.named)),
    )

all_at : (classes : List Class) (k : ℕ) (class : Class) → AllByRecursion (λ c. IsIdentifier c.name) classes → slice_get classes k ≡ Some class → IsIdentifier class.name
all_at [] k class all at = absurd cc
all_at (c ∷ classes) zero class all at = let same : c ≡ class = cc in subst (λ (d : Class). IsIdentifier d.name) same all.0
all_at (c ∷ classes) (suc k) class all at = all_at classes k class all.1 at

-- a class's name has no byte that isn't a word's
pub class_clean : (m : ℕ) → is_word_byte m ≡ false → (p : Program) → IsNamed p → (session : Bool) (name : List ℕ) (number : ClassNo) → IsClassNamed p session name number → HasNone m name
class_clean m free p is session name number named = identifier_clean m free name (subst IsIdentifier named.named (all_at p.classes number.0 named.class is.classes named.at))

abbrev class_at : ℕ → ClassNo
class_at n = record { 0 = n }

one_class : (p : Program) → IsNamed p → (session : Bool) (name : List ℕ) (a b : ClassNo) → IsClassNamed p session name a → IsClassNamed p session name b → a ≡ b
one_class p is session name a b one two =
    let same : a.0 ≡ b.0 = is.classes_apart a.0 b.0 one.class two.class one.at two.at (one.named ∙ sym two.named) (one.scope ∙ sym two.scope) in
    ap class_at same

-- ---- no key

pub if_none : {X : Type 0} {P : Type 0} (r : Option X) → P → IfNone r P
if_none None h = h
if_none (Some x) h = tt

pub none_global : (p : Program) (bytes : List ℕ) → HasNone 64 bytes → ((class : ClassNo) → IsClassNamed p false bytes class → ⊥) → (key : Key) → IsKeyText p bytes key → ⊥
none_global p bytes clean none key is = by_id key.id (view p bytes key.class key.id is)
  where
    by_id : (id : Option ℕ) → KeyView p bytes key.class id → ⊥
    by_id None v = none key.class v
    by_id (Some n) v = no_cut 64 bytes v.name (decimal n) clean v.laid

pub none_scoped : (p : Program) → IsNamed p → (bytes front behind : List ℕ) → IsCut 64 bytes front behind → ((class : ClassNo) → IsClassNamed p true front class → ⊥) → (key : Key) → IsKeyText p bytes key → ⊥
none_scoped p named bytes front behind cut none key is = by_id key.id (view p bytes key.class key.id is)
  where
    by_id : (id : Option ℕ) → KeyView p bytes key.class id → ⊥
    by_id None v = no_cut 64 bytes front behind (class_clean 64 refl p named false bytes key.class v) cut.laid
    by_id (Some n) v =
        let same = same_cut 64 front v.name behind (decimal n) cut.none (class_clean 64 refl p named true v.name key.class v.named) (sym cut.laid ∙ v.laid) in
        none key.class (subst (λ (name : List ℕ). IsClassNamed p true name key.class) (sym same.front) v.named)

pub none_numbered : (p : Program) → IsNamed p → (bytes front behind : List ℕ) (limit : ℕ) → limit ≡ 18446744073709551615 → IsCut 64 bytes front behind → ((number : ℕ) → IsNumber limit behind number → ⊥) → (key : Key) → IsKeyText p bytes key → ⊥
none_numbered p named bytes front behind limit limit_is cut none key is = by_id key.id (view p bytes key.class key.id is)
  where
    by_id : (id : Option ℕ) → KeyView p bytes key.class id → ⊥
    by_id None v = no_cut 64 bytes front behind (class_clean 64 refl p named false bytes key.class v) cut.laid
    by_id (Some n) v =
        let same = same_cut 64 front v.name behind (decimal n) cut.none (class_clean 64 refl p named true v.name key.class v.named) (sym cut.laid ∙ v.laid) in
        none n (omega (arith, v.small, limit_is), same.rest)

-- ---- one key

abbrev key_of : ClassNo → Option ℕ → Key
key_of class id = record { class = class; id = id }

one_view : (p : Program) → IsNamed p → (bytes : List ℕ) (a b : ClassNo) (i j : Option ℕ) → KeyView p bytes a i → KeyView p bytes b j → key_of a i ≡ key_of b j
one_view p named bytes a b None None v w = ap (λ (c : ClassNo). key_of c None) (one_class p named false bytes a b v w)
one_view p named bytes a b None (Some n) v w = absurd (no_cut 64 bytes w.name (decimal n) (class_clean 64 refl p named false bytes a v) w.laid)
one_view p named bytes a b (Some n) None v w = absurd (no_cut 64 bytes v.name (decimal n) (class_clean 64 refl p named false bytes b w) v.laid)
one_view p named bytes a b (Some n) (Some m) v w =
    let same = same_cut 64 v.name w.name (decimal n) (decimal m) (class_clean 64 refl p named true v.name a v.named) (class_clean 64 refl p named true w.name b w.named) (sym v.laid ∙ w.laid) in
    let class : a ≡ b = one_class p named true w.name a b (subst (λ (name : List ℕ). IsClassNamed p true name a) same.front v.named) w.named in
    let number : n ≡ m = one_number 18446744073709551615 n m (omega arith) (omega (arith, v.small)) (omega (arith, w.small)) same.rest in
    ap (λ (c : ClassNo). key_of c (Some n)) class ∙ ap (λ (k : ℕ). key_of b (Some k)) number

-- a text is one key's
pub one_key : (p : Program) → IsNamed p → (bytes : List ℕ) (k l : Key) → IsKeyText p bytes k → IsKeyText p bytes l → k ≡ l
one_key p named bytes k l first second = one_view p named bytes k.class l.class k.id l.id (view p bytes k.class k.id first) (view p bytes l.class l.id second)
