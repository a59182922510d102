-- What readers of lists tell.
use Rattle.std.proofs.Common.{◌≡◌, ◌≤◌, ℕ, zero, suc, Bool, true, false, List, [], ◌∷◌, ◌++◌, length, refl, sym, ap, subst, ◌∙◌, arith, append_assoc, length-append}
use Rattle.std.proofs.lemmas.List.{append-nil}
use Rattle.flux_lexer.specs.declared.kinds.TokenKind.{TokenKind}
use Rattle.flux_lexer.specs.declared.kinds.TokenKind.TheVariants.{Identifier, Star}
use Rattle.flux_syntax.specs.Symbols.{Symbol, mark, has_word}
use Rattle.flux_syntax.specs.Grammar.{More, Listed, Maybe, stars}
use Rattle.flux_syntax.specs.steps.Reading.{Read, got, stuck, ◌>>=◌, of_kind, onto, more_at, listed_at, maybe_at, stars_at}
use Rattle.flux_syntax.proofs.Told.{head, some_same, none_same, Told_of, Told, told_as, told_weaken, told_done, is_mark, Both, seq, told_if, told_behind, Tells}

-- ---- one thing more

-- the things so far and one more, which these symbols spell
abbrev pub IsOnto : {A : Type 0} → (A → List Symbol → Type 0) → List A → List A → List Symbol → Type 0
IsOnto {A} P items xs used = (x : A) × (xs ≡ items ++ x ∷ []) × P x used

told_onto : {A : Type 0} (read : List Symbol → Read A) (P : A → List Symbol → Type 0) (items : List A) (ts : List Symbol) → Told read P ts → Told (onto read items) (IsOnto P items) ts
told_onto {A} read P items ts told =
    told_weaken (onto read items) (Both P (λ x xs b. (xs ≡ items ++ x ∷ []) × (b ≡ []))) (IsOnto P items) ts (onto read items ts) (λ xs used h. bare xs used h)
    (seq read (λ x rest. got (items ++ x ∷ []) rest) P (λ x xs b. (xs ≡ items ++ x ∷ []) × (b ≡ [])) ts told (λ x used rest is p. told_done (items ++ x ∷ []) (λ xs b. (xs ≡ items ++ x ∷ []) × (b ≡ [])) rest (refl, refl)) (λ x. (items ++ x ∷ [], [], (refl, refl))))
  where
    bare : (xs : List A) (used : List Symbol) → Both P (λ x xs b. (xs ≡ items ++ x ∷ []) × (b ≡ [])) xs used → IsOnto P items xs used
    bare xs used (x, a, b, is, p, (e, none)) = let all : used ≡ a = is ∙ ap (λ (l : List Symbol). a ++ l) none ∙ append-nil a in (x, e, subst (P x) (sym all) p)

-- ---- more things

-- more things, as many as there can be
abbrev pub more : {A : Type 0} → (List Symbol → Read A) → TokenKind → List A → List Symbol → Read (List A)
more read between items ts = more_at read between (length ts) items ts

-- one thing more, and then more things
abbrev pub after : {A : Type 0} → (List Symbol → Read A) → TokenKind → List A → List Symbol → Read (List A)
after read between items ts = onto read items ts >>= λ xs rest. more read between xs rest

left_shorter : (ts used rest : List Symbol) (n : ℕ) → ts ≡ used ++ rest → length ts ≤ n → length rest ≤ n
left_shorter ts used rest n is le = omega (arith, le, length-append used rest, ap length is)

enough : {A : Type 0} (read : List Symbol → Read A) (P : A → List Symbol → Type 0) (between : TokenKind) → Tells read P → (n m : ℕ) (items : List A) (ts : List Symbol) → length ts ≤ n → length ts ≤ m → more_at read between n items ts ≡ more_at read between m items ts
enough read P between tells zero zero items ts le lt = refl
enough read P between tells zero (suc m) items [] le lt = refl
enough read P between tells zero (suc m) items (t ∷ rest) le lt = absurd (omega (arith, le))
enough read P between tells (suc n) zero items [] le lt = refl
enough read P between tells (suc n) zero items (t ∷ rest) le lt = absurd (omega (arith, lt))
enough read P between tells (suc n) (suc m) items [] le lt = refl
enough {A} read P between tells (suc n) (suc m) items (t ∷ rest) le lt = step (of_kind between t) refl (enough read P between tells n m)
  where
    went : (r : Read (List A)) → Told_of (onto read items) (IsOnto P items) rest r → ((xs : List A) (left : List Symbol) → length left ≤ n → length left ≤ m → more_at read between n xs left ≡ more_at read between m xs left)
        → (r >>= more_at read between n) ≡ (r >>= more_at read between m)
    went (got xs left) (used, is, p, steady) same = same xs left (left_shorter rest used left n is (omega (arith, le))) (left_shorter rest used left m is (omega (arith, lt)))
    went (stuck left) told same = refl

    step : (b : Bool) → of_kind between t ≡ b → ((xs : List A) (left : List Symbol) → length left ≤ n → length left ≤ m → more_at read between n xs left ≡ more_at read between m xs left)
        → more_at read between (suc n) items (t ∷ rest) ≡ more_at read between (suc m) items (t ∷ rest)
    step true e same = rw e (went (onto read items rest) (told_onto read P items rest (tells.told rest)) same)
    step false e same = rw e refl

-- what follows the mark is read after it
more_after : {A : Type 0} (read : List Symbol → Read A) (P : A → List Symbol → Type 0) (between : TokenKind) → Tells read P → (items : List A) (t : Symbol) (s : List Symbol) → of_kind between t ≡ true → more read between items (t ∷ s) ≡ after read between items s
more_after {A} read P between tells items t s e = rw e (went (onto read items s) (told_onto read P items s (tells.told s)))
  where
    went : (r : Read (List A)) → Told_of (onto read items) (IsOnto P items) s r → (r >>= more_at read between (length s)) ≡ (r >>= λ xs rest. more read between xs rest)
    went (got xs left) (used, is, p, steady) = enough read P between tells (length s) (length left) xs left (left_shorter s used left (length s) is (omega arith)) (omega arith)
    went (stuck left) told = refl

-- the things so far and more, which these symbols spell
abbrev pub IsMore : {A : Type 0} → (A → List Symbol → Type 0) → TokenKind → List A → List A → List Symbol → Type 0
IsMore {A} P between items xs used = (new : List A) × (xs ≡ items ++ new) × More P between new used

no_more : {A : Type 0} (read : List Symbol → Read A) (P : A → List Symbol → Type 0) (between : TokenKind) (items : List A) → Told (more read between items) (IsMore P between items) []
no_more read P between items = ([], refl, ([], sym (append-nil items), refl), λ other same. let none = none_same other same in rw none refl)

told_more : {A : Type 0} (read : List Symbol → Read A) (P : A → List Symbol → Type 0) (between : TokenKind) → has_word between ≡ false → Tells read P → (n : ℕ) (items : List A) (ts : List Symbol) → length ts ≤ n → Told (more read between items) (IsMore P between items) ts
told_more read P between no_word tells n items [] le = no_more read P between items
told_more read P between no_word tells zero items (t ∷ rest) le = absurd (omega (arith, le))
told_more {A} read P between no_word tells (suc n) items (t ∷ rest) le = step (of_kind between t) refl (told_more read P between no_word tells n)
  where
    stays : (s : List Symbol) → head (t ∷ rest) ≡ head s → of_kind between t ≡ false → more read between items s ≡ got items s
    stays [] same e = refl
    stays (u ∷ s) same e = let other : of_kind between u ≡ false = ap (of_kind between) (sym (some_same t u same)) ∙ e in rw other refl

    longer : (xs : List A) (used : List Symbol) → (u : List Symbol) × (used ≡ t ∷ u) × Both (IsOnto P items) (λ ys xs b. IsMore P between ys xs b) xs u → t ≡ mark between → IsMore P between items xs used
    longer xs used (u, is, (ys, a, b, both, (x, e, p), (new, f, m))) own = (x ∷ new, rw (f, e) (append_assoc items (x ∷ []) new), (a, b, rw (is, both, own) refl, p, m))

    step : (b : Bool) → of_kind between t ≡ b → ((items : List A) (ts : List Symbol) → length ts ≤ n → Told (more read between items) (IsMore P between items) ts) → Told (more read between items) (IsMore P between items) (t ∷ rest)
    step true e next =
        let inner : Told (after read between items) (Both (IsOnto P items) (λ ys xs b. IsMore P between ys xs b)) rest =
        seq (onto read items) (λ xs left. more read between xs left) (IsOnto P items) (λ ys xs b. IsMore P between ys xs b) rest (told_onto read P items rest (tells.told rest))
        (λ ys used left is p. next ys left (left_shorter rest used left n is (omega (arith, le)))) (λ ys. (ys, [], ([], sym (append-nil ys), refl))) in
        let behind = told_behind (more read between items) (after read between items) (Both (IsOnto P items) (λ ys xs b. IsMore P between ys xs b)) t rest (after read between items rest) (λ s. more_after read P between tells items t s e) inner in
        let own = is_mark between t no_word e in
        subst (Told_of (more read between items) (IsMore P between items) (t ∷ rest)) (sym (more_after read P between tells items t rest e))
        (told_weaken (more read between items) (λ xs used. (u : List Symbol) × (used ≡ t ∷ u) × Both (IsOnto P items) (λ ys xs b. IsMore P between ys xs b) xs u) (IsMore P between items) (t ∷ rest) (after read between items rest) (λ xs used h. longer xs used h own) behind)
    step false e next = told_as (more read between items) (λ s. got items s) (IsMore P between items) (t ∷ rest) (λ s same. stays s same e) (told_done items (IsMore P between items) (t ∷ rest) ([], sym (append-nil items), refl))

-- ---- whole lists

-- of a list
pub told_listed : {A : Type 0} (read : List Symbol → Read A) (P : A → List Symbol → Type 0) (between : TokenKind) → has_word between ≡ false → Tells read P → (ts : List Symbol) → Told (listed_at read between) (Listed P between) ts
told_listed {A} read P between no_word tells ts =
    told_weaken (listed_at read between) (Both (IsOnto P []) (λ ys xs b. IsMore P between ys xs b)) (Listed P between) ts (listed_at read between ts) (λ xs used h. whole xs used h)
    (seq (onto read []) (λ xs left. more read between xs left) (IsOnto P []) (λ ys xs b. IsMore P between ys xs b) ts (told_onto read P [] ts (tells.told ts))
    (λ ys used left is p. told_more read P between no_word tells (length left) ys left (omega arith)) (λ ys. (ys, [], ([], sym (append-nil ys), refl))))
  where
    whole : (xs : List A) (used : List Symbol) → Both (IsOnto P []) (λ ys xs b. IsMore P between ys xs b) xs used → Listed P between xs used
    whole xs used (ys, a, b, is, (x, e, p), (new, f, m)) = let all : xs ≡ x ∷ new = rw (f, e) refl in rw all (a, b, is, p, m)

-- the reader of a list tells it
pub tell_listed : {A : Type 0} {read : List Symbol → Read A} {P : A → List Symbol → Type 0} {between : TokenKind} → has_word between ≡ false → Tells read P → Tells (listed_at read between) (Listed P between)
tell_listed {read = read} {P = P} {between = between} no_word tells = record {
  told = told_listed read P between no_word tells;
  thing = tells.thing ∷ [];
  spelled = tells.spelled;
  some = (tells.spelled, [], sym (append-nil tells.spelled), tells.some, refl);
}

-- of a list that may be empty
pub told_maybe : {A : Type 0} (read : List Symbol → Read A) (P : A → List Symbol → Type 0) (between : TokenKind) → has_word between ≡ false → Tells read P → (ts : List Symbol) → Told (maybe_at read between) (Maybe P between) ts
told_maybe {A} read P between no_word tells ts =
    told_if Identifier (listed_at read between) (λ s. got [] s) (Maybe P between) ts
    (λ e. told_weaken (listed_at read between) (Listed P between) (Maybe P between) ts (listed_at read between ts) (λ xs used h. whole xs used h) (told_listed read P between no_word tells ts))
    (λ e. told_done [] (Maybe P between) ts refl)
  where
    whole : (xs : List A) (used : List Symbol) → Listed P between xs used → Maybe P between xs used
    whole [] used h = absurd h
    whole (x ∷ xs) used h = h

-- the reader of a list that may be empty tells it
pub tell_maybe : {A : Type 0} {read : List Symbol → Read A} {P : A → List Symbol → Type 0} {between : TokenKind} → has_word between ≡ false → Tells read P → Tells (maybe_at read between) (Maybe P between)
tell_maybe {read = read} {P = P} {between = between} no_word tells = record { told = told_maybe read P between no_word tells; thing = []; spelled = []; some = refl }

-- ---- stars

-- of stars
pub told_stars : (ts : List Symbol) → Told stars_at (λ n used. used ≡ stars n) ts
told_stars [] = ([], refl, refl, λ other same. let none = none_same other same in rw none refl)
told_stars (t ∷ rest) = step (of_kind Star t) refl (told_stars rest)
  where
    whole : (m : ℕ) (used : List Symbol) → (u : List Symbol) × (used ≡ t ∷ u) × Both (λ n used. used ≡ stars n) (λ n m b. (m ≡ suc n) × (b ≡ [])) m u → t ≡ mark Star → used ≡ stars m
    whole m used (u, is, (n, a, b, both, st, (more, none))) own = rw (is, both, st, more, none, own) (ap (λ (l : List Symbol). mark Star ∷ l) (append-nil (stars n)))

    stays : (s : List Symbol) → head (t ∷ rest) ≡ head s → of_kind Star t ≡ false → stars_at s ≡ got 0 s
    stays [] same e = refl
    stays (u ∷ s) same e = let other : of_kind Star u ≡ false = ap (of_kind Star) (sym (some_same t u same)) ∙ e in rw other refl

    step : (b : Bool) → of_kind Star t ≡ b → Told stars_at (λ n used. used ≡ stars n) rest → Told stars_at (λ n used. used ≡ stars n) (t ∷ rest)
    step true e told =
        let inner : Told (λ s. stars_at s >>= λ n left. got (suc n) left) (Both (λ n used. used ≡ stars n) (λ n m b. (m ≡ suc n) × (b ≡ []))) rest =
        seq stars_at (λ n left. got (suc n) left) (λ n used. used ≡ stars n) (λ n m b. (m ≡ suc n) × (b ≡ [])) rest told (λ n used left is p. told_done (suc n) (λ m b. (m ≡ suc n) × (b ≡ [])) left (refl, refl)) (λ n. (suc n, [], (refl, refl))) in
        let own = is_mark Star t refl e in
        let behind = told_behind stars_at (λ s. stars_at s >>= λ n left. got (suc n) left) (Both (λ n used. used ≡ stars n) (λ n m b. (m ≡ suc n) × (b ≡ []))) t rest (stars_at rest >>= λ n left. got (suc n) left) (λ s. rw e refl) inner in
        rw e (told_weaken stars_at (λ n used. (u : List Symbol) × (used ≡ t ∷ u) × Both (λ n used. used ≡ stars n) (λ n m b. (m ≡ suc n) × (b ≡ [])) n u) (λ n used. used ≡ stars n) (t ∷ rest) (stars_at rest >>= λ n left. got (suc n) left) (λ m used h. whole m used h own) behind)
    step false e told = rw e ([], refl, refl, λ other same. stays other same e)

-- the reader of stars tells them
pub tell_stars : Tells stars_at (λ n used. used ≡ stars n)
tell_stars = record { told = told_stars; thing = 0; spelled = []; some = refl }
