-- Links that come one after another.
use Rattle.std.proofs.Common.{◌≡◌, ℕ, List, [], ◌∷◌, ◌++◌, length, Option, Some, None, refl, sym, ap, ◌∙◌, append_assoc, subst, inl, inr}
use Rattle.std.specs.Prelude.{IfSome}
use Rattle.std.specs.Option.{option_map}
use Rattle.flux_outside.specs.Causes.{Rose}
use Rattle.flux_doors.specs.Doors.{waiting, first_link, behind_first}
use Rattle.flux_batches.specs.Gathered.{AreFirst, AreAll, AreGathered}

-- so far these came, where links are reported
abbrev pub Come : {L : Type 0} → Option (List (List L)) → Option (List (List L)) → List L → Type 0
Come None after links = after ≡ None
Come (Some before) None links = ⊥
Come (Some before) (Some after) links = AreFirst before after links

some-is : {X : Type 0} → (x y : X) → Some x ≡ Some y → x ≡ y
some-is x y e = cc

-- the first one
first-of : {L : Type 0} → (before waits : List (List L)) (link : L) → waiting before ≡ waits → Some link ≡ first_link waits → AreFirst before (behind_first waits) (link ∷ [])
first-of before [] link is one = cc
first-of before ([] ∷ others) link is one = cc
first-of {L} before ((first ∷ left) ∷ others) link is one = record {
  left = left;
  others = others;
  first = is ∙ ap (λ (l : L). (l ∷ left) ∷ others) (sym (some-is link first one));
  behind = refl;
}

pub come-first : {L : Type 0} → (before after : Option (List (List L))) (link : L) → after ≡ option_map (λ links. behind_first (waiting links)) before
    → IfSome before (λ links. Some link ≡ first_link (waiting links)) → Come before after (link ∷ [])
come-first None after link left given = left
come-first {L} (Some before) after link left given =
    let P : Option (List (List L)) → Type 0 = λ a. Come (Some before) a (link ∷ []) in subst P (sym left) (first-of before (waiting before) link refl given)

-- one more
next-of : {L : Type 0} → (before : List (List L)) (links : List L) (link : L) (left : List L) (others : List (List L)) → waiting before ≡ (links ++ left) ∷ others → Some link ≡ first_link (left ∷ others)
    → AreFirst before (behind_first (left ∷ others)) (links ++ link ∷ [])
next-of before links link [] others is one = cc
next-of {L} before links link (first ∷ left) others is one = record {
  left = left;
  others = others;
  first = is ∙ ap (λ (l : L). (links ++ l ∷ left) ∷ others) (sym (some-is link first one)) ∙ ap (λ (l : List L). l ∷ others) (sym (append_assoc links (link ∷ []) left));
  behind = refl;
}

pub come-more : {L : Type 0} → (before mid after : Option (List (List L))) (links : List L) (link : L) → Come before mid links → after ≡ option_map behind_first mid
    → IfSome mid (λ batches. Some link ≡ first_link batches) → Come before after (links ++ link ∷ [])
come-more None mid after links link come left given = left ∙ ap (option_map behind_first) come
come-more (Some before) None after links link come left given = absurd come
come-more {L} (Some before) (Some mid) after links link come left given =
    let P : Option (List (List L)) → Type 0 = λ a. Come (Some before) a (links ++ link ∷ []) in
    let one : Some link ≡ first_link (come.left ∷ come.others) = given ∙ ap first_link come.behind in
    let Q : List (List L) → Type 0 = λ m. AreFirst before (behind_first m) (links ++ link ∷ []) in
    subst P (sym left) (subst Q (sym come.behind) (next-of before links link come.left come.others come.first one))

-- ---- where no more come

-- none is left
last-of : {L : Type 0} → (before : List (List L)) (links left : List L) (others : List (List L)) → waiting before ≡ (links ++ left) ∷ others → None ≡ first_link (left ∷ others)
    → AreFirst before (behind_first (left ∷ others)) links × AreAll (behind_first (left ∷ others)) links
last-of before links [] others is none = (record { left = []; others = others; first = is; behind = refl }, inl (others, refl))
last-of before links (first ∷ left) others is none = cc

pub gathered-none : {L : Type 0} → (before mid after : Option (List (List L))) (links : List L) (late late' : ℕ) → Come before mid links → after ≡ option_map behind_first mid
    → IfSome mid (λ batches. None ≡ first_link batches) → AreGathered before after late late' links
gathered-none None mid after links late late' come left none = tt
gathered-none (Some before) None after links late late' come left none = absurd come
gathered-none {L} (Some before) (Some mid) after links late late' come left none =
    let P : Option (List (List L)) → Type 0 = λ a. AreGathered (Some before) a late late' links in
    let Q : List (List L) → Type 0 = λ m. AreFirst before (behind_first m) links × AreAll (behind_first m) links in
    let all = last-of before links come.left come.others come.first (none ∙ ap first_link come.behind) in
    let both : AreFirst before (behind_first mid) links × AreAll (behind_first mid) links = subst Q (sym come.behind) all in
    subst P (sym left) (both.0, λ steady. both.1)

-- a later accept failed
pub gathered-late : {L : Type 0} → (before mid after : Option (List (List L))) (links : List L) (late late' : ℕ) → Come before mid links → after ≡ mid → Rose late late' → AreGathered before after late late' links
gathered-late {L} before mid after links late late' come same rose =
    let P : Option (List (List L)) → Type 0 = λ a. AreGathered before a late late' links in subst P (sym same) (one before mid come)
  where
    one : (b m : Option (List (List L))) → Come b m links → AreGathered b m late late' links
    one None m c = tt
    one (Some b) None c = absurd c
    one (Some b) (Some m) c = (c, λ steady. absurd (steady rose))

-- as many came as may
pub gathered-full : {L : Type 0} → (before after : Option (List (List L))) (links : List L) (late late' : ℕ) → Come before after links → length links ≡ 64 → AreGathered before after late late' links
gathered-full None after links late late' come full = tt
gathered-full (Some before) None links late late' come full = absurd come
gathered-full (Some before) (Some after) links late late' come full = (come, λ steady. inr full)
