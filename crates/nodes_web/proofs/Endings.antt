-- Where a byte is first or last.
use Rattle.std.proofs.Common.{◌≡◌, ℕ, zero, suc, ◌==◌, ◌+◌, ◌<◌, ◌≤◌, true, false, List, [], ◌∷◌, length, get_or, take, drop, Some, None, refl, sym, ap, ◌∙◌, arith, take_all, add-one, length-drop, ◌-◌}
use Rattle.std.proofs.lemmas.Bool.{false_from_ne_true}
use Rattle.std.proofs.lemmas.List.Sums.{position_or_len_is, prefix_len_is}
use Rattle.memchr.specs.Find.{NoneBefore, NoneAfter, Passes, is_byte}
use Rattle.httparse.specs.Pieces.{is_newline}
use Rattle.nodes_web.specs.Requests.{path_of}
use Rattle.nodes_web.specs.Names.{ending}
use Rattle.nodes_web.specs.Calls.{without_newlines}

-- what is before the first of a byte, if it is anywhere
pub path_cut : (target : List ℕ) (at : ℕ) → NoneBefore (Passes (is_byte 63) target) 0 (length target) at → Passes (is_byte 63) target at → take at target ≡ path_of target
path_cut target at none there =
    ap (λ (n : ℕ). take n target) (sym (position_or_len_is (λ b. b == 63) target at 0 (omega (arith, none.high)) (λ k lt. false_from_ne_true _ (none.before k (omega arith) lt)) (λ _. there)))

pub path_whole : (target : List ℕ) → ((k : ℕ) → 0 ≤ k → k < length target → Passes (is_byte 63) target k → ⊥) → target ≡ path_of target
path_whole target none =
    sym (ap (λ (n : ℕ). take n target) (position_or_len_is (λ b. b == 63) target (length target) 0 (omega arith) (λ k lt. false_from_ne_true _ (none k (omega arith) lt)) (λ lt. absurd (omega arith)))
    ∙ take_all (length target) target (omega arith))

none_later : (name : List ℕ) → ((k : ℕ) → k < length name → (get_or name k 0 == 46) ≡ false) → ending name ≡ None
none_later [] none = refl
none_later (b ∷ name) none = rw (none_later name (λ k lt. none (suc k) (omega arith)), none 0 (omega arith)) refl

-- a name without the byte has no ending
pub no_ending : (name : List ℕ) → ((k : ℕ) → 0 ≤ k → k < length name → Passes (is_byte 46) name k → ⊥) → ending name ≡ None
no_ending name none = none_later name (λ k lt. false_from_ne_true _ (none k (omega arith) lt))

last_of : (name : List ℕ) (at : ℕ) → at < length name → (get_or name at 0 == 46) ≡ true → ((k : ℕ) → at < k → k < length name → (get_or name k 0 == 46) ≡ false)
    → ending name ≡ Some (drop (suc at) name)
last_of [] at lt there none = absurd (omega arith)
last_of (b ∷ name) zero lt there none = rw (none_later name (λ k l. none (suc k) (omega arith) (omega arith)), there) refl
last_of (b ∷ name) (suc at) lt there none = rw (last_of name at (omega arith) there (λ k l m. none (suc k) (omega arith) (omega arith))) refl

-- what follows the last place of the byte is the ending
pub ending_found : (name : List ℕ) (at : ℕ) → NoneAfter (Passes (is_byte 46) name) 0 (length name) at × Passes (is_byte 46) name at → ending name ≡ Some (drop (at + 1) name)
ending_found name at place =
    last_of name at (omega (arith, place.0.high)) place.1 (λ k l m. false_from_ne_true _ (place.0.after k (omega arith) m)) ∙ ap (λ (n : ℕ). Some (drop n name)) (sym (add-one at))

-- what follows the first bytes that are line ends
pub newlines_cut : (text : List ℕ) (at : ℕ) → at ≤ length text → ((k : ℕ) → k < at → is_newline (get_or text k 0) ≡ true) → (at < length text → is_newline (get_or text at 0) ≡ false)
    → take (length text - at) (drop at text) ≡ without_newlines text
newlines_cut text at fits before stop =
    take_all (length text - at) (drop at text) (omega (arith, length-drop at text))
    ∙ ap (λ (n : ℕ). drop n text) (sym (prefix_len_is is_newline text at 0 fits before stop))
