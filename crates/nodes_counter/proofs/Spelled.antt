-- What the reader of values says of the number that all the bytes spell.
use Rattle.std.proofs.Common.{◌≡◌, inl, inr, ℕ, ℤ, ◌<◌, ◌≤◌, List, [], ◌∷◌, ◌++◌, length, Option, Some, None, Result, Ok, Err, refl, sym, ap, ◌∙◌, subst, arith}
use Rattle.std.proofs.lemmas.List.{length-append, append-nil}
use Rattle.flux_values.specs.declared.failures.ValueFault.{ValueFault}
use Rattle.flux_values.specs.declared.failures.ValueFault.TheVariants as faults
use Rattle.flux_values.specs.declared.values.Value.{Value}
use Rattle.flux_values.specs.declared.values.Value.TheVariants as values
use Rattle.flux_values.specs.Answers.{IsOrMemory}
use Rattle.flux_values.specs.Spellings.{Spells, IsLongest}
use Rattle.nodes_counter.specs.Numbers.{int_spelled, number_of}
use Rattle.nodes_counter.specs.laws.Spellings.{int_sound, int_complete}

-- what the reader says of each longest spelling
abbrev pub Answers : List ℕ → Result (Value × ℕ) ValueFault → Type 0
Answers bytes result = (value : Value) (n : ℕ) → IsLongest bytes value n → IsOrMemory faults.Memory (Ok (value, n)) result

longest : (bytes : List ℕ) (z : ℤ) → Spells bytes (values.Int z) → IsLongest bytes (values.Int z) (length bytes)
longest bytes z spells = record {
  begins = record { spelling = bytes; rest = []; spells = spells; ends = tt; front = sym (append-nil bytes); long = refl };
  longest = λ other m b. omega (arith, b.long, ap length b.front, length-append b.spelling b.rest);
}

none_spelled : (bytes : List ℕ) → ((z : ℤ) → Spells bytes (values.Int z) → ⊥) → None ≡ int_spelled bytes
none_spelled bytes none = cases (int_spelled bytes) refl
  where
    cases : (found : Option ℤ) → int_spelled bytes ≡ found → None ≡ int_spelled bytes
    cases None p = sym p
    cases (Some z) p = absurd (none z (int_sound bytes z p))

-- a reader that answers a fault other than want of memory has found no number
pub refused : (bytes : List ℕ) (fault : ValueFault) → (fault ≡ faults.Memory → ⊥) → Answers bytes (Err fault) → None ≡ int_spelled bytes
refused bytes fault other answers = none_spelled bytes (λ z spells. told (answers (values.Int z) (length bytes) (longest bytes z spells)))
  where
    told : {v : Value × ℕ} → IsOrMemory faults.Memory (Ok v) (Err fault) → ⊥
    told (inl e) = absurd cc
    told (inr e) = other cc

-- it has read the number, where there is one
number_read : (bytes : List ℕ) (v : Value) (n : ℕ) (z : ℤ) → Answers bytes (Ok (v, n)) → Spells bytes (values.Int z) → (v ≡ values.Int z) × (n ≡ length bytes)
number_read bytes v n z answers spells = told (answers (values.Int z) (length bytes) (longest bytes z spells))
  where
    told : IsOrMemory {A = Value × ℕ} faults.Memory (Ok (values.Int z, length bytes)) (Ok (v, n)) → (v ≡ values.Int z) × (n ≡ length bytes)
    told (inl e) = let p : (v, n) ≡ (values.Int z, length bytes) = cc in (ap (λ (q : Value × ℕ). q.0) p, ap (λ (q : Value × ℕ). q.1) p)
    told (inr e) = absurd cc

-- a spelling that ends before the bytes do is no number's that all of them spell
pub left_over : (bytes : List ℕ) (v : Value) (n : ℕ) → Answers bytes (Ok (v, n)) → n < length bytes → None ≡ int_spelled bytes
left_over bytes v n answers lt = none_spelled bytes (λ z spells. let r = number_read bytes v n z answers spells in omega (arith, r.1))

whole : (bytes : List ℕ) (z : ℤ) (n : ℕ) → IsLongest bytes (values.Int z) n → length bytes ≤ n → Spells bytes (values.Int z)
whole bytes z n long le = ended long.begins.rest refl
  where
    ended : (rest : List ℕ) → long.begins.rest ≡ rest → Spells bytes (values.Int z)
    ended [] e = subst (λ (l : List ℕ). Spells l (values.Int z)) (sym (long.begins.front ∙ ap (λ (l : List ℕ). long.begins.spelling ++ l) e ∙ append-nil long.begins.spelling)) long.begins.spells
    ended (b ∷ rest) e = absurd (omega (arith, ap length long.begins.front, length-append long.begins.spelling long.begins.rest, ap length e, long.begins.long))

-- a spelling of all the bytes gives its number, if it is one
pub to_the_end : (bytes : List ℕ) (v : Value) (n : ℕ) → Answers bytes (Ok (v, n)) → IsLongest bytes v n → length bytes ≤ n → number_of v ≡ int_spelled bytes
to_the_end bytes (values.Int z) n answers long le = sym (int_complete bytes z (whole bytes z n long le))
to_the_end bytes (values.Bool b) n answers long le = none_spelled bytes (λ z spells. let r = number_read bytes (values.Bool b) n z answers spells in absurd (let e = r.0 in cc))
to_the_end bytes (values.Text t) n answers long le = none_spelled bytes (λ z spells. let r = number_read bytes (values.Text t) n z answers spells in absurd (let e = r.0 in cc))
