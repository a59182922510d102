-- A type that every library has is spelled by few bytes.
use Rattle.std.proofs.Common.{◌≡◌, ◌≤◌, ℕ, Bool, true, false, List, length, codes, IfSome, refl, sym, subst, arith}
use Rattle.std.specs.Str.{bytes_eq}
use Rattle.std.proofs.lemmas.Slice.Eq.{bytes_eq-Decides}
use Rattle.flux_library.specs.Types.{kind_spelled}

is_word : (ty word : List ℕ) → bytes_eq ty word ≡ true → length word ≤ 65536 → length ty ≤ 65536
is_word ty word e le = subst (λ (l : List ℕ). length l ≤ 65536) (sym ((bytes_eq-Decides ty word).0 e)) le

pub types_short : (ty : List ℕ) → IfSome (kind_spelled ty) (λ _. length ty ≤ 65536)
types_short ty = cases (bytes_eq ty (codes "int")) refl (bytes_eq ty (codes "long")) refl (bytes_eq ty (codes "bool")) refl (bytes_eq ty (codes "text")) refl (bytes_eq ty (codes "char*")) refl
  where
    cases : (a : Bool) → bytes_eq ty (codes "int") ≡ a → (b : Bool) → bytes_eq ty (codes "long") ≡ b → (c : Bool) → bytes_eq ty (codes "bool") ≡ c → (d : Bool) → bytes_eq ty (codes "text") ≡ d → (e : Bool) → bytes_eq ty (codes "char*") ≡ e
        → IfSome (kind_spelled ty) (λ _. length ty ≤ 65536)
    cases true p b q c r d s e t = rw p (is_word ty (codes "int") p (omega arith))
    cases false p true q c r d s e t = rw (p, q) (is_word ty (codes "long") q (omega arith))
    cases false p false q true r d s e t = rw (p, q, r) (is_word ty (codes "bool") r (omega arith))
    cases false p false q false r true s e t = rw (p, q, r, s) (is_word ty (codes "text") s (omega arith))
    cases false p false q false r false s true t = rw (p, q, r, s, t) (is_word ty (codes "char*") t (omega arith))
    cases false p false q false r false s false t = rw (p, q, r, s, t) tt
