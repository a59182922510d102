-- Documents that are kept in a tree whose keys are vectors.
use Rattle.std.proofs.Common.{◌≡◌, ℕ, Bool, true, false, cond, List, [], ◌∷◌, Vec, Global, Option, Some, None, Result, Ok, Err, is_some, IsTrue, refl, sym, ap, subst, ◌∙◌}
use Rattle.std.specs.Prelude.{IfSome, OnOk, OnErr, ◌↔◌}
use Rattle.std.specs.declared.cmp.Ordering.{Ordering}
use Rattle.std.specs.declared.cmp.Ordering.TheVariants.{Less, Equal, Greater}
use Rattle.std.specs.Ordering.{nat_cmp, eq_by_cmp}
use Rattle.std.specs.Cmp.Lexicographic.{slice_cmp, nat_list_cmp_total}
use Rattle.std.specs.Map.{lookup}
use Rattle.std.specs.BTreeMap.{insert_entry, is_at}
use Rattle.std.specs.FinMap as fin
use Rattle.std.specs.FinMap.Entries.{put, find, find-put}
use Rattle.flux_library.specs.Documents.{Bodies, AreBodies, IsBody, DocMap, added}
use Rattle.flux_library.specs.laws.Documents.{by_bytes, same_docs}

abbrev pub Tree : Type 0
Tree = List (Vec ℕ Global × List ℕ)

-- bytewise
abbrev order : List ℕ → List ℕ → Ordering
order = slice_cmp nat_cmp

abbrev keys_order : Vec ℕ Global → Vec ℕ Global → Ordering
keys_order a b = order a.items b.items

-- the map of a tree's entries
abbrev pub named : Tree → Bodies
named es = fin.from_entries (by_bytes es)

find-by_bytes : (name : List ℕ) (es : Tree) → find order name (by_bytes es) ≡ lookup (is_at (λ (k : Vec ℕ Global). order name k.items)) es
find-by_bytes name [] = refl
find-by_bytes name (e ∷ es) = ap (λ rest. cond (eq_by_cmp order name e.0.items) (Some e.1) rest) (find-by_bytes name es)

-- what is found in the tree is what the map has
pub get-named : (es : Tree) (name : List ℕ) → fin.get (named es) name ≡ lookup (is_at (λ (k : Vec ℕ Global). order name k.items)) es
get-named es name = fin.get-from_entries nat_list_cmp_total (by_bytes es) name ∙ find-by_bytes name es

put_first : (e : Vec ℕ Global × List ℕ) (es : Tree) (k : Vec ℕ Global) (v : List ℕ) → by_bytes (insert_entry keys_order es k v) ≡ put order k.items v (by_bytes es)
    → (o : Ordering) → order k.items e.0.items ≡ o → by_bytes (insert_entry keys_order (e ∷ es) k v) ≡ put order k.items v (by_bytes (e ∷ es))
put_first e es k v later Less p = rw p refl
put_first e es k v later Equal p = rw p refl
put_first e es k v later Greater p = rw p (ap (λ rest. (e.0.items, e.1) ∷ rest) later)

by_bytes-insert_entry : (es : Tree) (k : Vec ℕ Global) (v : List ℕ) → by_bytes (insert_entry keys_order es k v) ≡ put order k.items v (by_bytes es)
by_bytes-insert_entry [] k v = refl
by_bytes-insert_entry (e ∷ es) k v = put_first e es k v (by_bytes-insert_entry es k v) (order k.items e.0.items) refl

-- an entry put into the tree is put into the map
pub named-insert_entry : (es : Tree) (k : Vec ℕ Global) (v : List ℕ) → named (insert_entry keys_order es k v) ≡ fin.insert (named es) k.items v
named-insert_entry es k v =
    fin.same_map nat_list_cmp_total (fin.slice_cmp-IsAntisymmetric fin.nat_cmp-IsAntisymmetric) _ _ (λ q.
    fin.get-from_entries nat_list_cmp_total (by_bytes (insert_entry keys_order es k v)) q
    ∙ ap (find order q) (by_bytes-insert_entry es k v)
    ∙ find-put order nat_list_cmp_total q k.items v (by_bytes es)
    ∙ ap (cond (eq_by_cmp order q k.items) (Some v)) (sym (fin.get-from_entries nat_list_cmp_total (by_bytes es) q))
    ∙ sym (fin.get-insert nat_list_cmp_total (named es) k.items v q))

inserted_bodies : (m : Bodies) (name body : List ℕ) → AreBodies m → IsBody body → AreBodies (fin.insert m name body)
inserted_bodies m name body each is q = rw (fin.get-insert nat_list_cmp_total m name body q) (cases (eq_by_cmp order q name))
  where
    cases : (b : Bool) → IfSome (cond b (Some body) (fin.get m q)) IsBody
    cases true = is
    cases false = each q

-- bodies are kept by an entry that is put into the tree, or refused
pub kept_bodies : {A E : Type 0} (r : Result A E) (es fs : Tree) (k : Vec ℕ Global) (v : List ℕ)
    → OnOk r (fs ≡ insert_entry keys_order es k v) → OnErr r (fs ≡ es) → AreBodies (named es) → IsBody v → AreBodies (named fs)
kept_bodies (Ok a) es fs k v ok err each is = subst (λ (l : Tree). AreBodies (named l)) (sym ok) (subst AreBodies (sym (named-insert_entry es k v)) (inserted_bodies (named es) k.items v each is))
kept_bodies (Err e) es fs k v ok err each is = subst (λ (l : Tree). AreBodies (named l)) (sym err) each

pub empty_bodies : (es : Tree) → es ≡ [] → AreBodies (named es)
empty_bodies es none = subst (λ (l : Tree). AreBodies (named l)) (sym none) (λ name. rw (fin.get-empty order name) tt)

-- ---- whether a document was added

pub is_there : (es : Tree) (m : Bodies) (name asked : List ℕ) (r b : Bool) → named es ≡ m → asked ≡ name
    → r ≡ is_some (lookup (is_at (λ (k : Vec ℕ Global). order asked k.items)) es) → r ≡ b → is_some (fin.get m name) ≡ b
is_there es m name asked r b kept same answered is =
    ap (λ (n : Bodies). is_some (fin.get n name)) (sym kept) ∙ ap (λ (n : List ℕ). is_some (fin.get (named es) n)) (sym same)
    ∙ ap is_some (get-named es asked) ∙ sym answered ∙ is

pub told_there : {A : Type 0} (o : Option A) → is_some o ≡ true → IsTrue false ↔ (o ≡ None)
told_there None e = absurd (let no : false ≡ true = e in cc)
told_there (Some a) e = (λ t. absurd (let no : false ≡ true = t in cc), λ none. absurd cc)

pub told_new : {A : Type 0} (o : Option A) → is_some o ≡ false → IsTrue true ↔ (o ≡ None)
told_new None e = (λ t. refl, λ none. refl)
told_new (Some a) e = absurd (let no : true ≡ false = e in cc)

-- after a want of memory the documents are as they were
pub refused : {A E : Type 0} (r : Result A E) (es fs : Tree) (m n : DocMap) → named es ≡ m.named → n.named ≡ named fs → fs ≡ es → OnErr r (n ≡ m)
refused (Ok a) es fs m n old new same = tt
refused (Err e) es fs m n old new same = same_docs n m (new ∙ ap named same ∙ old)

pub added_there : (m : Bodies) (name body : List ℕ) → is_some (fin.get m name) ≡ true → m ≡ added m name body
added_there m name body e = rw e refl

pub added_new : (m n : Bodies) (name body : List ℕ) → is_some (fin.get m name) ≡ false → n ≡ fin.insert m name body → n ≡ added m name body
added_new m n name body e is = rw e is
