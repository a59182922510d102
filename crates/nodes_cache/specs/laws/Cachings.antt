-- The library keeps the laws of a library (an `impl` takes its laws' proofs from here).
use Rattle.std.proofs.Common.{◌≡◌, ◌≤◌, ◌<◌, ◌&&◌, ◌||◌, ℕ, ℤ, ◌-ℤ◌, pos, Bool, true, false, cond, eqb, leb, ltb, List, [], ◌∷◌, ◌++◌, length, codes, Option, Some, None, IfSome, refl, sym, subst, arith, rules, int_lt}
use Rattle.std.specs.List.{AllByRecursion, list_all}
use Rattle.std.specs.FinMap.{get}
use Rattle.std.proofs.lemmas.Bool.{leb-true}
use Rattle.std.proofs.lemmas.Bool.Decides.{nat_tests}
use Rattle.std.proofs.lemmas.List.Elements.{All-nil, All-from_recursion}
use Rattle.flux_values.specs.declared.values.Value.{Value}
use Rattle.flux_values.specs.declared.values.Value.TheVariants as values
use Rattle.flux_values.specs.declared.answers.Mode.TheVariants.{Writer}
use Rattle.flux_values.specs.declared.answers.Put.{Put}
use Rattle.flux_values.specs.Reading.{IsValue}
use Rattle.flux_values.specs.Cells.{CellMap}
use Rattle.flux_library.specs.Libraries.{Fits, IsWrite, IsLawfulNode, IsAnswerOf, IsLawful}
use Rattle.flux_library.specs.laws.Types.{types_short}
use Rattle.flux_library.specs.Answers.{the_text}
use Rattle.flux_library.specs.laws.Answers.{text_valid}
use Rattle.flux_library.specs.Documents.{IsBody, DocMap}
use Rattle.nodes_cache.specs.declared.nodes.Node.{Node}
use Rattle.nodes_cache.specs.declared.nodes.Node.TheVariants as nodes
use Rattle.nodes_cache.specs.Nodes.{cache, node_named, sig_of, sig_named}
use Rattle.nodes_cache.specs.Entries.{fits, text_or_empty, has_entry, body_of, body_name, uses_name, users_name, uses_of, users_of, one_more, entries, leaving}
use Rattle.nodes_cache.specs.Calls.{the_name, the_body, put, cut, entered, removed, used_more, read_name_call, check_call, read_document, replacing, stored, complete_call, answer_named}
use Rattle.nodes_cache.specs.Cachings.{caching_meaning}

-- ---- texts

and_left : (a b : Bool) → (a && b) ≡ true → a ≡ true
and_left true b e = refl
and_left false b e = absurd cc

and_right : (a b : Bool) → (a && b) ≡ true → b ≡ true
and_right true b e = e
and_right false b e = absurd cc

empty_valid : IsValue (values.Text [])
empty_valid = (All-nil (λ (b : ℕ). b < 256), omega arith)

name_valid : (args : List Value) → AllByRecursion IsValue args → IsValue (values.Text (the_name args))
name_valid [] all = empty_valid
name_valid (values.Text t ∷ args) all = all.0
name_valid (values.Int z ∷ args) all = empty_valid
name_valid (values.Bool b ∷ args) all = empty_valid

body_valid : (args : List Value) → AllByRecursion IsValue args → IsValue (values.Text (the_body args))
body_valid [] all = empty_valid
body_valid (v ∷ []) all = empty_valid
body_valid (v ∷ values.Text t ∷ args) all = all.1.0
body_valid (v ∷ values.Int z ∷ args) all = empty_valid
body_valid (v ∷ values.Bool b ∷ args) all = empty_valid

bytes_small : (t : List ℕ) → list_all (λ byte. ltb byte 256) t ≡ true → AllByRecursion (λ (b : ℕ). b < 256) t
bytes_small [] e = tt
bytes_small (b ∷ t) e =
    let first : ltb b 256 ≡ true = and_left (ltb b 256) (list_all (λ byte. ltb byte 256) t) e in
    (grind (arith, nat_tests), bytes_small t (and_right (ltb b 256) (list_all (λ byte. ltb byte 256) t) e))

fits_valid : (t : List ℕ) → fits t ≡ true → IsValue (values.Text t)
fits_valid t e = (
  All-from_recursion (λ (b : ℕ). b < 256) t (bytes_small t (and_right (leb (length t) 65536) (list_all (λ byte. ltb byte 256) t) e)),
  leb-true (length t) 65536 (and_left (leb (length t) 65536) (list_all (λ byte. ltb byte 256) t) e),
)

held_valid : (value : Option Value) → IsValue (values.Text (text_or_empty value))
held_valid None = empty_valid
held_valid (Some (values.Int z)) = empty_valid
held_valid (Some (values.Bool b)) = empty_valid
held_valid (Some (values.Text t)) = one (fits t) refl
  where
    one : (f : Bool) → fits t ≡ f → IsValue (values.Text (text_or_empty (Some (values.Text t))))
    one true p = rw p (fits_valid t p)
    one false p = rw p empty_valid

-- ---- puts

-- a put on the cell
writes : (name : List ℕ) (value : Option Value) → IsWrite cache (record { cell = codes "cache"; name = name; value = value })
writes name value = record { use_ = record { name = codes "cache"; mode = Writer }; before = []; after = []; among = refl; name = refl; mode = refl }

abbrev AreWrites : List Put → Type 0
AreWrites puts = AllByRecursion (IsWrite cache) puts

entered_writes : (name body : List ℕ) → AreWrites (entered name body)
entered_writes name body = (writes (body_name name) (Some (values.Text body)), (writes (uses_name name) (Some (values.Int (pos 1))), (writes (users_name name) (Some (values.Int (pos 1))), tt)))

used_writes : (cell : CellMap) (name : List ℕ) → AreWrites (used_more cell name)
used_writes cell name = (writes (users_name name) (Some (values.Int (one_more (users_of cell name)))), tt)

replacing_writes : (old : Option (List ℕ)) (name body : List ℕ) → AreWrites (replacing old name body)
replacing_writes None name body = tt
replacing_writes (Some old) name body = (writes (body_name old) None, (writes (uses_name old) None, (writes (users_name old) None, entered_writes name body)))

stored_writes : (cell : CellMap) (name body : List ℕ) → AreWrites (stored cell name body)
stored_writes cell name body = one (ltb 1024 (length name)) refl (has_entry cell name) refl (ltb (length (entries cell)) 8) refl
  where
    one : (a : Bool) → ltb 1024 (length name) ≡ a → (b : Bool) → has_entry cell name ≡ b → (c : Bool) → ltb (length (entries cell)) 8 ≡ c → AreWrites (stored cell name body)
    one true p b q c r = rw p tt
    one false p true q c r = rw (p, q) (used_writes cell name)
    one false p false q true r = rw (p, q, r) (entered_writes name body)
    one false p false q false r = rw (p, q, r) (replacing_writes (leaving cell) name body)

-- ---- answers

read_name_lawful : (text : List ℕ) → IsValue (values.Text text) → IsAnswerOf (sig_of nodes.ReadName) (read_name_call text)
read_name_lawful text valid = one (eqb (length text) 0 || ltb 1024 (length text)) refl
  where
    one : (a : Bool) → (eqb (length text) 0 || ltb 1024 (length text)) ≡ a → IsAnswerOf (sig_of nodes.ReadName) (read_name_call text)
    one true p = rw p (record { result = (omega arith, omega arith); puts = tt; emits = omega arith })
    one false p = rw p (record { result = (refl, (valid, tt)); puts = tt; emits = omega arith })

check_lawful : (cell : CellMap) (name : List ℕ) → IsValue (values.Text name) → IsAnswerOf (sig_of nodes.CheckCache) (check_call cell name)
check_lawful cell name valid = one (has_entry cell name) refl
  where
    one : (a : Bool) → has_entry cell name ≡ a → IsAnswerOf (sig_of nodes.CheckCache) (check_call cell name)
    one true p = rw p (record {
      result = (refl, (valid, (held_valid (get cell (body_name name)), (tt, tt))));
      puts = (writes (uses_name name) (Some (values.Int (one_more (uses_of cell name)))), used_writes cell name);
      emits = omega arith;
    })
    one false p = rw p (record { result = (refl, (valid, (empty_valid, (tt, tt)))); puts = tt; emits = omega arith })

read_lawful : (name : List ℕ) (body : Option (List ℕ)) → IsValue (values.Text name) → IfSome body IsBody → IsAnswerOf (sig_of nodes.ReadInFromDisk) (read_document name body)
read_lawful name None valid is = record { result = (omega arith, omega arith); puts = tt; emits = omega arith }
read_lawful name (Some body) valid is = one (leb (length body) 65536) refl
  where
    one : (a : Bool) → leb (length body) 65536 ≡ a → IsAnswerOf (sig_of nodes.ReadInFromDisk) (read_document name (Some body))
    one true p = rw p (record { result = (refl, (valid, ((is.0, leb-true (length body) 65536 p), (tt, tt)))); puts = tt; emits = omega arith })
    one false p = rw p (record { result = (omega arith, omega arith); puts = tt; emits = omega arith })

complete_lawful : (cell : CellMap) (name : List ℕ) → IsAnswerOf (sig_of nodes.Complete) (complete_call cell name)
complete_lawful cell name = one (has_entry cell name) refl (int_lt (pos 0) (users_of cell name)) refl
  where
    one : (a : Bool) → has_entry cell name ≡ a → (b : Bool) → int_lt (pos 0) (users_of cell name) ≡ b → IsAnswerOf (sig_of nodes.Complete) (complete_call cell name)
    one true p true q = rw (p, q) (record { result = (refl, tt); puts = (writes (users_name name) (Some (values.Int (users_of cell name -ℤ pos 1))), tt); emits = omega arith })
    one true p false q = rw (p, q) (record { result = (refl, tt); puts = tt; emits = omega arith })
    one false p b q = rw p (record { result = (refl, tt); puts = tt; emits = omega arith })

-- ---- nodes

-- of the lists of cells a node is called with those that it uses
one_cell : (P : List CellMap → Type 0) → ((cell : CellMap) → P (cell ∷ [])) → (cells : List CellMap) → length cells ≡ 1 → P cells
one_cell P call [] e = absurd (omega (arith, e))
one_cell P call (cell ∷ []) e = call cell
one_cell P call (cell ∷ next ∷ cells) e = absurd (omega (arith, e))

node_lawful : (docs : DocMap) (node : Option Node) → IsLawfulNode (sig_named node) (answer_named docs.named node)
node_lawful docs None = tt
node_lawful docs (Some nodes.Listen) = record { source = refl; answers = λ args cells fits_ all. let h = fits_.role in absurd cc }
node_lawful docs (Some nodes.ReadName) = record { source = tt; answers = λ args cells fits_ all. read_name_lawful (the_text args) (text_valid args all) }
node_lawful docs (Some nodes.CheckCache) = record {
  source = tt;
  answers = λ args cells fits_ all. one_cell (λ cs. IsAnswerOf (sig_of nodes.CheckCache) (answer_named docs.named (Some nodes.CheckCache) args cs)) (λ cell. check_lawful cell (the_name args) (name_valid args all)) cells fits_.cells_;
}
node_lawful docs (Some nodes.ReadInFromDisk) = record { source = tt; answers = λ args cells fits_ all. read_lawful (the_name args) (get docs.named (the_name args)) (name_valid args all) (docs.bodies (the_name args)) }
node_lawful docs (Some nodes.StoreInCache) = record {
  source = tt;
  answers = λ args cells fits_ all. one_cell (λ cs. IsAnswerOf (sig_of nodes.StoreInCache) (answer_named docs.named (Some nodes.StoreInCache) args cs))
      (λ cell. record { result = (fits_.kinds, all); puts = stored_writes cell (the_name args) (the_body args); emits = omega arith }) cells fits_.cells_;
}
node_lawful docs (Some nodes.Write) = record { source = tt; answers = λ args cells fits_ all. record { result = (refl, (name_valid args all, tt)); puts = tt; emits = let short = (body_valid args all).1 in omega arith } }
node_lawful docs (Some nodes.Complete) = record {
  source = tt;
  answers = λ args cells fits_ all. one_cell (λ cs. IsAnswerOf (sig_of nodes.Complete) (answer_named docs.named (Some nodes.Complete) args cs)) (λ cell. complete_lawful cell (the_name args)) cells fits_.cells_;
}
node_lawful docs (Some nodes.FourOhFour) = record { source = tt; answers = λ args cells fits_ all. record { result = (refl, tt); puts = tt; emits = omega arith } }

pub caching_lawful : (docs : DocMap) → IsLawful (caching_meaning docs)
caching_lawful docs = record { short = types_short; nodes = λ name. node_lawful docs (node_named name) }
