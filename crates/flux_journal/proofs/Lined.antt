-- Nodes by their names, what follows an exit's and a call's word, and lines.
use Rattle.std.proofs.Common.{false, ◌≡◌, ◌≢◌, ℕ, zero, suc, ◌<◌, ◌^◌, List, [], ◌∷◌, ◌++◌, length, Option, Some, None, IfNone, Result, Ok, Err, refl, sym, ap, ◌∙◌, subst, append_assoc, arith}
use Rattle.std.specs.List.{AllByRecursion, slice_get}
use Rattle.std.specs.Option.{option_map}
use Rattle.std.specs.Str.Parse.{AllDigits}
use Rattle.std.specs.Fmt.{decimal}
use Rattle.std.proofs.lemmas.Bool.Decides.{nat_tests}
use Rattle.std.proofs.lemmas.Fmt.{decimal_is_IsNumeral}
use Rattle.std.proofs.lemmas.Str.Parse.{digit_from_value}
use Rattle.std.proofs.lemmas.Option.{slice_get-map, slice_get_within}
use Rattle.flux_values.specs.Identifiers.{is_word_byte, IsIdentifier}
use Rattle.flux_model.specs.declared.programs.Program.{Program}
use Rattle.flux_model.specs.declared.programs.Node.{Node}
use Rattle.flux_model.specs.declared.programs.NodeNo.{NodeNo}
use Rattle.flow_model.specs.declared.journals.Outcome.{Outcome}
use Rattle.flow_model.specs.declared.journals.CallMade.{CallMade}
use Rattle.flow_model.specs.declared.journals.Event.{Event}
use Rattle.flow_model.specs.declared.journals.Entry.{Entry}
use Rattle.flux_model.specs.Names.{IsNamed}
use Rattle.flux_model.specs.Texts.{name_in, node_name}
use Rattle.flow_model.specs.Texts.{printed_exit}
use Rattle.flux_journal.specs.declared.faults.LineFault.{LineFault}
use Rattle.flux_journal.specs.Spelled.{IsCallText, IsEventText, IsEntryLine}
use Rattle.flux_journal.specs.steps.Cuts.{HasNone, IsCut, IsNumber}
use Rattle.flux_journal.specs.steps.Named.{names_in, IsNodeNamed, IsReady}
use Rattle.flux_journal.specs.steps.Parts.{IsExitText}
use Rattle.flux_journal.specs.steps.Reading.{IsWholeRead, IsCallAt}
use Rattle.flux_journal.specs.steps.Events.{IsNodeText, IsExitRest, IsCallRest}
use Rattle.flux_journal.proofs.Cutting.{same_cut, no_cut}
use Rattle.flux_journal.proofs.Keying.{identifier_clean}
use Rattle.flux_journal.proofs.Failing.{on_bad}

-- ---- nodes

-- a number of a node has its name
named_at : (p : Program) (names name : List _) (node : NodeNo) → names ≡ names_in p.nodes → (o : Option Node) → slice_get p.nodes node.0 ≡ o → slice_get names node.0 ≡ Some name → IsNodeText p name node
named_at p names name node are None at is =
    let e : Some name ≡ None = sym is ∙ ap (λ (l : List (List ℕ)). slice_get l node.0) are ∙ slice_get-map (λ (n : Node). n.name) p.nodes node.0 ∙ ap (option_map (λ (n : Node). n.name)) at in
    absurd cc
named_at p names name node are (Some n) at is =
    let e : Some name ≡ Some n.name = sym is ∙ ap (λ (l : List (List ℕ)). slice_get l node.0) are ∙ slice_get-map (λ (m : Node). m.name) p.nodes node.0 ∙ ap (option_map (λ (m : Node). m.name)) at in
    let same : name ≡ n.name = cc in
    (slice_get_within p.nodes node.0 n at, same ∙ sym (ap name_in at))

pub node_text : (p : Program) (names : List (List ℕ)) (name : List ℕ) (node : NodeNo) → IsReady p names → IsNodeNamed names name node → IsNodeText p name node
node_text p names name node ready is = named_at p names name node ready.are (slice_get p.nodes node.0) refl is

text_named : (p : Program) (names : List (List ℕ)) (name : List ℕ) (node : NodeNo) → names ≡ names_in p.nodes → (o : Option Node) → slice_get p.nodes node.0 ≡ o → IsNodeText p name node → IsNodeNamed names name node
text_named p names name node are None at is = absurd (no_node p.nodes node.0 is.0 at)
  where
    no_node : (nodes : List Node) (k : ℕ) → k < length nodes → slice_get nodes k ≡ None → ⊥
    no_node [] k lt e = omega arith
    no_node (n ∷ nodes) zero lt e = let f : Some n ≡ None = e in absurd cc
    no_node (n ∷ nodes) (suc k) lt e = no_node nodes k (omega arith) e
text_named p names name node are (Some n) at is =
    ap (λ (l : List (List ℕ)). slice_get l node.0) are ∙ slice_get-map (λ (m : Node). m.name) p.nodes node.0 ∙ ap (option_map (λ (m : Node). m.name)) at ∙ ap Some (sym (is.1 ∙ ap name_in at))

pub node_named : (p : Program) (names : List (List ℕ)) (name : List ℕ) (node : NodeNo) → IsReady p names → IsNodeText p name node → IsNodeNamed names name node
node_named p names name node ready is = text_named p names name node ready.are (slice_get p.nodes node.0) refl is

all_at : (nodes : List Node) (k : ℕ) (node : Node) → AllByRecursion (λ n. IsIdentifier n.name) nodes → slice_get nodes k ≡ Some node → IsIdentifier node.name
all_at [] k node all at = absurd cc
all_at (n ∷ nodes) zero node all at = let same : n ≡ node = cc in subst (λ (m : Node). IsIdentifier m.name) same all.0
all_at (n ∷ nodes) (suc k) node all at = all_at nodes k node all.1 at

-- a node's name has no byte that isn't a word's
name_clean : (m : ℕ) → is_word_byte m ≡ false → (p : Program) → IsNamed p → (o : Option Node) (k : ℕ) → slice_get p.nodes k ≡ o → HasNone m (name_in o)
name_clean m free p named None k at = tt
name_clean m free p named (Some n) k at = identifier_clean m free n.name (all_at p.nodes k n named.nodes at)

pub node_free : (m : ℕ) → is_word_byte m ≡ false → (p : Program) → IsNamed p → (node : NodeNo) → HasNone m (node_name p node)
node_free m free p named node = name_clean m free p named (slice_get p.nodes node.0) node.0 refl

pub node_clean : (p : Program) → IsNamed p → (node : NodeNo) → HasNone 32 (node_name p node)
node_clean p named node = node_free 32 refl p named node

-- ---- exits

pub exit_no_cut : (p : Program) (text : List ℕ) → HasNone 32 text → (node : NodeNo) (outcome : Outcome) → IsExitRest p text node outcome → ⊥
exit_no_cut p text clean node outcome is = no_cut 32 text (node_name p node) (printed_exit outcome) clean (is.laid ∙ append_assoc (node_name p node) (32 ∷ []) (printed_exit outcome))

exit_cut : (p : Program) → IsNamed p → (text front behind : List ℕ) → IsCut 32 text front behind → (node : NodeNo) (outcome : Outcome) → IsExitRest p text node outcome → IsNodeText p front node × IsExitText behind outcome
exit_cut p named text front behind cut node outcome is =
    let same = same_cut 32 front (node_name p node) behind (printed_exit outcome) cut.none (node_clean p named node) (sym cut.laid ∙ is.laid ∙ append_assoc (node_name p node) (32 ∷ []) (printed_exit outcome)) in
    ((is.node_, same.front), (is.outcome_, same.rest))

pub exit_no_node : (p : Program) → IsNamed p → (text front behind : List ℕ) → IsCut 32 text front behind → ((node : NodeNo) → IsNodeText p front node → ⊥) → (node : NodeNo) (outcome : Outcome) → IsExitRest p text node outcome → ⊥
exit_no_node p named text front behind cut none node outcome is = let parts = exit_cut p named text front behind cut node outcome is in none node parts.0

pub exit_no_outcome : (p : Program) → IsNamed p → (text front behind : List ℕ) → IsCut 32 text front behind → ((outcome : Outcome) → IsExitText behind outcome → ⊥) → (node : NodeNo) (outcome : Outcome) → IsExitRest p text node outcome → ⊥
exit_no_outcome p named text front behind cut none node outcome is = let parts = exit_cut p named text front behind cut node outcome is in none outcome parts.1

pub exit_is : (p : Program) (text front behind : List ℕ) (node : NodeNo) (outcome : Outcome) → IsCut 32 text front behind → IsNodeText p front node → IsExitText behind outcome → IsExitRest p text node outcome
exit_is p text front behind node outcome cut own is =
    record {
      node_ = own.0;
      outcome_ = is.0;
      laid = cut.laid ∙ ap (λ (t : List ℕ). front ++ 32 ∷ t) is.1 ∙ ap (λ (t : List ℕ). t ++ 32 ∷ printed_exit outcome) own.1 ∙ sym (append_assoc (node_name p node) (32 ∷ []) (printed_exit outcome));
    }

-- ---- calls

pub call_no_cut : (p : Program) (text : List ℕ) → HasNone 32 text → (made : CallMade) → IsCallRest p text made → ⊥
call_no_cut p text clean made is =
    let b = is.call in
    no_cut 32 text (node_name p made.node) b.rest clean (b.laid ∙ append_assoc (node_name p made.node) (32 ∷ []) b.rest)

record CallParts (p : Program) (front behind : List ℕ) (made : CallMade) : Type 0 where
  node : IsNodeText p front made.node
  text : IsCallText p behind made

call_cut : (p : Program) → IsNamed p → (text front behind : List ℕ) → IsCut 32 text front behind → (made : CallMade) → IsCallRest p text made → CallParts p front behind made
call_cut p named text front behind cut made is =
    let b = is.call in
    let same = same_cut 32 front (node_name p made.node) behind b.rest cut.none (node_clean p named made.node) (sym cut.laid ∙ b.laid ∙ append_assoc (node_name p made.node) (32 ∷ []) b.rest) in
    record { node = (is.node_, same.front); text = subst (λ (t : List ℕ). IsCallText p t made) (sym same.rest) b.then_ }

pub call_no_node : (p : Program) → IsNamed p → (text front behind : List ℕ) → IsCut 32 text front behind → ((node : NodeNo) → IsNodeText p front node → ⊥) → (made : CallMade) → IsCallRest p text made → ⊥
call_no_node p named text front behind cut none made is = let parts = call_cut p named text front behind cut made is in none made.node parts.node

abbrev node_at : ℕ → NodeNo
node_at n = record { 0 = n }

-- a text is one node's name
pub one_node : (p : Program) → IsNamed p → (name : List ℕ) (a b : NodeNo) → IsNodeText p name a → IsNodeText p name b → a ≡ b
one_node p named name a b first second = by_at (slice_get p.nodes a.0) refl (slice_get p.nodes b.0) refl
  where
    no_node : (nodes : List Node) (k : ℕ) → k < length nodes → slice_get nodes k ≡ None → ⊥
    no_node [] k lt e = omega arith
    no_node (n ∷ nodes) zero lt e = let f : Some n ≡ None = e in absurd cc
    no_node (n ∷ nodes) (suc k) lt e = no_node nodes k (omega arith) e

    by_at : (o : Option Node) → slice_get p.nodes a.0 ≡ o → (q : Option Node) → slice_get p.nodes b.0 ≡ q → a ≡ b
    by_at None at q bt = absurd (no_node p.nodes a.0 first.0 at)
    by_at (Some n) at None bt = absurd (no_node p.nodes b.0 second.0 bt)
    by_at (Some n) at (Some m) bt =
        let same : a.0 ≡ b.0 = named.apart a.0 b.0 n m at bt (sym (ap name_in at) ∙ sym first.1 ∙ second.1 ∙ ap name_in bt) in
        ap node_at same

pub call_read : (p : Program) → IsNamed p → (text front behind : List ℕ) (node : NodeNo) → IsCut 32 text front behind → IsNodeText p front node → (r : Result CallMade LineFault) → IsWholeRead (IsCallAt p node behind) r → IsWholeRead (IsCallRest p text) r
call_read p named text front behind node cut own (Ok made) is =
    let same : node ≡ made.node = sym is.1 in
    let mine = subst (IsNodeText p front) same own in
    record {
      node_ = mine.0;
      call = record {
        rest = behind;
        laid = cut.laid ∙ ap (λ (t : List ℕ). t ++ 32 ∷ behind) mine.1 ∙ sym (append_assoc (node_name p made.node) (32 ∷ []) behind);
        then_ = is.0;
      };
    }
call_read p named text front behind node cut own (Err fault) is = on_bad fault is other
  where
    other : ((made : CallMade) → IsCallAt p node behind made → ⊥) → (made : CallMade) → IsCallRest p text made → ⊥
    other none made rest =
        let parts = call_cut p named text front behind cut made rest in
        none made (parts.text, one_node p named front made.node node parts.node own)

-- ---- lines

digits_clean : (ds : List ℕ) → AllDigits 10 ds → HasNone 32 ds
digits_clean [] all = tt
digits_clean (d ∷ ds) all = let r = digit_from_value d all.0 in (let other : d ≢ 32 = omega arith in grind (arith, nat_tests), digits_clean ds all.1)

-- a number has no space
pub number_clean : (n : ℕ) → n < 2 ^ 64 → HasNone 32 (decimal n)
number_clean n small = let d = decimal_is_IsNumeral n small in digits_clean (decimal n) d.0.1

pub entry_laid : (p : Program) (line : List ℕ) (entry : Entry) (is : IsEntryLine p line entry) → line ≡ decimal entry.flow.0 ++ 32 ∷ is.event_text
entry_laid p line entry is = is.front ∙ append_assoc (decimal entry.flow.0) (32 ∷ []) is.event_text

pub entry_no_cut : (p : Program) (line : List ℕ) → HasNone 32 line → (entry : Entry) → IsEntryLine p line entry → ⊥
entry_no_cut p line clean entry is = no_cut 32 line (decimal entry.flow.0) is.event_text clean (entry_laid p line entry is)

entry_cut : (p : Program) (line front behind : List ℕ) → IsCut 32 line front behind → (entry : Entry) → IsEntryLine p line entry → IsNumber 4294967295 front entry.flow.0 × IsEventText p behind entry.event
entry_cut p line front behind cut entry is =
    let same = same_cut 32 front (decimal entry.flow.0) behind is.event_text cut.none (number_clean entry.flow.0 (omega (arith, is.flow))) (sym cut.laid ∙ entry_laid p line entry is) in
    ((omega (arith, is.flow), same.front), subst (λ (t : List ℕ). IsEventText p t entry.event) (sym same.rest) is.event_)

pub entry_no_number : (p : Program) (line front behind : List ℕ) → IsCut 32 line front behind → ((n : ℕ) → IsNumber 4294967295 front n → ⊥) → (entry : Entry) → IsEntryLine p line entry → ⊥
entry_no_number p line front behind cut none entry is = let parts = entry_cut p line front behind cut entry is in none entry.flow.0 parts.0

pub entry_no_event : (p : Program) (line front behind : List ℕ) → IsCut 32 line front behind → ((event : Event) → IsEventText p behind event → ⊥) → (entry : Entry) → IsEntryLine p line entry → ⊥
entry_no_event p line front behind cut none entry is = let parts = entry_cut p line front behind cut entry is in none entry.event parts.1

pub entry_is : (p : Program) (line front behind : List ℕ) (entry : Entry) → IsCut 32 line front behind → IsNumber 4294967295 front entry.flow.0 → IsEventText p behind entry.event → IsEntryLine p line entry
entry_is p line front behind entry cut number is = record {
  flow = omega (arith, number.0);
  event_text = behind;
  front = cut.laid ∙ ap (λ (t : List ℕ). t ++ 32 ∷ behind) number.1 ∙ sym (append_assoc (decimal entry.flow.0) (32 ∷ []) behind);
  event_ = is;
}

-- ---- by names

pub none_named : (p : Program) (names : List (List ℕ)) (name : List ℕ) (r : Option NodeNo) → IsReady p names → IfNone r ((node : NodeNo) → IsNodeNamed names name node → ⊥) → IfNone r ((node : NodeNo) → IsNodeText p name node → ⊥)
none_named p names name None ready none = λ node is. none node (node_named p names name node ready is)
none_named p names name (Some n) ready none = tt
