-- Each node keeps the laws of nodes.
use Rattle.std.proofs.Common.{◌≡◌, ◌≤◌, ℕ, ℤ, pos, ◌+ℤ◌, if◌then◌else◌, Bool, true, false, List, [], ◌∷◌, ◌++◌, length, drop, Option, Some, None, IfSome, codes, refl, arith, length-append}
use Rattle.std.specs.List.{AllByRecursion}
use Rattle.std.specs.Str.{bytes_eq}
use Rattle.std.specs.Fmt.{signed_decimal}
use Rattle.flux_values.specs.declared.values.Value.{Value}
use Rattle.flux_values.specs.declared.values.Value.TheVariants as values
use Rattle.flux_values.specs.declared.answers.Answer.{Answer}
use Rattle.flux_values.specs.declared.meanings.Sig.{Sig}
use Rattle.flux_values.specs.Reading.{IsValue}
use Rattle.flux_values.specs.Cells.{CellMap}
use Rattle.flux_library.specs.Libraries.{IsLawfulNode, IsLawfulSig, IsAnswerOf}
use Rattle.nodes_shortener.specs.Arguments.{first_number, first_text, second_text, fits}
use Rattle.nodes_shortener.specs.Cells.{number_under, text_under}
use Rattle.nodes_shortener.specs.laws.Arguments.{fits_sound, first_valid, first_text_valid, number_short}
use Rattle.nodes_shortener.specs.laws.Cells.{text_under_valid, writes}
use Rattle.nodes_shortener.specs.Nodes.{shorten_sig, kept, shorten_call, expand_sig, expanded, expand_call, no_body, redirect_sig, redirect_call, created_sig, created_call, sig_named, answer_named}

-- one node more keeps the laws, where it does and the others do
with_node : (is : Bool) (sig : Sig) (call : List Value → List CellMap → Answer) (others : Option Sig)
    (other : List Value → List CellMap → Answer) → IsLawfulSig sig call → IsLawfulNode others other
    → IsLawfulNode (if is then Some sig else others) (if is then call else other)
with_node true sig call others other one rest = one
with_node false sig call others other one rest = rest

-- ---- the nodes

kept_lawful : (number : ℤ) (url : List ℕ) → IsAnswerOf shorten_sig (kept number url)
kept_lawful number url = cases (fits number) refl
  where
    cases : (a : Bool) → fits number ≡ a → IsAnswerOf shorten_sig (kept number url)
    cases true p = rw p (record {
      result = (refl, (fits_sound number p, tt));
      puts = (writes (codes "links") _ _, (writes (codes "links") _ _, tt));
      emits = omega arith;
    })
    cases false p = rw p (record { result = (omega arith, omega arith); puts = tt; emits = omega arith })

shorten_lawful : IsLawfulSig shorten_sig shorten_call
shorten_lawful = record {
  source = tt;
  answers = λ args cells fit all. kept_lawful (number_under cells (codes "count") +ℤ pos 1) (drop 1 (second_text args));
}

expanded_lawful : (found : Option (List ℕ)) → IfSome found (λ url. IsValue (values.Text url))
    → IsAnswerOf expand_sig (expanded found)
expanded_lawful (Some url) valid = record { result = (refl, (valid, tt)); puts = tt; emits = omega arith }
expanded_lawful None valid = record { result = (omega arith, omega arith); puts = tt; emits = omega arith }

expand_lawful : IsLawfulSig expand_sig expand_call
expand_lawful = record {
  source = tt;
  answers = λ args cells fit all. expanded_lawful (text_under cells (drop 1 (second_text args)))
      (text_under_valid cells (drop 1 (second_text args)));
}

reply_short : (head text : List ℕ) → length head ≤ 100 → length text ≤ 65536
    → length (head ++ text ++ no_body) ≤ 1049600
reply_short head text short le =
    omega (arith, length-append (head ++ text) no_body, length-append head text)

redirect_lawful : IsLawfulSig redirect_sig (λ args cells. redirect_call args)
redirect_lawful = record {
  source = tt;
  answers = λ args cells fit all. record {
    result = (refl, tt);
    puts = tt;
    emits = reply_short (codes "HTTP/1.1 302 Found\r\nLocation: ") (first_text args) (omega arith) (first_text_valid args all).1;
  };
}

number_fits : (z : ℤ) → IsValue (values.Int z) → length (signed_decimal z) ≤ 65536
number_fits z valid = let short = number_short z valid in omega (arith, short)

created_lawful : IsLawfulSig created_sig (λ args cells. created_call args)
created_lawful = record {
  source = tt;
  answers = λ args cells fit all. record {
    result = (refl, tt);
    puts = tt;
    emits = reply_short (codes "HTTP/1.1 201 Created\r\nLocation: /") (signed_decimal (first_number args)) (omega arith)
        (number_fits (first_number args) (first_valid args all));
  };
}

-- ---- by name

pub nodes_lawful : (name : List ℕ) → IsLawfulNode (sig_named name) (answer_named name)
nodes_lawful name =
    with_node (bytes_eq name (codes "Shorten")) shorten_sig shorten_call _ _ shorten_lawful
    (with_node (bytes_eq name (codes "Expand")) expand_sig expand_call _ _ expand_lawful
    (with_node (bytes_eq name (codes "Redirect")) redirect_sig (λ args cells. redirect_call args) _ _ redirect_lawful
    (with_node (bytes_eq name (codes "Created")) created_sig (λ args cells. created_call args) _ _ created_lawful
    tt)))
