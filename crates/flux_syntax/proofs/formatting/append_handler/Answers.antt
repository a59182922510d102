use Rattle.std.proofs.Common.{◌≡◌, ℕ, List, ◌++◌, OnOk, codes, ap, subst, ◌∙◌, append_assoc}
use Rattle.flux_syntax.specs.Formatted.{codes_text}
use Rattle.flux_syntax.proofs.formatting.append_handler.Goals as goal

-- six pieces one after the other
grouped : (o a b c d e f : List ℕ) → (((((o ++ a) ++ b) ++ c) ++ d) ++ e) ++ f ≡ o ++ (a ++ (b ++ (c ++ (d ++ (e ++ f)))))
grouped o a b c d e f =
    append_assoc ((((o ++ a) ++ b) ++ c) ++ d) e f ∙ append_assoc (((o ++ a) ++ b) ++ c) d (e ++ f) ∙ append_assoc ((o ++ a) ++ b) c (d ++ (e ++ f))
    ∙ append_assoc (o ++ a) b (c ++ (d ++ (e ++ f))) ∙ append_assoc o a (b ++ (c ++ (d ++ (e ++ f))))

pub returns : goal.returns
returns c =
    let node = ap (λ (l : List ℕ). l ++ c.args.node.now.text) c.in_ok-append.ensures.added in
    let numbers = ap (λ (l : List ℕ). l ++ codes_text c.args.codes.now) (c.in_ok-append_to.ensures ∙ node) in
    let arrow = ap (λ (l : List ℕ). l ++ codes " => ") (c.in_ok-append_codes.ensures ∙ numbers) in
    let handler = ap (λ (l : List ℕ). l ++ c.args.handler.now.text) (c.in_ok-append-2.ensures.added ∙ arrow) in
    let all = ap (λ (l : List ℕ). l ++ codes ";\n") (c.in_ok-append_to-2.ensures ∙ handler) in
    subst (λ (l : List ℕ). OnOk c.append-3.result (c.append-3.new.self ≡ l))
    (all ∙ grouped c.args.out.now (codes "handle error ") c.args.node.now.text (codes_text c.args.codes.now) (codes " => ") c.args.handler.now.text (codes ";\n")) c.append-3.ensures.added
