-- A journal's pages, the last one first.
use Rattle.std.proofs.Common.{◌≡◌, ◌++◌, [], ◌∷◌, ℕ, List, take, drop, reverse, sym, ap, ◌∙◌, append_assoc}
use Rattle.std.specs.List.{flat_map}
use Rattle.std.proofs.lemmas.Grind.{flat_map-append}
use Rattle.std.proofs.lemmas.List.{reverse-append, take-append-drop}
use Rattle.flux_journal.specs.steps.Paged.{text_of}

-- a page of the lines from a place on comes before the later ones: after the lines that are left, the text is as long as before
pub printed_last : {A : Type 0} (line : A → List ℕ) (all left : List A) (from : ℕ) (page : List ℕ) (later more : List (List ℕ))
    → left ≡ take from all → page ≡ flat_map line (drop from all) → more ≡ later ++ page ∷ []
    → flat_map line left ++ text_of (reverse more) ≡ flat_map line all ++ text_of (reverse later)
printed_last {A} line all left from page later more are has added =
    ap (λ (es : List A). flat_map line es ++ text_of (reverse more)) are
    ∙ ap (λ (ps : List (List ℕ)). flat_map line (take from all) ++ text_of ps) (ap reverse added ∙ reverse-append later (page ∷ []))
    ∙ sym (append_assoc (flat_map line (take from all)) page (text_of (reverse later)))
    ∙ ap (λ (t : List ℕ). t ++ text_of (reverse later)) whole
  where
    whole : flat_map line (take from all) ++ page ≡ flat_map line all
    whole = ap (λ (t : List ℕ). flat_map line (take from all) ++ t) has ∙ sym (flat_map-append line (take from all) (drop from all)) ∙ ap (flat_map line) (take-append-drop from all)
