-- A text in pages.
use Rattle.std.specs.Prelude.{◌≡◌, [], ◌∷◌, codes}
use Rattle.flux_journal.specs.Pages.{joined}

-- its full pages come first, in their order, and the last one after them; a text may have no full page, or an empty last one
abbrev pub PagesAreJoined : Type 0
PagesAreJoined = (joined (codes "1 enter " ∷ codes "A\n1" ∷ []) (codes " end") ≡ codes "1 enter A\n1 end")
    × (joined [] (codes "1") ≡ codes "1") × (joined (codes "1" ∷ []) [] ≡ codes "1")

-- no page is left out, be it a full one or the last
abbrev pub NoPageIsLost : Type 0
NoPageIsLost = (joined ((1 ∷ []) ∷ []) (2 ∷ []) ≡ 2 ∷ [] → ⊥) × (joined ((1 ∷ []) ∷ []) (2 ∷ []) ≡ 1 ∷ [] → ⊥)

-- none is there twice
abbrev pub NoPageIsTwice : Type 0
NoPageIsTwice = joined ((1 ∷ []) ∷ []) (2 ∷ []) ≡ 1 ∷ 1 ∷ 2 ∷ [] → ⊥

-- none is moved
abbrev pub NoPageIsMoved : Type 0
NoPageIsMoved = joined ((1 ∷ []) ∷ (2 ∷ []) ∷ []) (3 ∷ []) ≡ 2 ∷ 1 ∷ 3 ∷ [] → ⊥
