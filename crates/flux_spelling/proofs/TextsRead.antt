-- What the reader of a text may answer, from the pieces that it has read.
use Rattle.std.proofs.Common.{◌≡◌, ◌≢◌, ◌⊎◌, inl, inr, ℕ, ◌+◌, ◌<◌, ◌≤◌, List, [], ◌∷◌, ◌++◌, length, take, drop, get_or, refl, sym, ap, ◌∙◌, arith, subst, append_assoc, All, add-one}
use Rattle.std.specs.List.{concat}
use Rattle.std.proofs.lemmas.List.{length-append, append-nil, length-drop, take-append-drop, length-take-le, drop_more, drop_all}
use Rattle.std.proofs.lemmas.List.Elements.{All-append, All-from_recursion}
use Rattle.std.proofs.Math.Seq.{take-add}
use Rattle.flux_values.specs.declared.values.Value.{Value}
use Rattle.flux_values.specs.declared.values.Value.TheVariants as values
use Rattle.flux_spelling.specs.declared.reading.Piece.TheVariants as pieces
use Rattle.flux_values.specs.declared.texts.TheConstants.{TEXT_LIMIT}
use Rattle.flux_values.specs.Spellings.{SpellEach, OpensText, BeginsSpelled, IsLongest, IsTooLong, IsBadValue}
use Rattle.flux_spelling.specs.steps.Pieces.{piece_of}
use Rattle.flux_spelling.proofs.Pieces.{piece_back, piece_stops}
use Rattle.flux_spelling.proofs.Opened.{none_found, no_quote, cut_alike, goes_on, each_more, laid_more}
use Rattle.flux_spelling.proofs.Fronts.{cannot_go_on, as_text}

-- ---- what may be after pieces, and what may not

-- after a quote: this text alone, with this length
pub record IsClosed (ps : List (List ℕ)) (t : List ℕ) (v : Value) (n : ℕ) : Type 0 where
  pub value : v ≡ values.Text t
  pub long : n ≡ length (concat ps) + 2

closed_is : (ps qs : List (List ℕ)) (t u z rest : List ℕ) (v : Value) (n : ℕ) → concat ps ++ 34 ∷ z ≡ concat qs ++ 34 ∷ rest → v ≡ values.Text u → n ≡ length (concat qs) + 2
    → (more : List (List ℕ)) (text : List ℕ) → SpellEach more text → u ≡ t ++ text → 34 ∷ z ≡ concat more ++ 34 ∷ rest → IsClosed ps t v n
closed_is ps qs t u z rest v n laid value long [] [] each whole left =
    record {
      value = value ∙ ap values.Text (whole ∙ append-nil t);
      long = long ∙ omega (arith, sym (length-append (concat ps) (34 ∷ z)) ∙ ap length laid ∙ length-append (concat qs) (34 ∷ rest), ap length left);
    }
closed_is ps qs t u z rest v n laid value long [] (b ∷ text) each whole left = absurd each
closed_is ps qs t u z rest v n laid value long (q ∷ more) [] each whole left = absurd each
closed_is ps qs t u z rest v n laid value long (q ∷ more) (b ∷ text) each whole left = absurd (no_quote q (concat more ++ 34 ∷ rest) z b each.0 (left ∙ append_assoc q (concat more) (34 ∷ rest)))

pub closes : (ps : List (List ℕ)) (t z : List ℕ) (v : Value) (n : ℕ) → SpellEach ps t → BeginsSpelled (34 ∷ (concat ps ++ 34 ∷ z)) v n → IsClosed ps t v n
closes ps t z v n s begins =
    let a = as_text (concat ps ++ 34 ∷ z) v n begins in
    let on = goes_on ps a.parts t a.text (34 ∷ z) a.rest s a.each a.laid in
    closed_is ps a.parts t a.text z a.rest v n a.laid a.value a.long on.more on.text on.each on.whole on.rest

-- after a full text: nothing but a quote
pub full_is : (limit : ℕ) (t u x rest : List ℕ) → limit ≤ length t → length u ≤ limit → ((z : List ℕ) → x ≡ 34 ∷ z → ⊥)
    → (more : List (List ℕ)) (text : List ℕ) → SpellEach more text → u ≡ t ++ text → x ≡ concat more ++ 34 ∷ rest → ⊥
full_is limit t u x rest full few other [] text each whole left = other rest left
full_is limit t u x rest full few other (q ∷ more) [] each whole left = each
full_is limit t u x rest full few other (q ∷ more) (b ∷ text) each whole left = omega (arith, ap length whole, length-append t (b ∷ text))

pub nothing_full : (ps : List (List ℕ)) (t x : List ℕ) (v : Value) (n : ℕ) → SpellEach ps t → TEXT_LIMIT ≤ length t → ((z : List ℕ) → x ≡ 34 ∷ z → ⊥) → BeginsSpelled (34 ∷ (concat ps ++ x)) v n → ⊥
nothing_full ps t x v n s full other begins =
    let a = as_text (concat ps ++ x) v n begins in
    let on = goes_on ps a.parts t a.text x a.rest s a.each a.laid in
    full_is TEXT_LIMIT t a.text x a.rest full a.few other on.more on.text on.each on.whole on.rest

-- where no piece is found: nothing but a quote
pub stuck_is : (x rest : List ℕ) (k : ℕ) → piece_of x ≡ pieces.Stops k → ((z : List ℕ) → x ≡ 34 ∷ z → ⊥)
    → (more : List (List ℕ)) (text : List ℕ) → SpellEach more text → x ≡ concat more ++ 34 ∷ rest → ⊥
stuck_is x rest k stops other [] text each left = other rest left
stuck_is x rest k stops other (q ∷ more) [] each left = each
stuck_is x rest k stops other (q ∷ more) (b ∷ text) each left = none_found q (concat more ++ 34 ∷ rest) x b k each.0 (left ∙ append_assoc q (concat more) (34 ∷ rest)) stops

pub nothing_stuck : (ps : List (List ℕ)) (t x : List ℕ) (k : ℕ) (v : Value) (n : ℕ) → SpellEach ps t → piece_of x ≡ pieces.Stops k → ((z : List ℕ) → x ≡ 34 ∷ z → ⊥) → BeginsSpelled (34 ∷ (concat ps ++ x)) v n → ⊥
nothing_stuck ps t x k v n s stops other begins =
    let a = as_text (concat ps ++ x) v n begins in
    let on = goes_on ps a.parts t a.text x a.rest s a.each a.laid in
    stuck_is x a.rest k stops other on.more on.text on.each on.rest

-- no text is too long where no piece is found and there was room, or the bytes end
abbrev HasRoom : List ℕ → List ℕ → Type 0
HasRoom t x = (length t < TEXT_LIMIT) ⊎ ((length t ≤ TEXT_LIMIT) × (length x ≡ 0))

room_left : (t u x y : List ℕ) (k : ℕ) → HasRoom t x → length u ≡ TEXT_LIMIT → 0 < length y → piece_of x ≡ pieces.Stops k
    → (more : List (List ℕ)) (text : List ℕ) → SpellEach more text → u ≡ t ++ text → x ≡ concat more ++ y → ⊥
room_left t u x y k (inl room) full some stops [] [] each whole left = omega (arith, ap length whole, length-append t [])
room_left t u x y k (inr end) full some stops [] [] each whole left = omega (arith, end.1, ap length left)
room_left t u x y k room full some stops [] (b ∷ text) each whole left = each
room_left t u x y k room full some stops (q ∷ more) [] each whole left = each
room_left t u x y k room full some stops (q ∷ more) (b ∷ text) each whole left = none_found q (concat more ++ y) x b k each.0 (left ∙ append_assoc q (concat more) y) stops

room_right : (t u x y : List ℕ) → HasRoom t x → length u ≡ TEXT_LIMIT → 0 < length y
    → (more : List (List ℕ)) (text : List ℕ) → SpellEach more text → t ≡ u ++ text → y ≡ concat more ++ x → ⊥
room_right t u x y (inl room) full some more text each whole left = omega (arith, room, ap length whole, length-append u text)
room_right t u x y (inr end) full some [] [] each whole left = omega (arith, end.1, ap length left)
room_right t u x y (inr end) full some [] (b ∷ text) each whole left = each
room_right t u x y (inr end) full some (q ∷ more) [] each whole left = each
room_right t u x y (inr end) full some (q ∷ more) (b ∷ text) each whole left = omega (arith, end.0, ap length whole, length-append u (b ∷ text))

-- the parts of a text that is too long
pub record Long (x : List ℕ) (at : ℕ) : Type 0 where
  pub text : List ℕ
  pub parts : List (List ℕ)
  pub each : SpellEach parts text
  pub full : length text ≡ TEXT_LIMIT
  pub rest : List ℕ
  pub some : 0 < length rest
  pub laid : x ≡ concat parts ++ rest
  pub place : at + length rest ≡ length x + 1
  pub other : (z : List ℕ) → rest ≡ 34 ∷ z → ⊥

pub long_parts : (x : List ℕ) (at : ℕ) → IsTooLong (34 ∷ x) at → Long x at
long_parts x at long = record {
  text = long.text;
  parts = long.opens.pieces;
  each = long.opens.each;
  full = long.full;
  rest = drop at (34 ∷ x);
  some = omega (arith, long.within, length-drop at (34 ∷ x));
  laid = ap (drop 1) (sym (take-append-drop at (34 ∷ x)) ∙ ap (λ (l : List ℕ). l ++ drop at (34 ∷ x)) long.opens.laid);
  place = omega (arith, long.within, length-drop at (34 ∷ x));
  other = λ z is. long.other (ap (λ (l : List ℕ). get_or l 0 0) (sym (drop_more (34 ∷ x) at 0 long.within) ∙ is));
}

pub not_long : (ps : List (List ℕ)) (t x : List ℕ) (k at : ℕ) → SpellEach ps t → HasRoom t x → piece_of x ≡ pieces.Stops k → IsTooLong (34 ∷ (concat ps ++ x)) at → ⊥
not_long ps t x k at s room stops long =
    let l = long_parts (concat ps ++ x) at long in
    elim (cut_alike ps l.parts t l.text x l.rest s l.each l.laid) [
      | inl on ↦ room_left t l.text x l.rest k room l.full l.some stops on.more on.text on.each on.whole on.rest
      | inr on ↦ room_right t l.text x l.rest room l.full l.some on.more on.text on.each on.whole on.rest
    ]

-- ---- the answers

pub front_is : (bytes t : List ℕ) (at : ℕ) (opens : OpensText (take at bytes) t) → bytes ≡ 34 ∷ (concat opens.pieces ++ drop at bytes)
front_is bytes t at opens = sym (take-append-drop at bytes) ∙ ap (λ (l : List ℕ). l ++ drop at bytes) opens.laid

pub pieces_long : (bytes t : List ℕ) (at : ℕ) (opens : OpensText (take at bytes) t) → at ≤ length bytes → at ≡ length (concat opens.pieces) + 1
pieces_long bytes t at opens le = omega (arith, sym (length-take-le at bytes le) ∙ ap length opens.laid)

-- a text closed here is read
pub text_read : (bytes t : List ℕ) (at : ℕ) → OpensText (take at bytes) t → All (λ b. b < 256) t → length t ≤ TEXT_LIMIT → at < length bytes → get_or bytes at 0 ≡ 34 → IsLongest bytes (values.Text t) (at + 1)
text_read bytes t at opens each few lt quote =
    let left : drop at bytes ≡ 34 ∷ drop (at + 1) bytes = drop_more bytes at 0 lt ∙ ap (λ (b : ℕ). b ∷ drop (at + 1) bytes) quote in
    let laid : bytes ≡ 34 ∷ (concat opens.pieces ++ 34 ∷ drop (at + 1) bytes) = front_is bytes t at opens ∙ ap (λ (l : List ℕ). 34 ∷ (concat opens.pieces ++ l)) left in
    let long = pieces_long bytes t at opens (omega arith) in
    record {
      begins = record {
        spelling = 34 ∷ (concat opens.pieces ++ 34 ∷ []);
        rest = drop (at + 1) bytes;
        spells = record { is_value = (each, few); form = record { opened = 34 ∷ concat opens.pieces; opens = record { pieces = opens.pieces; laid = refl; each = opens.each }; closed = refl } };
        ends = tt;
        front = laid ∙ ap (λ (l : List ℕ). 34 ∷ l) (sym (append_assoc (concat opens.pieces) (34 ∷ []) (drop (at + 1) bytes)));
        long = omega (arith, long, length-append (concat opens.pieces) (34 ∷ []));
      };
      longest = λ other m begins. let c = closes opens.pieces t (drop (at + 1) bytes) other m opens.each (subst (λ (l : List ℕ). BeginsSpelled l other m) laid begins) in omega (arith, c.long);
    }

-- one piece more
pub text_more : (bytes t : List ℕ) (at b n : ℕ) → OpensText (take at bytes) t → at ≤ length bytes → piece_of (drop at bytes) ≡ pieces.Spells b n → OpensText (take (at + n) bytes) (t ++ b ∷ []) × (0 < n) × (at + n ≤ length bytes)
text_more bytes t at b n opens le found =
    let p = piece_back (drop at bytes) b n found in (
      record {
        pieces = opens.pieces ++ take n (drop at bytes) ∷ [];
        laid = take-add at n bytes ∙ ap (λ (l : List ℕ). l ++ take n (drop at bytes)) opens.laid ∙ ap (λ (l : List ℕ). 34 ∷ l) (sym (laid_more opens.pieces (take n (drop at bytes))));
        each = each_more opens.pieces t (take n (drop at bytes)) b opens.each p.spells;
      },
      p.some,
      omega (arith, p.within, length-drop at bytes),
    )

-- one byte's text is small
single : (b : ℕ) → b < 256 → All (λ c. c < 256) (b ∷ [])
single b lt = All-from_recursion (λ (c : ℕ). c < 256) (b ∷ []) (lt, tt)

quote_front : (x y z : List ℕ) (k : ℕ) → ((w : List ℕ) → x ≡ 34 ∷ w → ⊥) → k < length x → take (k + 1) x ++ y ≡ 34 ∷ z → ⊥
quote_front [] y z k other lt is = omega arith
quote_front (b ∷ x) y z k other lt is =
    let same : b ≡ 34 = ap (λ (l : List ℕ). get_or l 0 0) (sym (ap (λ (n : ℕ). take n (b ∷ x) ++ y) (add-one k)) ∙ is) in
    other x (ap (λ (c : ℕ). c ∷ x) same)

-- no piece goes on here, and there is room
pub text_stuck : (bytes t : List ℕ) (at k : ℕ) → OpensText (take at bytes) t → All (λ b. b < 256) t → length t < TEXT_LIMIT → at ≤ length bytes
    → ((z : List ℕ) → drop at bytes ≡ 34 ∷ z → ⊥) → piece_of (drop at bytes) ≡ pieces.Stops k → IsBadValue bytes (at + k)
text_stuck bytes t at k opens each room le other stops =
    let x = drop at bytes in
    let h = piece_stops x k stops in
    let ps = opens.pieces in
    let laid = front_is bytes t at opens in
    let before : take (at + k) bytes ≡ 34 ∷ (concat ps ++ take k x) = take-add at k bytes ∙ ap (λ (l : List ℕ). l ++ take k x) opens.laid in
    record {
      no_value = λ v n begins. nothing_stuck ps t x k v n opens.each stops other (subst (λ (l : List ℕ). BeginsSpelled l v n) laid begins);
      no_text = λ place long. not_long ps t x k place opens.each (inl room) stops (subst (λ (l : List ℕ). IsTooLong l place) laid long);
      within = omega (arith, h.within, length-drop at bytes);
      before = record {
        more = h.more ++ 34 ∷ [];
        value = values.Text (t ++ h.byte ∷ []);
        spells = record {
          is_value = (All-append (λ (b : ℕ). b < 256) t (h.byte ∷ []) each (single h.byte h.small), omega (arith, length-append t (h.byte ∷ [])));
          form = record {
            opened = 34 ∷ concat (ps ++ (take k x ++ h.more) ∷ []);
            opens = record { pieces = ps ++ (take k x ++ h.more) ∷ []; laid = refl; each = each_more ps t (take k x ++ h.more) h.byte opens.each h.goes };
            closed = rw (before, laid_more ps (take k x ++ h.more)) (ap (λ (l : List ℕ). 34 ∷ l) (simp append_assoc));
          };
        };
      };
      after = λ lt. cannot_go_on (take (at + k + 1) bytes) (λ y v n begins.
          let next : take (at + k + 1) bytes ≡ 34 ∷ (concat ps ++ take (k + 1) x) = ap (λ (m : ℕ). take m bytes) (omega arith) ∙ take-add at (k + 1) bytes ∙ ap (λ (l : List ℕ). l ++ take (k + 1) x) opens.laid in
          let whole : take (at + k + 1) bytes ++ y ≡ 34 ∷ (concat ps ++ (take (k + 1) x ++ y)) = ap (λ (l : List ℕ). l ++ y) next ∙ ap (λ (l : List ℕ). 34 ∷ l) (append_assoc (concat ps) (take (k + 1) x) y) in
          let more : k < length x = omega (arith, length-drop at bytes) in
          nothing_stuck ps t (take (k + 1) x ++ y) k v n opens.each (h.stuck y more) (λ z is. quote_front x y z k other more is) (subst (λ (l : List ℕ). BeginsSpelled l v n) whole begins));
    }

-- the bytes end within a text
pub text_ends : (bytes t : List ℕ) (at : ℕ) → OpensText (take at bytes) t → All (λ b. b < 256) t → length t ≤ TEXT_LIMIT → at ≡ length bytes → IsBadValue bytes at
text_ends bytes t at opens each few end =
    let x = drop at bytes in
    let none : x ≡ [] = drop_all at bytes (omega arith) in
    let ps = opens.pieces in
    let laid = front_is bytes t at opens in
    let stops : piece_of x ≡ pieces.Stops 0 = ap piece_of none in
    record {
      no_value = λ v n begins. nothing_stuck ps t x 0 v n opens.each stops (λ z is. let e : [] ≡ 34 ∷ z = sym none ∙ is in absurd cc) (subst (λ (l : List ℕ). BeginsSpelled l v n) laid begins);
      no_text = λ place long. not_long ps t x 0 place opens.each (inr (few, ap length none)) stops (subst (λ (l : List ℕ). IsTooLong l place) laid long);
      within = omega arith;
      before = record {
        more = 34 ∷ [];
        value = values.Text t;
        spells = record { is_value = (each, few); form = record { opened = take at bytes; opens = opens; closed = refl } };
      };
      after = λ lt. absurd (omega arith);
    }

pub not_quote : (bytes : List ℕ) (at : ℕ) → at < length bytes → get_or bytes at 0 ≢ 34 → (z : List ℕ) → drop at bytes ≡ 34 ∷ z → ⊥
not_quote bytes at lt other z is = other (ap (λ (l : List ℕ). get_or l 0 0) (sym (drop_more bytes at 0 lt) ∙ is))
