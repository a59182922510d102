-- The law of hoisting: the locks are closed, have what is declared, and are the least that do. They are one assignment.
use Rattle.std.proofs.Common.{◌≡◌, ◌≤◌, ℕ, true, inl, inr, List, refl, sym, subst, arith}
use Rattle.std.specs.List.{Contains}
use Rattle.flux_values.specs.declared.answers.Mode.{Mode}
use Rattle.flux_values.specs.declared.answers.Mode.TheVariants.{Reader, Writer}
use Rattle.flux_model.specs.declared.programs.ClassNo.{ClassNo}
use Rattle.flux_model.specs.declared.programs.Hold.{Hold}
use Rattle.flux_model.specs.declared.programs.Program.{Program}
use Rattle.flux_model.specs.Modes.{at_least}
use Rattle.flux_model.specs.Children.{IsBelow}
use Rattle.flux_model.specs.Locks.{declared, DeclaresPast, IsLocked, DeclaresHere, IsGreatest, AreLocksOf, Holds, AreLocks, HasAtLeast, IsClosed, HasDeclared, IsAtMost, IsLeastClosed}
use Rattle.flux_model.proofs.BelowLemmas.{below-transitive}
use Rattle.flux_model.proofs.RisingHolds.{rising_same}

-- of three modes
pub at_least_on : (a b c : Mode) → at_least a b ≡ true → at_least b c ≡ true → at_least a c ≡ true
at_least_on Writer b c x y = refl
at_least_on Reader Reader c x y = y
at_least_on Reader Writer c x y = absurd cc

hold : ClassNo → Mode → Hold
hold class mode = record { class = class; mode = mode }

module _ (p : Program) (locks : Holds) (are : AreLocks p locks) where
  -- what is declared here or below, where something that isn't less is declared here
  held : (node : ℕ) (h : Hold) → DeclaresHere p node h → IsLocked p node h.class → HasAtLeast (locks node) h
  held node h here locked =
      let own = are node in
      let (mode, has) = own.has h.class locked in
      let great = own.modes (record { class = h.class; mode = mode }) has in
      record { mode = mode; has = has; enough = great.greatest h.mode here }

  past : (node : ℕ) (low high : ClassNo) → low.0 ≤ high.0 → IsLocked p node high → DeclaresPast p node low
  past node low high le (inl declares) = record { past = high; declares = declares; least = le }
  past node low high le (inr (_, more)) = record { past = more.past; declares = more.declares; least = omega (arith, le, more.least) }

  -- from a node below, what it or one below it declares
  lifted : (top node : ℕ) (h : Hold) → IsBelow p top node → DeclaresHere p node h → (other : ℕ) × IsBelow p top other × Contains (declared p other) h
  lifted top node h below (inl declares) = (node, below, declares)
  lifted top node h below (inr (other, further, declares)) = (other, below-transitive p top node other below further, declares)

  closed : IsClosed p locks
  closed top node h own below has top_has le =
      let lower = are node in
      let upper = are top in
      let great = lower.modes h has in
      let (other, under, declares) = lifted top node h below great.declares in
      held top h (inr (other, under, declares))
      (inr (record { node = other; below = under; declares = (h.mode, declares) }, past top h.class own.class le (upper.only own top_has)))

  declares_own : HasDeclared p locks
  declares_own node h declares = held node h (inl declares) (inl (h.mode, declares))

  module _ (others : Holds) (other_closed : IsClosed p others) (other_declares : HasDeclared p others) where
    raised : (node other : ℕ) (h : Hold) → IsBelow p node other → HasAtLeast (others other) h → IsLocked p node h.class → HasAtLeast (others node) h
    raised node other h below low (inl (mode, declares)) =
        let own = other_declares node (record { class = h.class; mode = mode }) declares in
        let up = other_closed node other (record { class = h.class; mode = low.mode }) (record { class = h.class; mode = own.mode }) below low.has own.has (omega arith) in
        record { mode = up.mode; has = up.has; enough = at_least_on up.mode low.mode h.mode up.enough low.enough }
    raised node other h below low (inr (_, more)) =
        let (mode, declares) = more.declares in
        let own = other_declares node (record { class = more.past; mode = mode }) declares in
        let up = other_closed node other (record { class = h.class; mode = low.mode }) (record { class = more.past; mode = own.mode }) below low.has own.has more.least in
        record { mode = up.mode; has = up.has; enough = at_least_on up.mode low.mode h.mode up.enough low.enough }

    least : IsAtMost locks others
    least node h has = here great.declares
      where
        lower : AreLocksOf p node (locks node)
        lower = are node

        great : IsGreatest p node h
        great = lower.modes h has

        here : DeclaresHere p node h → HasAtLeast (others node) h
        here (inl declares) = other_declares node h declares
        here (inr (other, below, declares)) = raised node other h below (other_declares other h declares) (lower.only h has)

pub least_closed : (p : Program) (locks : Holds) → AreLocks p locks → IsLeastClosed p locks
least_closed p locks are = record {
  closed = closed p locks are;
  declares = declares_own p locks are;
  least = λ others other_closed other_declares. least p locks are others other_closed other_declares;
}

-- ---- a program's nodes have only one list of locks each

at_least_both : (a b : Mode) → at_least a b ≡ true → at_least b a ≡ true → a ≡ b
at_least_both Reader Reader x y = refl
at_least_both Reader Writer x y = absurd cc
at_least_both Writer Reader x y = absurd cc
at_least_both Writer Writer x y = refl

locked_in : (p : Program) (node : ℕ) (hs is : List Hold) → AreLocksOf p node hs → AreLocksOf p node is → (h : Hold) → Contains hs h → Contains is h
locked_in p node hs is a b h c =
    let (mode, has) = b.has h.class (a.only h c) in
    let mine = a.modes h c in
    let other = b.modes (record { class = h.class; mode = mode }) has in
    let same = at_least_both h.mode mode (mine.greatest mode other.declares) (other.greatest h.mode mine.declares) in
    subst (λ (m : Mode). Contains is (record { class = h.class; mode = m })) (sym same) has

pub locks_of_once : (p : Program) (node : ℕ) (hs is : List Hold) → AreLocksOf p node hs → AreLocksOf p node is → hs ≡ is
locks_of_once p node hs is a b = rising_same hs is a.rising b.rising (locked_in p node hs is a b) (locked_in p node is hs b a)

pub locks_once : (p : Program) (locks others : Holds) → AreLocks p locks → AreLocks p others → locks ≡ others
locks_once p locks others a b = λ i node. locks_of_once p node (locks node) (others node) (a node) (b node) i
