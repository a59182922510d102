-- The library `All` has what each of the libraries has that it is joined of.
use Rattle.std.proofs.Common.{◌≡◌, ℕ, Bool, true, false, List, codes, refl, sym, subst}
use Rattle.std.specs.Str.{bytes_eq}
use Rattle.std.proofs.lemmas.Slice.Eq.{bytes_eq-Decides}
use Rattle.flux_values.specs.Meanings.{LibraryMeaning}
use Rattle.flux_library.specs.Documents.{DocMap}
use Rattle.flux_library.specs.Types.{kind_spelled}
use Rattle.nodes_counter.specs.Counters.{counter_meaning}
use Rattle.nodes_web.specs.Webs.{web_meaning}
use Rattle.nodes_cache.specs.Cachings.{caching_meaning}
use Rattle.nodes_tracker.specs.Trackers.{tracker_meaning}
use Rattle.nodes_joined.specs.Joined.{joined}
use Rattle.nodes_joined.proofs.Joining.{AgreeOn, Agree, agree_kind, has_first, has_behind, has_itself}
use Rattle.nodes_all.specs.Alls.{all_meaning, HasCounter, HasWeb, HasCaching, HasTracker}

-- ---- the names of the groups

abbrev NodeAgrees : LibraryMeaning → LibraryMeaning → List ℕ → Type 0
NodeAgrees first part name = AgreeOn (first.node name) (part.node name) (first.call name) (part.call name)

abbrev PredicateAgrees : LibraryMeaning → LibraryMeaning → List ℕ → Type 0
PredicateAgrees first part name =
    AgreeOn (first.predicate name) (part.predicate name) (first.test name) (part.test name)

abbrev SessionAgrees : LibraryMeaning → LibraryMeaning → List ℕ → Type 0
SessionAgrees first part name = AgreeOn (first.session name) (part.session name) (first.id name) (part.id name)

-- what is said of a word, and of each name that isn't this word, is said of each name
at_word : (Said : List ℕ → Type 0) (name word : List ℕ) → Said word → (bytes_eq name word ≡ false → Said name)
    → Said name
at_word Said name word here other = by (bytes_eq name word) refl
  where
    by : (b : Bool) → bytes_eq name word ≡ b → Said name
    by true e = subst Said (sym ((bytes_eq-Decides name word).0 e)) here
    by false e = other e

counter_web_nodes : (docs : DocMap) (name : List ℕ) → NodeAgrees counter_meaning (web_meaning docs) name
counter_web_nodes docs name =
    let Said = λ (n : List ℕ). NodeAgrees counter_meaning (web_meaning docs) n in
    at_word Said name (codes "Accept") tt (λ a.
    at_word Said name (codes "ReadRequest") tt (λ b.
    at_word Said name (codes "LookUp") tt (λ c.
    at_word Said name (codes "SendDoc") tt (λ d.
    at_word Said name (codes "SendHead") tt (λ e.
    at_word Said name (codes "NotFound") tt (λ f.
    at_word Said name (codes "NotAllowed") tt (λ g.
    at_word Said name (codes "BadRequest") tt (λ h.
    rw (a, b, c, d, e, f, g, h) tt))))))))

counter_caching_nodes : (docs : DocMap) (name : List ℕ) → NodeAgrees counter_meaning (caching_meaning docs) name
counter_caching_nodes docs name =
    let Said = λ (n : List ℕ). NodeAgrees counter_meaning (caching_meaning docs) n in
    at_word Said name (codes "Listen") (refl, refl) (λ a.
    at_word Said name (codes "ReadName") tt (λ b.
    at_word Said name (codes "CheckCache") tt (λ c.
    at_word Said name (codes "ReadInFromDisk") tt (λ d.
    at_word Said name (codes "StoreInCache") tt (λ e.
    at_word Said name (codes "Write") tt (λ f.
    at_word Said name (codes "Complete") tt (λ g.
    at_word Said name (codes "FourOhFour") tt (λ h.
    rw (a, b, c, d, e, f, g, h) tt))))))))

counter_tracker_nodes : (name : List ℕ) → NodeAgrees counter_meaning tracker_meaning name
counter_tracker_nodes name =
    let Said = λ (n : List ℕ). NodeAgrees counter_meaning tracker_meaning n in
    at_word Said name (codes "Listen") (refl, refl) (λ a.
    at_word Said name (codes "ReadAsk") tt (λ b.
    at_word Said name (codes "Swarm") tt (λ c.
    at_word Said name (codes "Scrape") tt (λ d.
    at_word Said name (codes "Send") tt (λ e.
    at_word Said name (codes "Failure") tt (λ f.
    at_word Said name (codes "Full") tt (λ g.
    rw (a, b, c, d, e, f, g) tt)))))))

web_caching_nodes : (docs : DocMap) (name : List ℕ) → NodeAgrees (web_meaning docs) (caching_meaning docs) name
web_caching_nodes docs name =
    let Said = λ (n : List ℕ). NodeAgrees (web_meaning docs) (caching_meaning docs) n in
    at_word Said name (codes "Listen") tt (λ a.
    at_word Said name (codes "ReadName") tt (λ b.
    at_word Said name (codes "CheckCache") tt (λ c.
    at_word Said name (codes "ReadInFromDisk") tt (λ d.
    at_word Said name (codes "StoreInCache") tt (λ e.
    at_word Said name (codes "Write") tt (λ f.
    at_word Said name (codes "Complete") tt (λ g.
    at_word Said name (codes "FourOhFour") tt (λ h.
    rw (a, b, c, d, e, f, g, h) tt))))))))

web_tracker_nodes : (docs : DocMap) (name : List ℕ) → NodeAgrees (web_meaning docs) tracker_meaning name
web_tracker_nodes docs name =
    let Said = λ (n : List ℕ). NodeAgrees (web_meaning docs) tracker_meaning n in
    at_word Said name (codes "Listen") tt (λ a.
    at_word Said name (codes "ReadAsk") tt (λ b.
    at_word Said name (codes "Swarm") tt (λ c.
    at_word Said name (codes "Scrape") tt (λ d.
    at_word Said name (codes "Send") tt (λ e.
    at_word Said name (codes "Failure") tt (λ f.
    at_word Said name (codes "Full") tt (λ g.
    rw (a, b, c, d, e, f, g) tt)))))))

caching_tracker_nodes : (docs : DocMap) (name : List ℕ) → NodeAgrees (caching_meaning docs) tracker_meaning name
caching_tracker_nodes docs name =
    let Said = λ (n : List ℕ). NodeAgrees (caching_meaning docs) tracker_meaning n in
    at_word Said name (codes "Listen") (refl, refl) (λ a.
    at_word Said name (codes "ReadAsk") tt (λ b.
    at_word Said name (codes "Swarm") tt (λ c.
    at_word Said name (codes "Scrape") tt (λ d.
    at_word Said name (codes "Send") tt (λ e.
    at_word Said name (codes "Failure") tt (λ f.
    at_word Said name (codes "Full") tt (λ g.
    rw (a, b, c, d, e, f, g) tt)))))))

counter_web_predicates : (docs : DocMap) (name : List ℕ) → PredicateAgrees counter_meaning (web_meaning docs) name
counter_web_predicates docs name =
    let Said = λ (n : List ℕ). PredicateAgrees counter_meaning (web_meaning docs) n in
    at_word Said name (codes "IsGet") tt (λ a.
    at_word Said name (codes "IsHead") tt (λ b.
    rw (a, b) tt))

counter_caching_predicates : (docs : DocMap) (name : List ℕ)
    → PredicateAgrees counter_meaning (caching_meaning docs) name
counter_caching_predicates docs name =
    let Said = λ (n : List ℕ). PredicateAgrees counter_meaning (caching_meaning docs) n in
    at_word Said name (codes "TestInCache") tt (λ a.
    rw a tt)

counter_tracker_predicates : (name : List ℕ) → PredicateAgrees counter_meaning tracker_meaning name
counter_tracker_predicates name =
    let Said = λ (n : List ℕ). PredicateAgrees counter_meaning tracker_meaning n in
    at_word Said name (codes "IsScrape") tt (λ a.
    rw a tt)

web_caching_predicates : (docs : DocMap) (name : List ℕ)
    → PredicateAgrees (web_meaning docs) (caching_meaning docs) name
web_caching_predicates docs name =
    let Said = λ (n : List ℕ). PredicateAgrees (web_meaning docs) (caching_meaning docs) n in
    at_word Said name (codes "TestInCache") tt (λ a.
    rw a tt)

web_tracker_predicates : (docs : DocMap) (name : List ℕ) → PredicateAgrees (web_meaning docs) tracker_meaning name
web_tracker_predicates docs name =
    let Said = λ (n : List ℕ). PredicateAgrees (web_meaning docs) tracker_meaning n in
    at_word Said name (codes "IsScrape") tt (λ a.
    rw a tt)

caching_tracker_predicates : (docs : DocMap) (name : List ℕ)
    → PredicateAgrees (caching_meaning docs) tracker_meaning name
caching_tracker_predicates docs name =
    let Said = λ (n : List ℕ). PredicateAgrees (caching_meaning docs) tracker_meaning n in
    at_word Said name (codes "IsScrape") tt (λ a.
    rw a tt)

counter_web_sessions : (docs : DocMap) (name : List ℕ) → SessionAgrees counter_meaning (web_meaning docs) name
counter_web_sessions docs name =
    let Said = λ (n : List ℕ). SessionAgrees counter_meaning (web_meaning docs) n in
    at_word Said name (codes "ByConn") (refl, refl) (λ a.
    rw a tt)

counter_caching_sessions : (docs : DocMap) (name : List ℕ)
    → SessionAgrees counter_meaning (caching_meaning docs) name
counter_caching_sessions docs name =
    let Said = λ (n : List ℕ). SessionAgrees counter_meaning (caching_meaning docs) n in
    at_word Said name (codes "ByConn") (refl, refl) (λ a.
    rw a tt)

counter_tracker_sessions : (name : List ℕ) → SessionAgrees counter_meaning tracker_meaning name
counter_tracker_sessions name =
    let Said = λ (n : List ℕ). SessionAgrees counter_meaning tracker_meaning n in
    at_word Said name (codes "ByConn") (refl, refl) (λ a.
    rw a tt)

web_caching_sessions : (docs : DocMap) (name : List ℕ)
    → SessionAgrees (web_meaning docs) (caching_meaning docs) name
web_caching_sessions docs name =
    let Said = λ (n : List ℕ). SessionAgrees (web_meaning docs) (caching_meaning docs) n in
    at_word Said name (codes "ByConn") (refl, refl) (λ a.
    rw a tt)

web_tracker_sessions : (docs : DocMap) (name : List ℕ) → SessionAgrees (web_meaning docs) tracker_meaning name
web_tracker_sessions docs name =
    let Said = λ (n : List ℕ). SessionAgrees (web_meaning docs) tracker_meaning n in
    at_word Said name (codes "ByConn") (refl, refl) (λ a.
    rw a tt)

caching_tracker_sessions : (docs : DocMap) (name : List ℕ)
    → SessionAgrees (caching_meaning docs) tracker_meaning name
caching_tracker_sessions docs name =
    let Said = λ (n : List ℕ). SessionAgrees (caching_meaning docs) tracker_meaning n in
    at_word Said name (codes "ByConn") (refl, refl) (λ a.
    rw a tt)

-- ---- the groups

counter_web : (docs : DocMap) → Agree counter_meaning (web_meaning docs)
counter_web docs = record {
  kinds = λ ty. agree_kind (kind_spelled ty);
  nodes = counter_web_nodes docs;
  predicates = counter_web_predicates docs;
  sessions = counter_web_sessions docs;
}

counter_caching : (docs : DocMap) → Agree counter_meaning (caching_meaning docs)
counter_caching docs = record {
  kinds = λ ty. agree_kind (kind_spelled ty);
  nodes = counter_caching_nodes docs;
  predicates = counter_caching_predicates docs;
  sessions = counter_caching_sessions docs;
}

counter_tracker : Agree counter_meaning tracker_meaning
counter_tracker = record {
  kinds = λ ty. agree_kind (kind_spelled ty);
  nodes = counter_tracker_nodes;
  predicates = counter_tracker_predicates;
  sessions = counter_tracker_sessions;
}

web_caching : (docs : DocMap) → Agree (web_meaning docs) (caching_meaning docs)
web_caching docs = record {
  kinds = λ ty. agree_kind (kind_spelled ty);
  nodes = web_caching_nodes docs;
  predicates = web_caching_predicates docs;
  sessions = web_caching_sessions docs;
}

web_tracker : (docs : DocMap) → Agree (web_meaning docs) tracker_meaning
web_tracker docs = record {
  kinds = λ ty. agree_kind (kind_spelled ty);
  nodes = web_tracker_nodes docs;
  predicates = web_tracker_predicates docs;
  sessions = web_tracker_sessions docs;
}

caching_tracker : (docs : DocMap) → Agree (caching_meaning docs) tracker_meaning
caching_tracker docs = record {
  kinds = λ ty. agree_kind (kind_spelled ty);
  nodes = caching_tracker_nodes docs;
  predicates = caching_tracker_predicates docs;
  sessions = caching_tracker_sessions docs;
}

-- all but the first, and all but the first two
abbrev behind_counter : DocMap → LibraryMeaning
behind_counter docs = joined (web_meaning docs) (joined (caching_meaning docs) tracker_meaning)

abbrev behind_web : DocMap → LibraryMeaning
behind_web docs = joined (caching_meaning docs) tracker_meaning

pub has_counter : HasCounter
unfolding all_meaning
has_counter docs = has_first counter_meaning (behind_counter docs)

pub has_web : HasWeb
unfolding all_meaning
has_web docs = has_behind counter_meaning (behind_counter docs) (web_meaning docs)
    (has_first (web_meaning docs) (behind_web docs)) (counter_web docs)

pub has_caching : HasCaching
unfolding all_meaning
has_caching docs = has_behind counter_meaning (behind_counter docs) (caching_meaning docs)
    (has_behind (web_meaning docs) (behind_web docs) (caching_meaning docs)
    (has_first (caching_meaning docs) tracker_meaning) (web_caching docs)) (counter_caching docs)

pub has_tracker : HasTracker
unfolding all_meaning
has_tracker docs = has_behind counter_meaning (behind_counter docs) tracker_meaning
    (has_behind (web_meaning docs) (behind_web docs) tracker_meaning
    (has_behind (caching_meaning docs) tracker_meaning tracker_meaning (has_itself tracker_meaning)
    (caching_tracker docs)) (web_tracker docs)) counter_tracker
