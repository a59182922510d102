-- The answers of the library that the program is built with can be printed.
use Rattle.std.proofs.Common.{◌≡◌, ◌<◌, ◌^◌, ℕ, ℤ, pos, negsuc, Bool, true, false, if◌then◌else◌, is_some, List, [], ◌∷◌, Option, Some, None, arith}
use Rattle.std.specs.List.{AllByRecursion}
use Rattle.std.specs.Option.{option_or}
use Rattle.std.proofs.lemmas.Int.{ints}
use Rattle.flux_values.specs.declared.values.Value.{Value}
use Rattle.flux_values.specs.declared.values.Value.TheVariants as values
use Rattle.flux_values.specs.declared.answers.Answer.{Answer}
use Rattle.flux_values.specs.declared.meanings.Sig.{Sig}
use Rattle.flux_values.specs.Reading.{IsValue}
use Rattle.flux_values.specs.Cells.{CellMap}
use Rattle.flux_values.specs.Meanings.{LibraryMeaning}
use Rattle.flux_library.specs.Documents.{DocMap}
use Rattle.flux_library.specs.Sessions.{as_u64, first_as_u64}
use Rattle.nodes_joined.specs.Joined.{joined}
use Rattle.nodes_counter.specs.Nodes as counter_nodes
use Rattle.nodes_counter.specs.Counters.{counter_meaning}
use Rattle.nodes_web.specs.Nodes as web_nodes
use Rattle.nodes_web.specs.Webs.{web_meaning}
use Rattle.nodes_cache.specs.Nodes as cache_nodes
use Rattle.nodes_cache.specs.Cachings.{caching_meaning}
use Rattle.nodes_tracker.specs.Nodes as tracker_nodes
use Rattle.nodes_tracker.specs.Trackers.{tracker_meaning}
use Rattle.nodes_all.specs.Alls.{all_meaning}
use Rattle.nodes_own.specs.Nodes.{sig_named, answer_named}
use Rattle.nodes_own.specs.Own.{own_meaning}
use Rattle.flux_upheld.specs.Printable.{AnswersPrintably, AnswersCanBePrinted}
use Rattle.flux_upheld.proofs.CounterPrints.{counter-prints}
use Rattle.flux_upheld.proofs.WebPrints.{web-prints}
use Rattle.flux_upheld.proofs.CachingPrints.{caching-prints}
use Rattle.flux_upheld.proofs.TrackerPrints.{tracker-prints}

-- ---- sessions

number-small : (z : ℤ) → IsValue (values.Int z) → as_u64 z < 2 ^ 64
number-small (pos n) is = omega (arith, ints, is)
number-small (negsuc n) is = omega arith

first-small : (list : List Value) → AllByRecursion IsValue list → first_as_u64 list < 2 ^ 64
first-small [] all = omega arith
first-small (values.Int z ∷ list) all = number-small z all.0
first-small (values.Bool b ∷ list) all = omega arith
first-small (values.Text t ∷ list) all = omega arith

-- ---- two libraries as one

node-kept : (a b : Option Sig) (f g : List Value → List CellMap → Answer) → AnswersPrintably a f → AnswersPrintably b g → AnswersPrintably (option_or a b) (if is_some a then f else g)
node-kept (Some sig) b f g one other = one
node-kept None b f g one other = other

session-kept : (b : Bool) (f g : List Value → ℕ) (list : List Value) → f list < 2 ^ 64 → g list < 2 ^ 64 → (if b then f else g) list < 2 ^ 64
session-kept true f g list one other = one
session-kept false f g list one other = other

pub joined-prints : (first second : LibraryMeaning) → AnswersCanBePrinted first → AnswersCanBePrinted second → AnswersCanBePrinted (joined first second)
unfolding joined
joined-prints first second one other = record {
  nodes = λ name. node-kept (first.node name) (second.node name) (first.call name) (second.call name) (one.nodes name) (other.nodes name);
  sessions = λ name list all. session-kept (is_some (first.session name)) (first.id name) (second.id name) list (one.sessions name list all) (other.sessions name list all);
}

-- ---- the libraries

counter-all : AnswersCanBePrinted counter_meaning
counter-all = record { nodes = λ name. counter-prints (counter_nodes.node_named name); sessions = λ name list all. first-small list all }

web-all : (docs : DocMap) → AnswersCanBePrinted (web_meaning docs)
web-all docs = record { nodes = λ name. web-prints docs (web_nodes.node_named name); sessions = λ name list all. first-small list all }

caching-all : (docs : DocMap) → AnswersCanBePrinted (caching_meaning docs)
caching-all docs = record { nodes = λ name. caching-prints docs (cache_nodes.node_named name); sessions = λ name list all. first-small list all }

tracker-all : AnswersCanBePrinted tracker_meaning
tracker-all = record { nodes = λ name. tracker-prints (tracker_nodes.node_named name); sessions = λ name list all. first-small list all }

pub all-prints : (docs : DocMap) → AnswersCanBePrinted (all_meaning docs)
unfolding all_meaning
all-prints docs =
    let last = joined (caching_meaning docs) tracker_meaning in
    joined-prints counter_meaning (joined (web_meaning docs) last) counter-all
    (joined-prints (web_meaning docs) last (web-all docs) (joined-prints (caching_meaning docs) tracker_meaning (caching-all docs) tracker-all))

-- nodes of one's own: where some are added, say here why their answers can be printed
own-nodes : (name : List ℕ) → AnswersPrintably (sig_named name) (answer_named name)
own-nodes name = tt

pub own-prints : AnswersCanBePrinted own_meaning
unfolding own_meaning
own-prints = record { nodes = own-nodes; sessions = λ name list all. first-small list all }
