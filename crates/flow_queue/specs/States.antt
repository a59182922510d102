-- What a queue and its passes are seen as.
use Rattle.std.specs.Prelude.{◌≡◌, ℕ, List, Option, refl}
use Rattle.std.specs.Coded.{Coded, code_by, coded×, coded_ℕ, coded_list, coded_option}
use Rattle.atomic_table.specs.Seated.{TableId, table_id_coded}
use Rattle.flow_queue.specs.declared.views.Placed.{Placed}
use Rattle.flow_queue.specs.contracts.views.Placed as placed

-- a queue: which one it is, and with how many numbers it was opened
pub record QueueState : Type 0 where
  pub id : TableId
  pub flows : ℕ

-- a pass: its queue, the number that it holds, how many moves it has made, and what it has put and taken, each as the
-- number with its place in the list of all numbers that were put
pub record PassState : Type 0 where
  pub queue : QueueState
  pub held : Option ℕ
  pub moves : ℕ
  pub puts : List Placed
  pub takes : List Placed

-- their codes, as pairs
abbrev pub queue_code : Coded QueueState
queue_code = code_by (TableId × ℕ) (coded× table_id_coded coded_ℕ)
    (λ q. (q.id, q.flows)) (λ t. record { id = t.0; flows = t.1 }) (λ _. refl)

abbrev pub pass_code : Coded PassState
pass_code = code_by (QueueState × (Option ℕ × (ℕ × (List Placed × List Placed))))
    (coded× queue_code (coded× (coded_option coded_ℕ)
    (coded× coded_ℕ (coded× (coded_list placed.the_row.coded) (coded_list placed.the_row.coded)))))
    (λ p. (p.queue, (p.held, (p.moves, (p.puts, p.takes)))))
    (λ t. record { queue = t.0; held = t.1.0; moves = t.1.1.0; puts = t.1.1.1.0; takes = t.1.1.1.1 }) (λ _. refl)
