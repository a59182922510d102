-- What flows do: the walks of small programs.
use Rattle.std.specs.Prelude.{◌≡◌, ℕ, [], ◌∷◌, Some, None, codes}
use Rattle.flux_values.specs.declared.answers.Mode.TheVariants.{Writer}
use Rattle.flux_values.specs.declared.answers.CallResult.TheVariants as results
use Rattle.flow_model.specs.declared.journals.Outcome.TheVariants.{Good, Over, Bad}
use Rattle.flow_model.specs.declared.journals.Event.TheVariants.{Take, Enter, Choose, Exit, Drop, End}
use Rattle.flow_model.specs.Setup.{Setup}
use Rattle.flow_model.specs.Flows.{flow_events}
use Rattle.flux_examples.specs.Small.{int, no, concrete, flow, case_of, on_codes, answer, called, setup_of, k, writer, first_two, none_held}

-- ---- a handler runs after the drops of the node that failed, and the nodes around it are over

abbrev pub handling : Setup
handling = setup_of
    (flow (codes "A") (case_of [] (no 1 ∷ []) ∷ []) [] (writer ∷ [])
    ∷ concrete (codes "Fail") (on_codes [] 2 ∷ []) (writer ∷ [])
    ∷ concrete (codes "Show") [] [] ∷ [])
    first_two (codes "k") (int 7)

abbrev pub HandlerFollowsDrops : Type 0
HandlerFollowsDrops =
    flow_events handling 0 (answer (results.Bad 7) ∷ answer (results.Good []) ∷ [])
    ≡ Take k Writer ∷ Enter (no 0) ∷ Choose 1 ∷ Take k Writer ∷ Enter (no 1)
    ∷ called 1 (int 7 ∷ []) (results.Bad 7) ∷ Exit (no 1) (Bad 7) ∷ Drop k
    ∷ Enter (no 2) ∷ called 2 (int 7 ∷ []) (results.Good []) ∷ Exit (no 2) Good
    ∷ Exit (no 0) Over ∷ Drop k ∷ End Over ∷ []

-- ---- the first case that matches is taken, and a failure with code 256 where none does

abbrev pub choosing : ℕ → Setup
choosing n = setup_of
    (flow (codes "Sel") (case_of (Some 0 ∷ []) [] ∷ case_of (None ∷ []) (no 1 ∷ []) ∷ []) [] []
    ∷ concrete (codes "Pass") [] [] ∷ [])
    none_held (codes "k") (int n)

abbrev pub refusing : Setup
refusing = setup_of
    (flow (codes "Sel") (case_of (Some 0 ∷ []) (no 1 ∷ []) ∷ []) (on_codes [] 1 ∷ []) []
    ∷ concrete (codes "Show") [] [] ∷ [])
    none_held (codes "k") (int 3)

abbrev pub FirstCaseIsTaken : Type 0
FirstCaseIsTaken =
    (flow_events (choosing 0) 0 [] ≡ Enter (no 0) ∷ Choose 1 ∷ Exit (no 0) Good ∷ End Good ∷ [])
    × (flow_events (choosing 5) 0 (answer (results.Good (int 5 ∷ [])) ∷ [])
    ≡ Enter (no 0) ∷ Choose 2 ∷ Enter (no 1) ∷ called 1 (int 5 ∷ []) (results.Good (int 5 ∷ []))
    ∷ Exit (no 1) Good ∷ Exit (no 0) Good ∷ End Good ∷ [])
    × (flow_events refusing 0 (answer (results.Good []) ∷ [])
    ≡ Enter (no 0) ∷ Exit (no 0) (Bad 256) ∷ Enter (no 1)
    ∷ called 1 (int 3 ∷ []) (results.Good []) ∷ Exit (no 1) Good ∷ End Over ∷ [])

-- ---- an arm that names the code comes before one without codes

abbrev pub by_code : ℕ → Setup
by_code n = setup_of
    (concrete (codes "Fail") (on_codes [] 2 ∷ on_codes (3 ∷ []) 1 ∷ []) []
    ∷ concrete (codes "Show") [] [] ∷ concrete (codes "Fail_h") [] [] ∷ [])
    none_held (codes "k") (int n)

abbrev pub HandlersGoByCode : Type 0
HandlersGoByCode =
    (flow_events (by_code 3) 0 (answer (results.Bad 3) ∷ answer (results.Good []) ∷ [])
    ≡ Enter (no 0) ∷ called 0 (int 3 ∷ []) (results.Bad 3) ∷ Exit (no 0) (Bad 3)
    ∷ Enter (no 1) ∷ called 1 (int 3 ∷ []) (results.Good []) ∷ Exit (no 1) Good ∷ End Over ∷ [])
    × (flow_events (by_code 4) 0 (answer (results.Bad 4) ∷ answer (results.Bad 9) ∷ [])
    ≡ Enter (no 0) ∷ called 0 (int 4 ∷ []) (results.Bad 4) ∷ Exit (no 0) (Bad 4)
    ∷ Enter (no 2) ∷ called 2 (int 4 ∷ []) (results.Bad 9) ∷ Exit (no 2) (Bad 9) ∷ End (Bad 9) ∷ [])

-- ---- without an answer the walk stops before the call

abbrev pub StopsBeforeCall : Type 0
StopsBeforeCall = flow_events (by_code 3) 0 [] ≡ Enter (no 0) ∷ []

-- ---- a handler's failure passes outward, and the handler of the node around takes it

abbrev pub failing_handler : Setup
failing_handler = setup_of
    (flow (codes "A") (case_of [] (no 1 ∷ []) ∷ []) (on_codes [] 3 ∷ []) []
    ∷ concrete (codes "Fail") (on_codes [] 2 ∷ []) [] ∷ concrete (codes "Fail_h") [] []
    ∷ concrete (codes "Show") [] [] ∷ [])
    none_held (codes "k") (int 7)

abbrev pub FailuresPassOutward : Type 0
FailuresPassOutward =
    flow_events failing_handler 0
    (answer (results.Bad 7) ∷ answer (results.Bad 7) ∷ answer (results.Good []) ∷ [])
    ≡ Enter (no 0) ∷ Choose 1 ∷ Enter (no 1) ∷ called 1 (int 7 ∷ []) (results.Bad 7) ∷ Exit (no 1) (Bad 7)
    ∷ Enter (no 2) ∷ called 2 (int 7 ∷ []) (results.Bad 7) ∷ Exit (no 2) (Bad 7) ∷ Exit (no 0) (Bad 7)
    ∷ Enter (no 3) ∷ called 3 (int 7 ∷ []) (results.Good []) ∷ Exit (no 3) Good ∷ End Over ∷ []
