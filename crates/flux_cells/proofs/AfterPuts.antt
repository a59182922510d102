-- Puts applied to the keys that a node's classes have for a flow are the puts of that flow's call at the node.
use Rattle.std.proofs.Common.{◌≡◌, ℕ, true, false, cond, List, [], ◌∷◌, map, slice_get, Option, Some, None, refl, sym, ap, ◌∙◌}
use Rattle.std.specs.List.{find}
use Rattle.std.specs.Option.{option_map}
use Rattle.flux_values.specs.declared.answers.Put.{Put}
use Rattle.flux_model.specs.declared.programs.Class.{Class}
use Rattle.flux_model.specs.declared.programs.ClassNo.{ClassNo}
use Rattle.flux_model.specs.declared.programs.Hold.{Hold}
use Rattle.flux_model.specs.declared.programs.SourceLine.{SourceLine}
use Rattle.flux_model.specs.declared.items.Item.{Item}
use Rattle.flow_model.specs.declared.journals.Key.{Key}
use Rattle.flow_model.specs.Setup.{Setup, item_of}
use Rattle.flux_model.specs.Locks.{declared}
use Rattle.flow_model.specs.Keys.{Cells, class_key, flow_key, session_number}
use Rattle.flow_model.specs.CellsAfter.{is_named, key_on, key_for, key_of, cell_key, put_under, after_puts}
use Rattle.flux_cells.specs.Applied.{key_named, applied}

pub applied-after_puts : (setup : Setup) (flow node : ℕ) (keys : List Key) (cells : Cells) (puts : List Put)
    → ((name : List ℕ) → key_named setup.program keys name ≡ cell_key setup flow node name)
    → applied setup.program keys cells puts ≡ after_puts setup flow node cells puts
applied-after_puts setup flow node keys cells [] same = refl
applied-after_puts setup flow node keys cells (put ∷ puts) same =
    ap (λ key. applied setup.program keys (put_under cells put key) puts) (same put.cell)
    ∙ applied-after_puts setup flow node keys (put_under cells put (cell_key setup flow node put.cell)) puts same

class-class_key : (found : Option Class) (class : ClassNo) (session : ℕ) → (class_key found class session).class ≡ class
class-class_key None class session = refl
class-class_key (Some found) class session = refl

-- a flow's keys of the classes that a node declares, in the order of the declarations
abbrev pub keys_at : Setup → Item → SourceLine → ℕ → List Key
keys_at setup item line node = map (λ (hold : Hold). flow_key setup.program setup.meaning line item.values hold.class) (declared setup.program node)

named_in : (setup : Setup) (item : Item) (line : SourceLine) (name : List ℕ) (holds : List Hold)
    → key_named setup.program (map (λ (hold : Hold). flow_key setup.program setup.meaning line item.values hold.class) holds) name
    ≡ option_map (λ hold. flow_key setup.program setup.meaning line item.values hold.class) (find (λ hold. is_named name (slice_get setup.program.classes hold.class.0)) holds)
named_in setup item line name [] = refl
named_in setup item line name (hold ∷ holds) =
    let key = flow_key setup.program setup.meaning line item.values hold.class in
    ap (λ (class : ClassNo). cond (is_named name (slice_get setup.program.classes class.0)) (Some key) (key_named setup.program (map (λ (h : Hold). flow_key setup.program setup.meaning line item.values h.class) holds) name))
    (class-class_key (slice_get setup.program.classes hold.class.0) hold.class (session_number setup.meaning line.session item.values))
    ∙ elim (is_named name (slice_get setup.program.classes hold.class.0)) as (λ b. cond b (Some key) (key_named setup.program (map (λ (h : Hold). flow_key setup.program setup.meaning line item.values h.class) holds) name)
    ≡ option_map (λ h. flow_key setup.program setup.meaning line item.values h.class) (cond b (Some hold) (find (λ h. is_named name (slice_get setup.program.classes h.class.0)) holds))) [
      | true ↦ refl
      | false ↦ named_in setup item line name holds
    ]

keyed : (setup : Setup) (flow : ℕ) (item : Item) (line : SourceLine) → item_of setup flow ≡ Some item → slice_get setup.program.sources item.source.0 ≡ Some line
    → (found : Option Hold) → key_of setup flow (option_map (λ hold. hold.class) found) ≡ option_map (λ hold. flow_key setup.program setup.meaning line item.values hold.class) found
keyed setup flow item line at source None = refl
keyed setup flow item line at source (Some hold) = ap (λ (o : Option Item). key_for setup o hold.class) at ∙ ap (λ (o : Option SourceLine). key_on setup item o hold.class) source

-- so a core that gives `apply` these keys knows the cells after its call
pub key_named-keys_at : (setup : Setup) (flow node : ℕ) (item : Item) (line : SourceLine) → item_of setup flow ≡ Some item → slice_get setup.program.sources item.source.0 ≡ Some line
    → (name : List ℕ) → key_named setup.program (keys_at setup item line node) name ≡ cell_key setup flow node name
key_named-keys_at setup flow node item line at source name =
    named_in setup item line name (declared setup.program node)
    ∙ sym (keyed setup flow item line at source (find (λ hold. is_named name (slice_get setup.program.classes hold.class.0)) (declared setup.program node)))
