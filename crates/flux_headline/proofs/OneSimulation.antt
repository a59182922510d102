-- What `simulate` prints of two files is one text.
use Rattle.std.proofs.Common.{◌≡◌, ◌≤◌, ◌<◌, ◌*◌, ◌-◌, ◌⊎◌, inl, inr, ℕ, zero, suc, List, [], ◌∷◌, map, length, Option, Some, None, IsSome, Ok, refl, sym, ap, subst, ◌∙◌, arith}
use Rattle.std.specs.List.{AllByRecursion, slice_get, slice_index, slice_split}
use Rattle.flux_values.specs.Meanings.{LibraryMeaning}
use Rattle.flux_values.specs.Answers.{IsOrMemory}
use Rattle.flux_values.specs.Identifiers.{IsIdentifier}
use Rattle.flux_model.specs.declared.programs.Program.{Program}
use Rattle.flux_model.specs.declared.programs.Node.{Node}
use Rattle.flux_model.specs.declared.programs.SourceLine.{SourceLine}
use Rattle.flux_model.specs.declared.items.Item.{Item}
use Rattle.flux_model.specs.Locks.{AreLocks}
use Rattle.flux_model.specs.Sizes.{source_size}
use Rattle.flux_model.specs.Texts.{node_name, source_name}
use Rattle.flux_model.proofs.Hoisting.{locks_once}
use Rattle.flow_model.specs.declared.journals.Entry.{Entry}
use Rattle.flow_model.specs.Setup.{Setup}
use Rattle.flow_orders.specs.declared.runs.Run.{Run}
use Rattle.flow_orders.specs.Costs.{cost_of}
use Rattle.flow_orders.specs.Runs.{sum_of_costs}
use Rattle.flow_ticks.specs.Laws.{EachCosts}
use Rattle.flow_ticks.proofs.Rules.{rule_is_one}
use Rattle.flux_syntax.specs.declared.declarations.Decl.{Decl}
use Rattle.flux_syntax.specs.ProgramOfText.{program_of}
use Rattle.flux_items.specs.declared.rules.ItemFault.TheVariants as item_faults
use Rattle.flux_items.specs.declared.rules.ItemRules.{ItemRules}
use Rattle.flux_items.specs.Rules.{AreRules}
use Rattle.flux_items.specs.Items.{AreItemsOf}
use Rattle.flux_items.proofs.OneAnswer.{answers_items}
use Rattle.flux_cli.specs.Costs.{SpellEachCost, AreCosts}
use Rattle.flux_cli.specs.Forms.{Simulating}
use Rattle.flux_runs.specs.Setups.{setup_of}
use Rattle.flux_runs.specs.Simulations.{costs_for, Simulation, IsSimulation, printed_simulation, IsSimulationText}
use Rattle.flux_commands.specs.declared.files.TheConstants.{ITEMS_FILE_LIMIT}
use Rattle.flux_commands.specs.Told.{Files}
use Rattle.flux_commands.specs.Origins.{Origin, named, TellsText}
use Rattle.flux_commands.specs.Inputs.{GivesItems}
use Rattle.flux_commands.specs.Items.{kinds_in, rules_in}
use Rattle.flux_commands.specs.Audited.{setup_given}
use Rattle.flux_commands.specs.steps.Running.{HasSources}
use Rattle.flux_commands.proofs.Named.{sources_apart}
use Rattle.flux_commands.proofs.Once.{text_is, decls_is, rules_same}
use Rattle.flux_commands.proofs.RuleLists.{rules_are}
use Rattle.flux_upheld.proofs.Sounds.{declarations-sound}
use Rattle.flux_headline.specs.Simulations.{SimulationsAreOne}

-- ---- the same items are given

name-is : (p : Program) (nodes : List Node) → AllByRecursion (λ node. IsIdentifier node.name) nodes → (number : ℕ) → number < length nodes → (node : Node) × (slice_get nodes number ≡ Some node) × IsIdentifier node.name
name-is p [] all number lt = absurd (omega (arith, lt))
name-is p (node ∷ nodes) all zero lt = (node, refl, all.0)
name-is p (node ∷ nodes) all (suc number) lt = name-is p nodes all.1 number (omega (arith, lt))

module _ (meaning : LibraryMeaning) (told : Files) (program items : Origin) (tells : TellsText told program) (tells_items : TellsText told items) where
  module _ (given : GivesItems meaning told program items) where
    names-are : (p : Program) → AllByRecursion (λ node. IsIdentifier node.name) p.nodes → (lines : List SourceLine) → AllByRecursion (λ line. (line.node.0 < length p.nodes) × (line.target.0 < length p.nodes)) lines
        → AllByRecursion (λ line. IsIdentifier (source_name p (Some line))) lines
    names-are p all [] within = tt
    names-are p all (line ∷ lines) within = let (node, at, is) = name-is p p.nodes all line.node.0 (let w = within.0 in w.0) in (rw at is, names-are p all lines within.1)

    rules-good : (let has = given.has in let own = has.program_ in AreRules (rules_in meaning has.decls own.sound))
    rules-good = let has = given.has in let own = has.program_ in let source = own.has in let sound = own.sound in let joined = sound.joined in let ordered = joined.ordered in
        let is = declarations-sound meaning has.decls source.text source.declared own.sound in
        let p = program_of has.decls in
        let sound_is = is.sound in let numbered = sound_is.numbered in let names = is.named in
        let sizes = map (source_size sound.locks p) p.sources in
        let has_sources : HasSources p sound.locks sizes = record {
          few = numbered.few_sources;
          identifiers = names-are p names.nodes p.sources numbered.sources;
          apart = sources_apart meaning has.decls ordered.named;
          sizes_ = refl;
        } in
        rules_are p (kinds_in meaning has.decls) sound.locks sizes has_sources

  of-ok : (own its : List Item) → IsOrMemory {A = List Item} item_faults.Memory (Ok own) (Ok its) → its ≡ own
  of-ok own its (inl e) = cc
  of-ok own its (inr e) = absurd cc

  pub setups-once : (a b : GivesItems meaning told program items) → setup_given b ≡ setup_given a
  setups-once a b =
      let has = a.has in let own = has.program_ in let sound = own.sound in
      let their_has = b.has in let their = their_has.program_ in let their_sound = their.sound in
      let decls : their_has.decls ≡ has.decls = decls_is told program their_has.decls has.decls tells their.has own.has in
      let texts = text_is told items ITEMS_FILE_LIMIT their_has.text has.text tells_items their_has.gives has.gives in
      let rules = rules_same meaning has.decls their_has.decls own.sound their.sound decls in
      let are : AreItemsOf (rules_in meaning has.decls own.sound) b.its has.text = subst (λ (t : List ℕ). AreItemsOf (rules_in meaning has.decls own.sound) b.its t) texts (subst (λ (r : ItemRules). AreItemsOf r b.its their_has.text) rules b.are) in
      let its : b.its ≡ a.its = of-ok a.its b.its (answers_items (rules_in meaning has.decls own.sound) (rules-good a) has.text (Ok b.its) are a.its a.are) in
      let locks : their_sound.locks ≡ sound.locks =
      locks_once (program_of has.decls) their_sound.locks sound.locks (subst (λ (ds : List Decl). AreLocks (program_of ds) their_sound.locks) decls their_sound.are_locks) sound.are_locks in
      λ i. setup_of (program_of (decls i)) (locks i) (its i) meaning

-- ---- each call costs a tick at least

spelled-some : (pieces : List (List ℕ)) (costs : List ℕ) → SpellEachCost pieces costs → AllByRecursion (λ cost. 1 ≤ cost) costs
spelled-some [] [] spelled = tt
spelled-some [] (cost ∷ costs) spelled = absurd spelled
spelled-some (digits ∷ pieces) [] spelled = absurd spelled
spelled-some (digits ∷ pieces) (cost ∷ costs) spelled = let own = spelled.0 in (own.from, spelled-some pieces costs spelled.1)

costs-some : (values : List (List ℕ)) (costs : List ℕ) → AreCosts values costs → AllByRecursion (λ cost. 1 ≤ cost) costs
costs-some [] costs are = subst (AllByRecursion (λ cost. 1 ≤ cost)) (sym are) tt
costs-some (value ∷ []) costs are = spelled-some _ costs are.each
costs-some (value ∷ other ∷ values) costs are = absurd are

each-some : (nodes : ℕ) (given : List ℕ) → AllByRecursion (λ cost. 1 ≤ cost) given → (node : ℕ) → node < nodes → 1 ≤ slice_index (costs_for nodes given) node
each-some zero given all node lt = absurd (omega (arith, lt))
each-some (suc nodes) [] all zero lt = omega arith
each-some (suc nodes) [] all (suc node) lt = each-some nodes [] tt node (omega (arith, lt))
each-some (suc nodes) (cost ∷ given) all zero lt = all.0
each-some (suc nodes) (cost ∷ given) all (suc node) lt = each-some nodes given all.1 node (omega (arith, lt))

-- ---- one text

text-once : (setup : Setup) (given : List ℕ) (processors : ℕ) → AllByRecursion (λ cost. 1 ≤ cost) given → (text other : List ℕ) → IsSimulationText setup given processors text → IsSimulationText setup given processors other → text ≡ other
text-once setup given processors some text other own their =
    let p : Program = setup.program in
    let costs : their.costs ≡ own.costs = their.are_costs ∙ sym own.are_costs in
    let done : Simulation = own.done in
    let is = own.is in
    let also : Simulation = their.done in
    let they : IsSimulation setup own.costs processors their.done = subst (λ (cs : List ℕ). IsSimulation setup cs processors their.done) costs their.is in
    let costly : EachCosts setup.program own.costs = λ node lt. subst (λ (cs : List ℕ). 1 ≤ slice_index cs node) (sym own.are_costs) (each-some (length p.nodes) given some node lt) in
    let one = rule_is_one setup own.costs processors done.entries also.entries done.at also.at done.runs also.runs done.ticks also.ticks costly
    (record { legal = is.legal; whole = is.whole; rule = is.rule }) (record { legal = they.legal; whole = they.whole; rule = they.rule }) in
    own.printed
    ∙ (λ i. printed_simulation (one.ticks_ i) (length (one.runs_ i)) (processors * one.ticks_ i - sum_of_costs own.costs (one.runs_ i)))
    ∙ ap (λ (cs : List ℕ). printed_simulation also.ticks (length also.runs) (processors * also.ticks - sum_of_costs cs also.runs)) (sym costs) ∙ sym their.printed

pub simulations_are_one : SimulationsAreOne
simulations_are_one meaning told words file items simulating text other some spelled own their =
    let behind = spelled.behind in
    let fits = behind.fits in
    let same = setups-once meaning told (named file) (named items) some some own.given their.given in
    text-once (setup_given own.given) simulating.costs simulating.processors (costs-some _ simulating.costs fits.costs_) text other own.printed
    (subst (λ (setup : Setup). IsSimulationText setup simulating.costs simulating.processors other) same their.printed)
