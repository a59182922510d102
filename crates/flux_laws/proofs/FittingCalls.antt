-- In a legal journal each call fits its node, and so does a call that is next.
use Rattle.std.proofs.Common.{◌≡◌, ℕ, zero, suc, List, length, Option, Some, None, IfSome, refl, sym, subst, ◌∙◌}
use Rattle.std.specs.List.{slice_get, AllByRecursion}
use Rattle.std.proofs.lemmas.List.{length-map}
use Rattle.flux_values.specs.declared.values.Value.{Value}
use Rattle.flux_values.specs.declared.answers.Answer.{Answer}
use Rattle.flux_values.specs.declared.answers.CallResult.{CallResult}
use Rattle.flux_values.specs.declared.answers.CallResult.TheVariants as results
use Rattle.flux_values.specs.declared.meanings.Sig.{Sig}
use Rattle.flux_values.specs.declared.meanings.Role.TheVariants.{Plain}
use Rattle.flux_values.specs.Cells.{CellMap}
use Rattle.flux_values.specs.Meanings.{LibraryMeaning}
use Rattle.flux_library.specs.Libraries.{IsResultOf, IsLawfulNode, IsLawful}
use Rattle.flux_model.specs.declared.programs.Program.{Program}
use Rattle.flux_model.specs.declared.programs.Node.{Node}
use Rattle.flux_model.specs.declared.programs.NodeNo.{NodeNo}
use Rattle.flux_model.specs.declared.programs.Body.{Body}
use Rattle.flux_model.specs.declared.programs.Body.TheVariants.{Concrete, Abstract}
use Rattle.flux_model.specs.declared.programs.SourceLine.{SourceLine}
use Rattle.flow_model.specs.declared.journals.CallMade.{CallMade}
use Rattle.flow_model.specs.declared.journals.Entry.{Entry}
use Rattle.flow_model.specs.declared.journals.Event.TheVariants.{Call}
use Rattle.flux_model.specs.declared.items.Item.{Item}
use Rattle.flow_model.specs.Setup.{Setup, item_of}
use Rattle.flux_model.specs.Kinds.{NodeKinds, Fits as KindsFit}
use Rattle.flux_model.specs.Children.{IsIn}
use Rattle.flux_model.specs.Leading.{leads_to}
use Rattle.flux_model.specs.Items.{AreValues, IsItemOf, IsItemFor}
use Rattle.flux_model.specs.Soundness.{IsLike, IsBodyLike, IsPlainBody, IsPlain, IsSound}
use Rattle.flow_model.specs.Keys.{Cells}
use Rattle.flux_model.specs.Nested.{nested, for_node}
use Rattle.flow_model.specs.Walk.{Given, before_call, Walked, lost, walk_by}
use Rattle.flow_model.specs.Flows.{given_for, target_walk, item_walk, flow_walk, ending}
use Rattle.flow_model.specs.CellsAfter.{cells_after}
use Rattle.flow_model.specs.Answers.{cells_for, IsBodyAnswer, IsNodeAnswer, AreAnswersRight}
use Rattle.flow_model.specs.Events.{events_by, own_events, own_answers, CallIsNext}
use Rattle.flux_laws.specs.Calls.{FitsFound, FitsBody, FitsNode, NextCallsFit}
use Rattle.flux_laws.proofs.Members.{In, in-left, all-get}
use Rattle.flux_laws.proofs.OwnEvents.{in-from_own, stands-in}
use Rattle.flux_laws.proofs.Typed.{GivesKinds, IsCallFit, AreFair, KeepsKinds, MayCallBody, keeps-node}

-- ---- walks of sound programs

abbrev IsConcreteBody : Body → Type 0
IsConcreteBody (Concrete name) = Unit {0}
IsConcreteBody (Abstract cases) = ⊥

abbrev IsConcrete : Option Node → Type 0
IsConcrete None = ⊥
IsConcrete (Some node) = IsConcreteBody node.body

module _ (meaning : LibraryMeaning) (p : Program) (kinds : ℕ → NodeKinds) (sound : IsSound meaning p kinds) where
  -- a plain concrete node
  abbrev pub MayCall : ℕ → Type 0
  MayCall number = IsPlain meaning (slice_get p.nodes number) × IsConcrete (slice_get p.nodes number)

  may-body : (number : ℕ) (node : Node) → slice_get p.nodes number ≡ Some node → IsPlain meaning (slice_get p.nodes number) → MayCallBody kinds MayCall (record { 0 = number }) node.body
  may-body number node at plain = by node.body refl
    where
      by : (body : Body) → node.body ≡ body → MayCallBody kinds MayCall (record { 0 = number }) body
      by (Concrete name) is = (plain, rw (at, is) tt)
      by (Abstract cases) is = tt

  -- the walk of a plain node keeps its kinds
  keeps-nested : (given : Given) (depth number : ℕ) → IsPlain meaning (slice_get p.nodes number)
      → let own = kinds number in KeepsKinds kinds MayCall own.ins own.outs (nested (λ values left. lost) (walk_by given) p.nodes depth number)
  keeps-nested given zero number plain = λ values left are fair. record { calls = λ made is. absurd is; stops = tt }
  keeps-nested given (suc depth) number plain = by (slice_get p.nodes number) refl (λ node at m is. keeps-nested given depth m (sound.members number node at m is))
    where
      by : (found : Option Node) → slice_get p.nodes number ≡ found
          → ((node : Node) → slice_get p.nodes number ≡ Some node → (m : ℕ) → IsIn m (leads_to node)
          → let their = kinds m in KeepsKinds kinds MayCall their.ins their.outs (nested (λ values left. lost) (walk_by given) p.nodes depth m))
          → let own = kinds number in KeepsKinds kinds MayCall own.ins own.outs (for_node (λ values left. lost) (walk_by given (nested (λ values left. lost) (walk_by given) p.nodes depth) number) found)
      by None at more values left are fair = record { calls = λ made is. absurd is; stops = tt }
      by (Some node) at more values left are fair =
          let ks = sound.kinds_are in
          let agree = ks.agree in
          keeps-node kinds MayCall given (nested (λ vs ls. lost) (walk_by given) p.nodes depth) number node (agree.cases_ number node at) (agree.handlers number node at)
          (may-body number node at plain) (more node at) values left are fair

  -- ---- calls that fit

  fits-sig : (found : Option Sig) (own : NodeKinds) (args : List Value) → IsLike found own → IfSome found (λ sig. sig.role ≡ Plain) → AreValues own.ins args → FitsFound found args
  fits-sig None own args like plain are = like
  fits-sig (Some sig) own args like plain are = record { role = plain; kinds = subst (λ ks. AreValues ks args) like.0 are }

  -- a call of a plain concrete node on values of its kinds fits its library node
  pub fits-node : (node : NodeNo) (args : List Value) → IsCallFit kinds MayCall node args → FitsNode meaning (slice_get p.nodes node.0) args
  fits-node node args fit = by (slice_get p.nodes node.0) refl (let m = fit.may in m.0) (let m = fit.may in m.1)
    where
      on : (n : Node) (body : Body) → IsBodyLike meaning (kinds node.0) body → IsPlainBody meaning body → IsConcreteBody body → FitsBody meaning body args
      on n (Concrete name) like plain concrete = fits-sig (meaning.node name) (kinds node.0) args like plain fit.args_are
      on n (Abstract cases) like plain concrete = absurd concrete

      by : (found : Option Node) → slice_get p.nodes node.0 ≡ found → IsPlain meaning found → IsConcrete found → FitsNode meaning found args
      by None at plain concrete = absurd plain
      by (Some n) at plain concrete = let ks = sound.kinds_are in on n n.body (ks.like node.0 n at) plain concrete

  -- a right answer on values that fit gives the node's kinds
  module _ (lawful : IsLawful meaning) where
    gives-kinds : (name : List ℕ) (found : Option Sig) → meaning.node name ≡ found → (own : NodeKinds) → IsLike found own → (args : List Value) → FitsFound found args
        → (cells : List CellMap) → ((sig : Sig) → found ≡ Some sig → length cells ≡ length sig.cells) → let answer = meaning.call name args cells in GivesKinds own.outs answer.result
    gives-kinds name None at own like args fits cells many = absurd like
    gives-kinds name (Some sig) at own like args fits cells many =
        let law : IsLawfulNode (Some sig) (meaning.call name) = rw at at (lawful.nodes name) in
        let ks = fits.kinds in
        let answer = law.answers args cells (record { role = fits.role; kinds = ks.have; cells_ = many sig refl }) ks.each in
        let call = meaning.call name args cells in
        by call.result answer.result
      where
        by : (result : CallResult) → IsResultOf sig.outs result → GivesKinds own.outs result
        by (results.Good values) (have, each) = record { have = have ∙ sym like.1; each = each }
        by (results.Bad code) is = tt

-- ---- journals

module _ (setup : Setup) (kinds : ℕ → NodeKinds) (sound : IsSound setup.meaning setup.program kinds) (lawful : IsLawful setup.meaning) where
  -- a call that fits and has its node's answer gives the node's kinds
  answer-gives : (flow : ℕ) (cells : Cells) (made : CallMade) → IsCallFit kinds (MayCall setup.meaning setup.program kinds sound) made.node made.args
      → IsNodeAnswer setup flow cells (slice_get setup.program.nodes made.node.0) made → let own = kinds made.node.0 in let answer = made.answer in GivesKinds own.outs answer.result
  answer-gives flow cells made fit = by (slice_get setup.program.nodes made.node.0) refl (fits-node setup.meaning setup.program kinds sound made.node made.args fit)
    where
      many : (name : List ℕ) (sig : Sig) → setup.meaning.node name ≡ Some sig → length (cells_for setup flow made.node.0 cells (setup.meaning.node name)) ≡ length sig.cells
      many name sig at = rw at (length-map sig.cells _)

      on : (body : Body) → IsBodyLike setup.meaning (kinds made.node.0) body → FitsBody setup.meaning body made.args → IsBodyAnswer setup flow cells body made
          → let own = kinds made.node.0 in let answer = made.answer in GivesKinds own.outs answer.result
      on (Concrete name) like fits right =
          rw right (gives-kinds setup.meaning setup.program kinds sound lawful name (setup.meaning.node name) refl (kinds made.node.0) like made.args fits
          (cells_for setup flow made.node.0 cells (setup.meaning.node name)) (many name))
      on (Abstract cases) like fits right = absurd right

      by : (found : Option Node) → slice_get setup.program.nodes made.node.0 ≡ found → FitsNode setup.meaning found made.args → IsNodeAnswer setup flow cells found made
          → let own = kinds made.node.0 in let answer = made.answer in GivesKinds own.outs answer.result
      by None at fits right = absurd right
      by (Some node) at fits right = let ks = sound.kinds_are in on node.body (ks.like made.node.0 node at) fits right

  own-fair : (entries : List Entry) (flow : ℕ) → AreAnswersRight setup entries → AreFair kinds (MayCall setup.meaning setup.program kinds sound) (own_events entries flow)
  own-fair entries flow right made is fit =
      let (before, after, stands) = stands-in entries flow (Call made) (in-from_own (Call made) (events_by flow entries) is) in
      answer-gives flow (cells_after setup before) made fit (right before after (record { 0 = flow }) made stands)

  -- a flow's walk keeps kinds
  WalkFits : Walked → Type 0
  WalkFits walked = AreFair kinds (MayCall setup.meaning setup.program kinds sound) walked.events
      → (node : NodeNo) (args : List Value) → walked.stop ≡ before_call node args → IsCallFit kinds (MayCall setup.meaning setup.program kinds sound) node args

  flow-fits : AllByRecursion (IsItemFor setup.program kinds) setup.items → (flow : ℕ) (answers : List Answer) → WalkFits (flow_walk setup flow answers)
  unfolding WalkFits
  flow-fits items flow answers = by (item_of setup flow) refl
    where
      nowhere_fits : WalkFits lost
      nowhere_fits fair node args stops = absurd cc

      on : (item : Item) (line : Option SourceLine) → slice_get setup.program.sources item.source.0 ≡ line → IsItemOf kinds line item.values → WalkFits (target_walk setup item line answers)
      on item None at is = absurd is
      on item (Some line) at is = line_fits
        where
          line_fits : WalkFits (target_walk setup item (Some line) answers)
          line_fits fair node args stops =
              let ks = sound.kinds_are in
              let agree = ks.agree in
              let same = all-get (KindsFit kinds) setup.program.sources item.source.0 line agree.sources at in
              let plain = all-get (λ (l : SourceLine). IsPlain setup.meaning (slice_get setup.program.nodes l.target.0)) setup.program.sources item.source.0 line sound.targets at in
              let kept = keeps-nested setup.meaning setup.program kinds sound (given_for setup item line) (length setup.program.nodes) line.target.0 plain item.values answers
              (subst (λ ks. AreValues ks item.values) same is) fair in
              let there = kept.stops in
              rw stops at there

      by : (item : Option Item) → item_of setup flow ≡ item → WalkFits (item_walk setup item answers)
      by None at = nowhere_fits
      by (Some item) at = on item (slice_get setup.program.sources item.source.0) refl (all-get (IsItemFor setup.program kinds) setup.items flow item items at)

  -- a call that is next fits its node
  pub next-fits : (entries : List Entry) → AllByRecursion (IsItemFor setup.program kinds) setup.items → AreAnswersRight setup entries
      → (flow : ℕ) (node : NodeNo) (args : List Value) → CallIsNext setup entries flow node args → IsCallFit kinds (MayCall setup.meaning setup.program kinds sound) node args
  unfolding WalkFits
  next-fits entries items right flow node args is =
      let walked : Walked = flow_walk setup flow (own_answers entries flow) in
      flow-fits items flow (own_answers entries flow)
      (λ made there fit. own-fair entries flow right made (subst (In (Call made)) is.all (in-left walked.events (ending walked.stop) (Call made) there)) fit)
      node args is.stops

pub next_calls_fit : NextCallsFit
next_calls_fit setup kinds entries sound lawful items legal flow node args is =
    fits-node setup.meaning setup.program kinds sound node args
    (next-fits setup kinds sound lawful entries items legal.answers flow node args is)
