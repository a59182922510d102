-- The journal of which `load` prints a summary is one that `audit` upholds.
use Rattle.std.proofs.Common.{◌≡◌, ◌≤◌, ◌<◌, ◌+◌, ◌*◌, ◌⊎◌, inl, inr, ℕ, zero, suc, List, [], ◌∷◌, ◌++◌, length, codes, Option, None, Ok, refl, sym, ap, subst, ◌∙◌, arith, length-append}
use Rattle.std.specs.Fmt.{decimal}
use Rattle.std.proofs.lemmas.Fmt.{length-decimal-le}
use Rattle.flux_library.specs.Documents.{DocMap}
use Rattle.flux_model.specs.declared.items.Item.{Item}
use Rattle.flow_model.specs.declared.journals.Journal.{Journal}
use Rattle.flux_items.specs.declared.rules.ItemFault.TheVariants as item_faults
use Rattle.flux_items.specs.declared.rules.ItemRules.{ItemRules}
use Rattle.flux_items.specs.Items.{AreItemsOf}
use Rattle.flux_items.proofs.OneAnswer.{answers_items}
use Rattle.flux_values.specs.Answers.{IsOrMemory}
use Rattle.flux_load.specs.Loads.{program_text, item_line, items_text}
use Rattle.flux_cli.specs.declared.loads.TheConstants.{LOAD_LIMIT}
use Rattle.flux_cli.specs.declared.values.Runtime.{Runtime}
use Rattle.flux_runs.specs.declared.printing.Printing.TheVariants as printings
use Rattle.flux_commands.specs.declared.files.TheConstants.{PROGRAM_FILE_LIMIT, ITEMS_FILE_LIMIT, JOURNAL_FILE_LIMIT}
use Rattle.flux_commands.specs.Told.{Files, Gives}
use Rattle.flux_commands.specs.Origins.{named, made}
use Rattle.flux_commands.specs.Inputs.{HasDecls}
use Rattle.flux_commands.specs.Items.{rules_in}
use Rattle.flux_commands.specs.TrueRuns.{IsRunText}
use Rattle.flux_commands.specs.BuiltIn.{built_in}
use Rattle.flux_commands.proofs.Once.{decls_is, rules_same}
use Rattle.flux_outside.specs.declared.stores.File.TheVariants.{Found}
use Rattle.flux_headline.specs.LoadDeclarations.{program_decls}
use Rattle.flux_headline.specs.Upheld.{HoldsFile, AreLoads, journal_text, entry_count, IsLoadUpheld, LoadsAreUpheld}
use Rattle.flux_headline.proofs.LoadDeclared.{declared}
use Rattle.flux_headline.proofs.LoadSound.{program_sound}
use Rattle.flux_headline.proofs.LoadLines.{number_at, one_digit}
use Rattle.flux_headline.proofs.LoadItems.{load_rules, are_rules, items_in, given, many, gives_items}
use Rattle.flux_headline.proofs.LoadsDone.{same_rules}
use Rattle.flux_headline.proofs.Upheld.{gives-held, upheld-in, given-by}

-- ---- the texts are short

program-short : length program_text ≤ PROGRAM_FILE_LIMIT
program-short = let many : length program_text ≡ 318 = refl in omega (arith, many)

line-short : (first place : ℕ) → length (item_line first place) ≤ 9
line-short first place =
    let digit = length-decimal-le 1 (number_at first place) (omega arith) (let lt = one_digit first place in omega (arith, lt)) (omega arith) in
    omega (arith, digit, length-append (codes "Tick (" ++ decimal (number_at first place)) (codes ")\n"), length-append (codes "Tick (") (decimal (number_at first place)))

items-short : (count first : ℕ) → length (items_text count first) ≤ 9 * count
items-short zero first = omega arith
items-short (suc count) first =
    let more = items-short count first in
    let line = line-short first count in
    omega (arith, more, line, length-append (items_text count first) (item_line first count))

-- ---- the items are as many as were asked for

of-ok : (own its : List Item) → IsOrMemory {A = List Item} item_faults.Memory (Ok own) (Ok its) → its ≡ own
of-ok own its (inl e) = cc
of-ok own its (inr e) = absurd cc

module _ (docs : DocMap) (told : Files) (count first : ℕ) (few : count ≤ LOAD_LIMIT) (runtime : Runtime) (text : List ℕ)
    (ran : IsRunText (built_in docs) told (made program_text) (made (items_text count first)) runtime printings.Summary text) where
  rules-are : (let given_ = ran.given in let has = given_.has in let own = has.program_ in rules_in (built_in docs) has.decls own.sound ≡ load_rules)
  rules-are = let given_ = ran.given in let has = given_.has in let own = has.program_ in
      let same : has.decls ≡ program_decls = decls_is told (made program_text) has.decls program_decls tt own.has (record { text = program_text; gives = refl; declared = declared }) in
      rules_same (built_in docs) program_decls has.decls (program_sound docs) own.sound same ∙ sym (same_rules docs)

  as-many : (let given_ = ran.given in length given_.its ≡ count)
  as-many = let given_ = ran.given in let has = given_.has in
      let theirs : AreItemsOf load_rules given_.its (items_text count first) =
      subst (λ (t : List ℕ). AreItemsOf load_rules given_.its t) has.gives (subst (λ (r : ItemRules). AreItemsOf r given_.its has.text) rules-are given_.are) in
      let own = gives_items count first (omega (arith, few)) in
      let same = of-ok (items_in (given count first ++ None ∷ [])) given_.its (answers_items load_rules are_rules (items_text count first) (Ok given_.its) theirs (items_in (given count first ++ None ∷ [])) own) in
      ap length same ∙ many count first (None ∷ []) ∙ omega arith

  pub load-upheld : IsLoadUpheld docs told count first runtime text ran
  load-upheld = let given_ = ran.given in let has = given_.has in let own = has.program_ in let source = own.has in record {
    many = as-many;
    upheld = λ later file items journal format are. record {
      given = given-by docs told (made program_text) (made (items_text count first)) ran.given later (named file) (named items)
          (subst (λ (t : List ℕ). Gives later file PROGRAM_FILE_LIMIT (Found t)) (sym source.gives) (gives-held later file program_text PROGRAM_FILE_LIMIT are.program_ program-short))
          (subst (λ (t : List ℕ). Gives later items ITEMS_FILE_LIMIT (Found t)) (sym has.gives)
          (gives-held later items (items_text count first) ITEMS_FILE_LIMIT are.items_ (let short = items-short count first in omega (arith, short, few))));
      text = journal_text ran format;
      gives = gives-held later journal (journal_text ran format) JOURNAL_FILE_LIMIT are.journal_ are.short;
      has_verdict = upheld-in docs told (made program_text) (made (items_text count first)) ran.given runtime ran.journal ran.true_run format;
    };
  }

pub loads_are_upheld : LoadsAreUpheld
loads_are_upheld docs told count first runtime text few ran = load-upheld docs told count first few runtime text ran
