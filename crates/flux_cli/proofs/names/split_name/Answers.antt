use Rattle.std.proofs.Common.{◌≡◌, ◌++◌, ℕ, List}
use Rattle.flux_cli.specs.declared.names.OptionName.{OptionName}
use Rattle.flux_cli.specs.declared.names.OptionName.TheVariants.{Runtime, Docs, Journal, Port, Batches, AtOnce, Processors, Costs}
use Rattle.flux_cli.specs.Parts.{spelled}
use Rattle.flux_cli.proofs.names.split_name.Goals as goal

pub returns-clause-none : goal.returns-clause-none
returns-clause-none c = by
  where
    by : (name : OptionName) (rest : List ℕ) → c.args.word.now ≡ spelled name ++ rest → ⊥
    by Runtime rest is = c.in_default.ensures.none rest is
    by Docs rest is = c.in_default-strip.ensures.none rest is
    by Journal rest is = c.in_default-strip-2.ensures.none rest is
    by Port rest is = c.in_default-strip-3.ensures.none rest is
    by Batches rest is = c.in_default-strip-4.ensures.none rest is
    by AtOnce rest is = c.in_default-strip-5.ensures.none rest is
    by Processors rest is = c.in_default-strip-6.ensures.none rest is
    by Costs rest is = c.in_default-strip-7.ensures.none rest is
