-- The command that was read.
use Rattle.std.specs.Prelude.{option_copied}
use Rattle.flux_cli.specs.declared.commands.Asked.{Asked}
use Rattle.flux_cli.specs.declared.commands.Asked.TheVariants as reads
use Rattle.flux_cli.specs.Commands.{Command, check, plan, format, run, audit, load, serve, help, simulate, swarm}

-- the command that was asked for
abbrev pub asked : Asked → Command
asked (reads.Check file) = check file.now
asked (reads.Plan file) = plan file.now
asked (reads.Format file) = format file.now
asked (reads.Run file items runtime docs journal) = run file.now items.now (record {
  runtime = runtime;
  docs = option_copied docs;
  journal = journal;
})
asked (reads.Audit file items journal docs) =
    audit file.now items.now journal.now (option_copied docs)
asked (reads.Load count first runtime) = load count first runtime
asked (reads.Serve file port batches docs replying) = serve file.now (record {
  port = port;
  batches = batches;
  docs = option_copied docs;
  replying = replying;
})
asked reads.Help = help
asked (reads.Simulate file items processors costs docs) = simulate file.now items.now (record {
  processors = processors.count;
  costs = costs.list;
  docs = option_copied docs;
})
asked (reads.Swarm file items journal hash docs) =
    swarm file.now items.now journal.now hash (option_copied docs)
