use Rattle.desk_store.specs.Desk.{HasGoodDisk, StandsAt}
use Rattle.cli_serve.proofs.Runs.{Ran}
use Rattle.cli_serve.proofs.serving.Serving.run.Given as goal

abbrev pub invariant-loop : goal.invariant-loop
invariant-loop g l = record { run : Ran (HasGoodDisk g.S.Store) (StandsAt g.S.Store) l.fn.desk l.desk }
