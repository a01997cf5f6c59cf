use Rattle.desk_store.specs.Desk.{HasGoodDisk, StandsAt}
use Rattle.cli_serve.proofs.Runs.{Ran}
use Rattle.cli_serve.proofs.serving.Serving.reach_all.Given as goal

abbrev pub invariant-loop-peer : goal.invariant-loop-peer
invariant-loop-peer g l = record { run : Ran (HasGoodDisk g.S.Store) (StandsAt g.S.Store) l.fn.desk l.desk }
