-- A turn goes on from the turns before it.
use Rattle.desk_store.specs.Desk.{HasGoodDisk, StandsAt}
use Rattle.cli_serve.proofs.Runs.{no_messages, ran_on}
use Rattle.cli_serve.proofs.serving.Serving.run.Goals as goal

pub loop-init : goal.loop-init
loop-init g c = record { run = no_messages (HasGoodDisk g.S.Store) (StandsAt g.S.Store) c.args.desk.now }

pub loop-preserved : goal.loop-preserved
loop-preserved g c = record { run = ran_on (HasGoodDisk g.S.Store) (StandsAt g.S.Store) c.runs_follow.ensures c.args.desk.now c.loop.desk c.turn.new.desk c.loop.invariant.run c.turn.ensures.run }

pub returns-then-is_over : goal.returns-then-is_over
returns-then-is_over g c = record { run = c.loop.invariant.run }

pub returns : goal.returns
returns g c = record { run = c.loop.invariant.run }
