-- What is done goes on from what was done before.
use Rattle.desk_store.specs.Desk.{HasGoodDisk, StandsAt}
use Rattle.cli_serve.proofs.Runs.{no_messages, ran_on}
use Rattle.cli_serve.proofs.peer.Peer.serve.Goals as goal

pub loop-init : goal.loop-init
loop-init g c = record { run = no_messages (HasGoodDisk g.S.Store) (StandsAt g.S.Store) c.args.desk.now }

pub loop-preserved : goal.loop-preserved
loop-preserved g c = record { run = ran_on (HasGoodDisk g.S.Store) (StandsAt g.S.Store) c.runs_follow.ensures c.args.desk.now c.loop.desk c.act.new.desk c.loop.invariant.run c.act.ensures.run }

pub returns-then-not-act : goal.returns-then-not-act
returns-then-not-act g c = record { run = ran_on (HasGoodDisk g.S.Store) (StandsAt g.S.Store) c.runs_follow.ensures c.args.desk.now c.loop.desk c.act.new.desk c.loop.invariant.run c.act.ensures.run }

pub returns : goal.returns
returns g c = record { run = c.loop.invariant.run }
