-- What each peer comes to goes on from what the ones before it came to.
use Rattle.desk_store.specs.Desk.{HasGoodDisk, StandsAt}
use Rattle.cli_serve.proofs.Runs.{no_messages, ran_on}
use Rattle.cli_serve.proofs.serving.Serving.reach_all.Goals as goal

pub loop-peer-init : goal.loop-peer-init
loop-peer-init g c = record { run = no_messages (HasGoodDisk g.S.Store) (StandsAt g.S.Store) c.args.desk.now }

pub loop-peer-preserved : goal.loop-peer-preserved
loop-peer-preserved g c = record { run = ran_on (HasGoodDisk g.S.Store) (StandsAt g.S.Store) c.runs_follow.ensures c.args.desk.now c.loop-peer.desk c.reach.new.desk c.loop-peer.invariant.run c.reach.ensures.run }

pub returns : goal.returns
returns g c = record { run = c.loop-peer.invariant.run }
