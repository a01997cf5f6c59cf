-- Where nothing is answered, the desk is left alone.
use Rattle.desk_store.specs.Desk.{HasGoodDisk, StandsAt}
use Rattle.cli_serve.proofs.Runs.{no_messages}
use Rattle.cli_serve.proofs.peer.Peer.answer.Goals as goal

pub returns-then-not-is_empty : goal.returns-then-not-is_empty
returns-then-not-is_empty g c = record { run = no_messages (HasGoodDisk g.S.Store) (StandsAt g.S.Store) c.args.desk.now }
