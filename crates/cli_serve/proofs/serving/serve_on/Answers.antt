-- A service that does not begin leaves the desk alone.
use Rattle.desk_store.specs.Desk.{HasGoodDisk, StandsAt}
use Rattle.cli_serve.proofs.Runs.{no_messages}
use Rattle.cli_serve.proofs.serving.serve_on.Goals as goal

pub returns-in-Err : goal.returns-in-Err
returns-in-Err g c = record { run = no_messages (HasGoodDisk g.S.Store) (StandsAt g.S.Store) c.args.desk.now }
