-- What was served twice is served in one.
use Rattle.desk_store.specs.Desk.{HasGoodDisk, StandsAt}
use Rattle.desk_http.proofs.RunLemmas.{Serves-append}
use Rattle.desk_http.proofs.laws.runs_follow.Goals as goal

pub returns : goal.returns
returns g c = Serves-append (HasGoodDisk g.S.Store) (StandsAt g.S.Store)
