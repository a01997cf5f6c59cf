use Rattle.desk_store.proofs.EditRuns.{edits_are_a_run}
use Rattle.desk_store.proofs.laws.edits_are_a_run.Goals as goal

pub returns : goal.returns
returns g c = edits_are_a_run g.S.Store
