use Rattle.sqlite.specs.Held.{state}
use Rattle.desk_store.proofs.CrashLeaves.{leaves_first}
use Rattle.desk_store.proofs.laws.crashes_leave_first_histories.Goals as goal

pub returns : goal.returns
returns g c old new texts result trees later crash clean may sound same =
    leaves_first (state g.S.Store old) (state g.S.Store new) texts result trees (state g.T.Store later).committed crash clean may sound same
