use Rattle.sqlite.specs.Held.{state}
use Rattle.desk_store.proofs.CrashLeaves.{leaves_opened}
use Rattle.desk_store.proofs.laws.stops_in_opening_leave_desks.Goals as goal

pub returns : goal.returns
returns g c old new history trees later before project leaves survives clean may sound same =
    leaves_opened (state g.S.Store old) (state g.S.Store new) history trees (state g.T.Store later).committed before project leaves survives clean may sound same
