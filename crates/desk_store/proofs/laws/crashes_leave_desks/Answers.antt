use Rattle.sqlite.specs.Held.{state}
use Rattle.desk_store.proofs.CrashLeaves.{leaves_a_desk}
use Rattle.desk_store.proofs.laws.crashes_leave_desks.Goals as goal

pub returns : goal.returns
returns g c desk history pending trees later stands may sound same =
    leaves_a_desk (state g.S.Store desk.conn) desk.state history pending trees (state g.T.Store later).committed stands may sound same
