use Rattle.std.proofs.Common.{true, codes}
use Rattle.desk_store.specs.Tables.{rows_of}
use Rattle.desk_store.proofs.NamedLook.{approvals_look}
use Rattle.desk_store.proofs.tables.read_approvals.Goals as goal

pub returns : goal.returns
returns g c = c.read.ensures true (λ db. rows_of db (codes "approval")) c.requires approvals_look
