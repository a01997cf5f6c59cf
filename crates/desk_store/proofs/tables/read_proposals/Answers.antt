use Rattle.std.proofs.Common.{true, codes}
use Rattle.desk_store.specs.Tables.{rows_of}
use Rattle.desk_store.proofs.NamedLook.{proposals_look}
use Rattle.desk_store.proofs.tables.read_proposals.Goals as goal

pub returns : goal.returns
returns g c = c.read.ensures true (λ db. rows_of db (codes "proposal")) c.requires proposals_look
