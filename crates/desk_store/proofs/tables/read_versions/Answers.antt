use Rattle.std.proofs.Common.{false, codes}
use Rattle.desk_store.specs.Tables.{rows_of}
use Rattle.desk_store.proofs.NamedLook.{versions_look}
use Rattle.desk_store.proofs.tables.read_versions.Goals as goal

pub returns : goal.returns
returns g c = c.read.ensures false (λ db. rows_of db (codes "meta")) c.requires (versions_look false)
