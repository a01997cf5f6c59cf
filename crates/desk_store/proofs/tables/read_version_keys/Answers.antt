use Rattle.std.proofs.Common.{false, codes}
use Rattle.desk_store.specs.Tables.{rowids_of}
use Rattle.desk_store.proofs.NamedLook.{version_keys_look}
use Rattle.desk_store.proofs.tables.read_version_keys.Goals as goal

pub returns : goal.returns
returns g c = c.read.ensures false (λ db. rowids_of db (codes "meta")) c.requires (version_keys_look false)
