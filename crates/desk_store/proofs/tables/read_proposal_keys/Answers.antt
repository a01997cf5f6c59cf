use Rattle.std.proofs.Common.{true, codes}
use Rattle.desk_store.specs.Tables.{rowids_of}
use Rattle.desk_store.proofs.NamedLook.{proposal_keys_look}
use Rattle.desk_store.proofs.tables.read_proposal_keys.Goals as goal

pub returns : goal.returns
returns g c = c.read.ensures true (λ db. rowids_of db (codes "proposal")) c.requires proposal_keys_look
