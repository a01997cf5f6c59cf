use Rattle.std.proofs.Common.{true}
use Rattle.desk_store.specs.Looks.{approvers_in}
use Rattle.desk_store.proofs.NamedLook.{approvers_look}
use Rattle.desk_store.proofs.tables.read_approvers.Goals as goal

pub returns : goal.returns
returns g c = (rw (c.params-to_sql.ensures) at (c.read.ensures true (approvers_in c.args.file.now))) c.requires (approvers_look c.args.file.now)
