use Rattle.std.proofs.Common.{arith, true}
use Rattle.desk_store.specs.Looks.{revision_in}
use Rattle.desk_store.proofs.NamedLook.{revision_look}
use Rattle.desk_store.proofs.Placed.{signed}
use Rattle.desk_store.proofs.tables.read_revision.Goals as goal

pub returns : goal.returns
returns g c =
    let number = signed c.from.result c.args.rev c.from.ensures (omega arith) in
    (rw (c.params-to_sql.ensures, c.params-to_sql-2.ensures, number) at (c.read.ensures true (revision_in c.args.file.now c.args.rev))) c.requires (revision_look c.args.file.now c.args.rev)
