use Rattle.std.proofs.Common.{true}
use Rattle.desk_store.specs.Looks.{numbers_in}
use Rattle.desk_store.proofs.NamedLook.{numbers_look}
use Rattle.desk_store.proofs.tables.read_numbers.Goals as goal

pub returns : goal.returns
returns g c = (rw (c.params-to_sql.ensures) at (c.read.ensures true (numbers_in c.args.file.now))) c.requires (numbers_look c.args.file.now)
