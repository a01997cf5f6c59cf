use Rattle.std.proofs.Common.{sym, refl}
use Rattle.desk_schema.specs.Tables.{file_rev_table}
use Rattle.desk_schema.proofs.FirstTables.{is_first}
use Rattle.desk_schema.proofs.declared.has_file_rev_at.Goals as goal

pub returns-in-Some : goal.returns-in-Some
returns-in-Some c = is_first file_rev_table c.args.tree c.args.schema.now.tables c.in-Some.table.now _ (λ n. refl) (sym c.in-Some.ensures) c.is_file_rev.ensures
