use Rattle.std.proofs.Common.{sym, refl}
use Rattle.desk_schema.specs.Tables.{meta_table}
use Rattle.desk_schema.proofs.FirstTables.{is_first}
use Rattle.desk_schema.proofs.declared.has_meta_at.Goals as goal

pub returns-in-Some : goal.returns-in-Some
returns-in-Some c = is_first meta_table c.args.tree c.args.schema.now.tables c.in-Some.table.now _ (λ n. refl) (sym c.in-Some.ensures) c.is_meta.ensures
