use Rattle.desk_tables.proofs.TableIsUnique.{table_is_unique}
use Rattle.desk_tables.proofs.laws.table_is_unique.Goals as goal

pub returns : goal.returns
returns c = table_is_unique c.printed_paths_differ.ensures
