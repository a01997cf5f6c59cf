use Rattle.std.proofs.Common.{rules}
use Rattle.desk_tables.proofs.TableLemmas.{table_of_kept}
use Rattle.desk_mounts.proofs.table.different.Goals as goal

pub returns : goal.returns
returns c = search (rules, table_of_kept)
