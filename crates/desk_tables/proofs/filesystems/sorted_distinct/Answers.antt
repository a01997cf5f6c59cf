use Rattle.std.proofs.Common.{rules}
use Rattle.desk_tables.proofs.TableLemmas.{table_of_kept}
use Rattle.desk_tables.proofs.filesystems.sorted_distinct.Goals as goal

pub returns : goal.returns
returns c = search (rules, table_of_kept)
