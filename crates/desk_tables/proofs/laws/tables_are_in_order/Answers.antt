use Rattle.desk_tables.proofs.FileSystemsTextLemmas.{tables_are_in_order}
use Rattle.desk_tables.proofs.laws.tables_are_in_order.Goals as goal

pub returns : goal.returns
returns c = tables_are_in_order
