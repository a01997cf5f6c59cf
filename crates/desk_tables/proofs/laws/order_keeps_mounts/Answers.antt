use Rattle.desk_tables.proofs.FileSystemsTextLemmas.{count_in_order}
use Rattle.desk_tables.proofs.laws.order_keeps_mounts.Goals as goal

pub returns : goal.returns
returns c = count_in_order
