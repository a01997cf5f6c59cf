use Rattle.std.proofs.Common.{rules}
use Rattle.std.proofs.lemmas.List.{append_assoc}
use Rattle.desk_split.proofs.split_fault.table_fault_text.Goals as goal

pub returns : goal.returns
returns c = search (rules, append_assoc)
