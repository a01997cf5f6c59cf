use Rattle.desk_tables.proofs.FirstFault.{first_fault_is_reported}
use Rattle.desk_tables.proofs.laws.first_fault_is_reported.Goals as goal

pub returns : goal.returns
returns c = first_fault_is_reported
