use Rattle.desk_exports.proofs.FirstFaults.{first_fault_is_the_head}
use Rattle.desk_exports.proofs.laws.first_fault_is_the_head.Goals as goal

pub returns : goal.returns
returns c = first_fault_is_the_head
