use Rattle.desk_exports.proofs.TextAnswers.{first_fault_is_reported}
use Rattle.desk_exports.proofs.laws.first_fault_is_reported.Goals as goal

pub returns : goal.returns
returns c = first_fault_is_reported
