use Rattle.desk_netgroup.proofs.FaultLemmas.{first_of_faults_is_reported}
use Rattle.desk_netgroup.proofs.laws.first_of_faults_is_reported.Goals as goal

pub returns : goal.returns
returns c = first_of_faults_is_reported
