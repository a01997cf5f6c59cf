use Rattle.desk_netgroup.proofs.FaultLemmas.{faults_follow_good_lines}
use Rattle.desk_netgroup.proofs.laws.faults_follow_good_lines.Goals as goal

pub returns : goal.returns
returns c = faults_follow_good_lines
