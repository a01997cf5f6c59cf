use Rattle.desk_expect.proofs.FaultyLines.{first_of_faults}
use Rattle.desk_expect.proofs.laws.first_of_faults_is_reported.Goals as goal

pub returns : goal.returns
returns c = first_of_faults
