use Rattle.desk_who.proofs.Existence.{runs_pass_tests}
use Rattle.desk_who.proofs.laws.runs_pass_tests.Goals as goal

pub returns : goal.returns
returns g c = runs_pass_tests
