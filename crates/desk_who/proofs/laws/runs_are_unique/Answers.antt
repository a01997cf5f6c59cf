use Rattle.desk_who.proofs.Chain.{unique_runs}
use Rattle.desk_who.proofs.laws.runs_are_unique.Goals as goal

pub returns : goal.returns
returns g c = λ value_at runs other are are'. unique_runs value_at runs other are are'
