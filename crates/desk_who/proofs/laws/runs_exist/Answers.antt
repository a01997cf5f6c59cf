use Rattle.desk_who.proofs.Existence.{exist}
use Rattle.desk_who.proofs.laws.runs_exist.Goals as goal

pub returns : goal.returns
returns g c = λ compare value_at. exist value_at compare
