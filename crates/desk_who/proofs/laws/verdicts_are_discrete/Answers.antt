use Rattle.desk_who.proofs.Discrete.{two_verdicts}
use Rattle.desk_who.proofs.laws.verdicts_are_discrete.Goals as goal

pub returns : goal.returns
returns c = two_verdicts
