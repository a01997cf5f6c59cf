use Rattle.desk_core.proofs.RightAnswers.{answers_are_right}
use Rattle.desk_core.proofs.laws.answers_are_right.Goals as goal

pub returns : goal.returns
returns c = answers_are_right
