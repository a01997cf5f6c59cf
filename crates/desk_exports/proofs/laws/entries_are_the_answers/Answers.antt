use Rattle.desk_exports.proofs.TextAnswers.{entries_are_the_answers}
use Rattle.desk_exports.proofs.laws.entries_are_the_answers.Goals as goal

pub returns : goal.returns
returns c = entries_are_the_answers
