use Rattle.desk_exports.proofs.TextAnswers.{answers_say_what}
use Rattle.desk_exports.proofs.laws.answers_say_what.Goals as goal

pub returns : goal.returns
returns c = answers_say_what
