use Rattle.desk_why.proofs.WhyLaws.{verdicts_are_what_lines_say}
use Rattle.desk_why.proofs.laws.verdicts_are_what_lines_say.Goals as goal

pub returns : goal.returns
returns c = verdicts_are_what_lines_say
