use Rattle.desk_joined.proofs.Numbers.{lines_of_all}
use Rattle.desk_joined.proofs.laws.joined_lines_are_those_of_all.Goals as goal

pub returns : goal.returns
returns c = lines_of_all
