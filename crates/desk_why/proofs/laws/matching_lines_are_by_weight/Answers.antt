use Rattle.desk_why.proofs.WhyLaws.{matching_lines_are_by_weight}
use Rattle.desk_why.proofs.laws.matching_lines_are_by_weight.Goals as goal

pub returns : goal.returns
returns c = matching_lines_are_by_weight
