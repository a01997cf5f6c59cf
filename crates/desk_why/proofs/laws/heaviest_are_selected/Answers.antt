use Rattle.desk_why.proofs.WhyLaws.{heaviest_are_selected}
use Rattle.desk_why.proofs.laws.heaviest_are_selected.Goals as goal

pub returns : goal.returns
returns c = heaviest_are_selected
