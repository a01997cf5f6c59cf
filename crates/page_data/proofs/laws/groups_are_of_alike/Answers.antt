use Rattle.page_data.proofs.Grouped.{groups_are_of_alike}
use Rattle.page_data.proofs.laws.groups_are_of_alike.Goals as goal

pub returns : goal.returns
returns c = groups_are_of_alike
