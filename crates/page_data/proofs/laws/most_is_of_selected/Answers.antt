use Rattle.page_data.proofs.Selecting.{most_of_selected}
use Rattle.page_data.proofs.laws.most_is_of_selected.Goals as goal

pub returns : goal.returns
returns c = most_of_selected c.verdicts_are_discrete.ensures
