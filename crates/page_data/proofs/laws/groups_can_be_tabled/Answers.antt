use Rattle.page_data.proofs.Orders.{groups_can_be_tabled}
use Rattle.page_data.proofs.laws.groups_can_be_tabled.Goals as goal

pub returns : goal.returns
returns c = groups_can_be_tabled
