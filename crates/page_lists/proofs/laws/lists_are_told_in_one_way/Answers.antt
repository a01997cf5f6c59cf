use Rattle.page_lists.proofs.Unique.{lists_are_told_in_one_way}
use Rattle.page_lists.proofs.laws.lists_are_told_in_one_way.Goals as goal

pub returns : goal.returns
returns c = lists_are_told_in_one_way
