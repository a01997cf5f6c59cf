use Rattle.page_lists.proofs.Longest.{longest}
use Rattle.page_lists.proofs.laws.ranges_are_longest.Goals as goal

pub returns : goal.returns
returns c = longest
