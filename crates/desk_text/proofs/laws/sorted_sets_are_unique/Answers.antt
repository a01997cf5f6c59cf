use Rattle.desk_text.proofs.SortedSets.{sorted_sets_are_unique}
use Rattle.desk_text.proofs.laws.sorted_sets_are_unique.Goals as goal

pub returns : goal.returns
returns c = sorted_sets_are_unique
