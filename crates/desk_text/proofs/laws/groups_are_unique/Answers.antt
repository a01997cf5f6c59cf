use Rattle.desk_text.proofs.GroupsAreUnique.{groups_are_unique}
use Rattle.desk_text.proofs.laws.groups_are_unique.Goals as goal

pub returns : goal.returns
returns c = groups_are_unique
