use Rattle.desk_idle.proofs.ListedBefore.{idle_lines_are_listed_before}
use Rattle.desk_idle.proofs.laws.idle_lines_are_listed_before.Goals as goal

pub returns : goal.returns
returns c = idle_lines_are_listed_before
