use Rattle.desk_idle.proofs.Removal.{idle_lines_change_nothing}
use Rattle.desk_idle.proofs.laws.idle_lines_change_nothing.Goals as goal

pub returns : goal.returns
returns c = idle_lines_change_nothing
