-- Each verdict looks at one file system, where leaving out its own lines changes nothing.
use Rattle.desk_remarks.proofs.LeftOut.{left_out}
use Rattle.desk_remarks.proofs.laws.lines_left_out_change_nothing.Goals as goal

pub returns : goal.returns
returns c = left_out c.idle_lines_change_nothing.ensures
