use Rattle.desk_joined.proofs.OwnLines.{lines_read_as_alone}
use Rattle.desk_joined.proofs.laws.joined_lines_are_read_as_alone.Goals as goal

pub returns : goal.returns
returns c = lines_read_as_alone
