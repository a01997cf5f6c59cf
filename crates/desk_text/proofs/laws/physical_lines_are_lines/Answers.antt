use Rattle.desk_text.proofs.LineLaws.{physical_lines_are_lines}
use Rattle.desk_text.proofs.laws.physical_lines_are_lines.Goals as goal

pub returns : goal.returns
returns c = physical_lines_are_lines
