use Rattle.desk_text.proofs.LineLaws.{lines_are_numbered}
use Rattle.desk_text.proofs.laws.lines_are_numbered.Goals as goal

pub returns : goal.returns
returns c = lines_are_numbered
