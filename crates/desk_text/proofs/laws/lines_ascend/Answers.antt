use Rattle.desk_text.proofs.LineLaws.{lines_ascend}
use Rattle.desk_text.proofs.laws.lines_ascend.Goals as goal

pub returns : goal.returns
returns c = lines_ascend
