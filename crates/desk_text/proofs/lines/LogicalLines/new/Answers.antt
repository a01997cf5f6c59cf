use Rattle.desk_text.proofs.LineLaws.{lines_ascend}
use Rattle.desk_text.proofs.lines.LogicalLines.new.Goals as goal

pub returns-clause-ascending : goal.returns-clause-ascending
returns-clause-ascending c = lines_ascend c.args.text.now
