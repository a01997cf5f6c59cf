use Rattle.desk_split.proofs.SplitLines.{split_sends_each_line_once}
use Rattle.desk_split.proofs.laws.split_sends_each_line_once.Goals as goal

pub returns : goal.returns
returns c = split_sends_each_line_once
