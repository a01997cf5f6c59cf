use Rattle.desk_tables.proofs.GoodLines.{good_lines_have_rows}
use Rattle.desk_tables.proofs.laws.good_lines_have_rows.Goals as goal

pub returns : goal.returns
returns c = good_lines_have_rows
