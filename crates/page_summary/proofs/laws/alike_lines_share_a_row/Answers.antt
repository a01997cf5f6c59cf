use Rattle.page_summary.proofs.Sharing.{share_a_row}
use Rattle.page_summary.proofs.laws.alike_lines_share_a_row.Goals as goal

pub returns : goal.returns
returns c = share_a_row
