use Rattle.page_findings.proofs.Counted.{counted_lines_grant}
use Rattle.page_findings.proofs.laws.counted_lines_grant.Goals as goal

pub returns : goal.returns
returns c = counted_lines_grant
