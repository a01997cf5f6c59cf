use Rattle.page_findings.proofs.Unique.{lines_are_told_in_one_way}
use Rattle.page_findings.proofs.laws.lines_are_told_in_one_way.Goals as goal

pub returns : goal.returns
returns c = lines_are_told_in_one_way c.what_is_found_is_unique.ensures
