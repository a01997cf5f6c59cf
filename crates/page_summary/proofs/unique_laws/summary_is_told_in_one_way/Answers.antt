use Rattle.page_summary.proofs.Unique.{summary_is_told_in_one_way}
use Rattle.page_summary.proofs.unique_laws.summary_is_told_in_one_way.Goals as goal

pub returns : goal.returns
returns c = summary_is_told_in_one_way c.what_is_found_is_unique.ensures c.lines_are_told_in_one_way.ensures c.lists_are_told_in_one_way.ensures
