use Rattle.page_data.proofs.GrantsNothing.{idle_lines_grant_nothing}
use Rattle.page_data.proofs.laws.idle_lines_grant_nothing.Goals as goal

pub returns : goal.returns
returns c = idle_lines_grant_nothing
