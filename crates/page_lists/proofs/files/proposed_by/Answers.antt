use Rattle.std.proofs.Common.{ap, refl}
use Rattle.page_html.specs.Items.{Code}
use Rattle.page_html.proofs.Gathered.{cell_before}
use Rattle.page_lists.proofs.files.proposed_by.Goals as goal

pub returns : goal.returns
returns c = cell_before _ _ _ _ refl (cell_before _ _ _ _ (ap Code c.as_str.ensures) (cell_before _ _ _ _ c.unlisted_or.ensures refl))
