use Rattle.page_summary.proofs.Deciders.{named_decide}
use Rattle.page_summary.proofs.laws.named_lines_decide.Goals as goal

pub returns : goal.returns
returns c = named_decide
