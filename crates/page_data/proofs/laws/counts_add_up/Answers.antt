use Rattle.page_data.proofs.Agreeing.{counts_add_up}
use Rattle.page_data.proofs.laws.counts_add_up.Goals as goal

pub returns : goal.returns
returns c = counts_add_up
