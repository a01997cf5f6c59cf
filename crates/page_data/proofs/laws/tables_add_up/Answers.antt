use Rattle.page_data.proofs.AddingUp.{tables_add_up}
use Rattle.page_data.proofs.laws.tables_add_up.Goals as goal

pub returns : goal.returns
returns c = tables_add_up c.verdicts_are_discrete.ensures
