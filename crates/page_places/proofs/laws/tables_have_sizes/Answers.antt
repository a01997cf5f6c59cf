use Rattle.page_places.proofs.Sized.{tables_have_sizes}
use Rattle.page_places.proofs.laws.tables_have_sizes.Goals as goal

pub returns : goal.returns
returns c = tables_have_sizes c.tables_add_up.ensures
