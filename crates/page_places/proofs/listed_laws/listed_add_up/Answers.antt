use Rattle.page_places.proofs.Adding.{listed_add_up}
use Rattle.page_places.proofs.listed_laws.listed_add_up.Goals as goal

pub returns : goal.returns
returns c = listed_add_up
