use Rattle.page_maps.proofs.Exact.{exact_together}
use Rattle.page_maps.proofs.laws.maps_are_exact_together.Goals as goal

pub returns : goal.returns
returns c = exact_together
