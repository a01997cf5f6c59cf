use Rattle.page_data.proofs.DeniedAlike.{denied_alike}
use Rattle.page_data.proofs.laws.alike_places_are_denied_alike.Goals as goal

pub returns : goal.returns
returns c = denied_alike
