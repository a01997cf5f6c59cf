use Rattle.desk_impact.proofs.Covering.{places_tell_all}
use Rattle.desk_impact.proofs.laws.places_tell_all.Goals as goal

pub returns : goal.returns
returns c = places_tell_all
