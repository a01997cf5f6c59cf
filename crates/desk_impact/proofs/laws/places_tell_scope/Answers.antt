use Rattle.desk_impact.proofs.Scoped.{places_tell_scope}
use Rattle.desk_impact.proofs.laws.places_tell_scope.Goals as goal

pub returns : goal.returns
returns c = places_tell_scope
