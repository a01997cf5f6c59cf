-- By the events of a connection, one after another.
use Rattle.desk_http.proofs.ConnectionLemmas.{stepping_serves}
use Rattle.desk_http.proofs.laws.stepping_serves.Goals as goal

pub returns : goal.returns
returns g c = stepping_serves g.S.Store
