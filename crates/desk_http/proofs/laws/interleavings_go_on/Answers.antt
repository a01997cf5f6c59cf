-- By the events of a connection, one after another.
use Rattle.desk_http.proofs.ConnectionLemmas.{interleavings_go_on}
use Rattle.desk_http.proofs.laws.interleavings_go_on.Goals as goal

pub returns : goal.returns
returns g c = interleavings_go_on g.S.Store
