-- By the events of a connection, one after another.
use Rattle.desk_http.proofs.ConnectionLemmas.{interleavings_serve}
use Rattle.desk_http.proofs.laws.interleavings_serve.Goals as goal

pub returns : goal.returns
returns g c = interleavings_serve g.S.Store
