use Rattle.desk_server.proofs.Loading.{nothing_repeated_is_loaded}
use Rattle.desk_server.proofs.laws.nothing_repeated_is_loaded.Goals as goal

pub returns : goal.returns
returns c = nothing_repeated_is_loaded
