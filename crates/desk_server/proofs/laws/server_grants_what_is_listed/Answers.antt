use Rattle.desk_server.proofs.Granting.{server_grants_what_is_listed}
use Rattle.desk_server.proofs.laws.server_grants_what_is_listed.Goals as goal

pub returns : goal.returns
returns c = server_grants_what_is_listed
