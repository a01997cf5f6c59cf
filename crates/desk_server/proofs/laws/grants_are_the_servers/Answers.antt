use Rattle.desk_server.proofs.Granting.{grants_are_the_servers}
use Rattle.desk_server.proofs.laws.grants_are_the_servers.Goals as goal

pub returns : goal.returns
returns c = grants_are_the_servers c.verdicts_are_discrete.ensures
