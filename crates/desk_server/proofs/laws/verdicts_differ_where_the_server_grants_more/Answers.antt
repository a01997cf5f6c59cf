use Rattle.desk_server.proofs.Granting.{verdicts_differ_where_the_server_grants_more}
use Rattle.desk_server.proofs.laws.verdicts_differ_where_the_server_grants_more.Goals as goal

pub returns : goal.returns
returns c = verdicts_differ_where_the_server_grants_more c.verdicts_are_discrete.ensures
