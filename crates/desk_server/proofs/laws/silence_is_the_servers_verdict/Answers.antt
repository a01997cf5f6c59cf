use Rattle.desk_server.proofs.Loading.{grants_are_the_servers_by_loaded_lines, silence_is_the_servers_verdict}
use Rattle.desk_server.proofs.laws.silence_is_the_servers_verdict.Goals as goal

pub returns-clause-verdicts : goal.returns-clause-verdicts
returns-clause-verdicts c = silence_is_the_servers_verdict c.verdicts_are_discrete.ensures

pub returns-clause-grants : goal.returns-clause-grants
returns-clause-grants c = grants_are_the_servers_by_loaded_lines c.verdicts_are_discrete.ensures
