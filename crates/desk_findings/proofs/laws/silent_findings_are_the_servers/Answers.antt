use Rattle.desk_findings.proofs.SilentTexts.{silent_findings_are_quiet, silent_findings_are_the_servers, silent_findings_say_nothing}
use Rattle.desk_findings.proofs.laws.silent_findings_are_the_servers.Goals as goal

pub returns-clause-said : goal.returns-clause-said
returns-clause-said c = silent_findings_say_nothing c.lines_ascend.ensures

pub returns-clause-quiet : goal.returns-clause-quiet
returns-clause-quiet c = silent_findings_are_quiet c.lines_ascend.ensures

pub returns-clause-verdicts : goal.returns-clause-verdicts
returns-clause-verdicts c = silent_findings_are_the_servers c.lines_ascend.ensures c.silence_is_the_servers_verdict.ensures.verdicts
