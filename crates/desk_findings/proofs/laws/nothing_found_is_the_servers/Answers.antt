use Rattle.desk_findings.proofs.SilentTexts.{nothing_found_is_the_servers, nothing_repeated_found_is_loaded, nothing_wider_found_is_equal}
use Rattle.desk_findings.proofs.laws.nothing_found_is_the_servers.Goals as goal

pub returns-clause-equal : goal.returns-clause-equal
returns-clause-equal c = nothing_wider_found_is_equal c.lines_ascend.ensures c.nothing_wider_is_equal.ensures

pub returns-clause-loaded : goal.returns-clause-loaded
returns-clause-loaded c = nothing_repeated_found_is_loaded c.lines_ascend.ensures c.read_lines_write_directories.ensures.whole c.nothing_repeated_is_loaded.ensures

pub returns-clause-verdicts : goal.returns-clause-verdicts
returns-clause-verdicts c = nothing_found_is_the_servers c.lines_ascend.ensures c.silence_is_the_servers_verdict.ensures.verdicts
