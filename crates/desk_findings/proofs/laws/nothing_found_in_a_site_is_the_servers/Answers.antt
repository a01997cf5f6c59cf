use Rattle.desk_findings.specs.Silence.{EqualIfNothingWider, LoadedIfNothingRepeated, TheServersIfNeither}
use Rattle.desk_findings.proofs.SilentSite.{of_site, silent_sites_are_the_servers}
use Rattle.desk_findings.proofs.laws.nothing_found_in_a_site_is_the_servers.Goals as goal

pub returns-clause-equal : goal.returns-clause-equal
returns-clause-equal c = of_site EqualIfNothingWider c.nothing_found_is_the_servers.ensures.equal

pub returns-clause-loaded : goal.returns-clause-loaded
returns-clause-loaded c = of_site LoadedIfNothingRepeated c.nothing_found_is_the_servers.ensures.loaded

pub returns-clause-verdicts : goal.returns-clause-verdicts
returns-clause-verdicts c = of_site TheServersIfNeither c.nothing_found_is_the_servers.ensures.verdicts

pub returns-clause-silent : goal.returns-clause-silent
returns-clause-silent c = silent_sites_are_the_servers c.silent_findings_are_the_servers.ensures.verdicts
