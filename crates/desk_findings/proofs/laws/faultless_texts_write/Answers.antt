use Rattle.desk_findings.proofs.Faultless.{faultless_sites_write, faultless_texts_write}
use Rattle.desk_findings.proofs.laws.faultless_texts_write.Goals as goal

pub returns-clause-texts : goal.returns-clause-texts
returns-clause-texts c = faultless_texts_write c.first_of_faults_is_reported.ensures c.first_of_faults_is_reported-2.ensures c.first_fault_is_the_head.ensures

pub returns-clause-sites : goal.returns-clause-sites
returns-clause-sites c = faultless_sites_write c.first_of_faults_is_reported.ensures c.first_of_faults_is_reported-2.ensures c.first_fault_is_the_head.ensures
