use Rattle.desk_core.proofs.SiteLemmas.{consistent_or_fault}
use Rattle.desk_core.proofs.laws.consistent_sites_have_no_fault.Goals as goal

pub returns : goal.returns
returns c = consistent_or_fault
