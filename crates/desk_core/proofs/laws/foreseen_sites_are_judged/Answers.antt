use Rattle.desk_core.proofs.Foreseeing.{foreseen_sites_are_judged}
use Rattle.desk_core.proofs.laws.foreseen_sites_are_judged.Goals as goal

pub returns : goal.returns
returns c = foreseen_sites_are_judged
