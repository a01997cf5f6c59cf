use Rattle.desk_policy.proofs.SiteLaws.{each_has_its_own_lines}
use Rattle.desk_policy.proofs.laws.each_has_its_own_lines.Goals as goal

pub returns : goal.returns
returns c = each_has_its_own_lines
