use Rattle.desk_exports.proofs.RuleOrder.{credential_rules_are_the_faults}
use Rattle.desk_exports.proofs.laws.credential_rules_are_the_faults.Goals as goal

pub returns : goal.returns
returns c = credential_rules_are_the_faults
