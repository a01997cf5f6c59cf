use Rattle.desk_exports.proofs.RuleOrder.{named_if_broken}
use Rattle.desk_exports.proofs.laws.named_if_broken.Goals as goal

pub returns : goal.returns
returns c = named_if_broken
