use Rattle.desk_exports.proofs.RuleOrder.{rules_are_in_the_order_of_their_numbers}
use Rattle.desk_exports.proofs.laws.rules_are_in_the_order_of_their_numbers.Goals as goal

pub returns : goal.returns
returns c = rules_are_in_the_order_of_their_numbers
