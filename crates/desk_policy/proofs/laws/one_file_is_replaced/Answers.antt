use Rattle.desk_policy.proofs.Replaced.{one_file_is_replaced}
use Rattle.desk_policy.proofs.laws.one_file_is_replaced.Goals as goal

pub returns : goal.returns
returns c = one_file_is_replaced
