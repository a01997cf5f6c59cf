use Rattle.desk_core.proofs.Limits.{kept_by_limits}
use Rattle.desk_core.proofs.head.can_be_kept.Goals as goal

pub returns : goal.returns
returns c = kept_by_limits c.args.heads.now c.are_within_limits.result c.are_within_limits.ensures
