use Rattle.desk_impact.proofs.HavingOthers.{mounts_have_others}
use Rattle.desk_impact.proofs.laws.mounts_have_others.Goals as goal

pub returns : goal.returns
returns c = mounts_have_others
