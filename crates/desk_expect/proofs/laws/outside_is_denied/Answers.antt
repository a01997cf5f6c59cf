use Rattle.desk_expect.proofs.Denied.{denied}
use Rattle.desk_expect.proofs.laws.outside_is_denied.Goals as goal

pub returns : goal.returns
returns c = denied
