use Rattle.desk_expect.proofs.HostBits.{told_is_meant}
use Rattle.desk_expect.proofs.laws.told_networks_are_meant.Goals as goal

pub returns : goal.returns
returns c = told_is_meant
