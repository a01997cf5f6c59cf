use Rattle.desk_netgroup.proofs.WalkMeets.{order_keeps_the_hosts}
use Rattle.desk_netgroup.proofs.laws.order_keeps_the_hosts.Goals as goal

pub returns : goal.returns
returns c = order_keeps_the_hosts
