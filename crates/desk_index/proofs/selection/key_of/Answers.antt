use Rattle.std.proofs.Common.{◌-◌, arith}
use Rattle.desk_index.proofs.Selecting.{at_network}
use Rattle.desk_index.proofs.selection.key_of.Goals as goal

pub returns-in_default : goal.returns-in_default
returns-in_default c =
    let weight = c.args.weight in
    at_network c.args.fs c.args.address weight (weight - 1) c.network_of.result (omega (arith, c.in_default)) (omega (arith, c.requires)) c.network_of.ensures
