use Rattle.page_maps.proofs.UniqueNetworks.{networks_are_told_in_one_way}
use Rattle.page_maps.proofs.laws.networks_are_told_in_one_way.Goals as goal

pub returns : goal.returns
returns c = networks_are_told_in_one_way
