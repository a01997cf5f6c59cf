use Rattle.page_maps.proofs.Unique.{maps_are_told_in_one_way}
use Rattle.page_maps.proofs.laws.maps_are_told_in_one_way.Goals as goal

pub returns : goal.returns
returns c = maps_are_told_in_one_way
