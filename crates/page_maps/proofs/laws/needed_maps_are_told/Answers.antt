use Rattle.page_maps.proofs.Told as lemmas
use Rattle.page_maps.proofs.laws.needed_maps_are_told.Goals as goal

pub returns : goal.returns
returns c = lemmas.needed_maps_are_told
