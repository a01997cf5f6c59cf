use Rattle.page_maps.proofs.Shown.{seams_are_shown}
use Rattle.page_maps.proofs.laws.seams_are_shown.Goals as goal

pub returns : goal.returns
returns c = seams_are_shown
