use Rattle.desk_text.proofs.Masks.{masks_read_back}
use Rattle.desk_text.proofs.laws.masks_read_back.Goals as goal

pub returns : goal.returns
returns c = masks_read_back
