use Rattle.desk_text.proofs.LineLaws.{parts_are_slices}
use Rattle.desk_text.proofs.laws.parts_are_slices.Goals as goal

pub returns : goal.returns
returns c = parts_are_slices
