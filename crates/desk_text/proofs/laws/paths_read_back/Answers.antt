use Rattle.desk_text.proofs.PathLaws.{paths_read_back}
use Rattle.desk_text.proofs.laws.paths_read_back.Goals as goal

pub returns : goal.returns
returns c = paths_read_back
