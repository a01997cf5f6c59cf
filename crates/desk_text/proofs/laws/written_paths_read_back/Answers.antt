use Rattle.desk_text.proofs.WrittenPaths.{written_paths_read_back}
use Rattle.desk_text.proofs.laws.written_paths_read_back.Goals as goal

pub returns : goal.returns
returns c = written_paths_read_back
