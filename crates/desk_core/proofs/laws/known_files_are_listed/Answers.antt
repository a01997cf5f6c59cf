use Rattle.desk_core.proofs.KnownFiles.{known_files_are_listed}
use Rattle.desk_core.proofs.laws.known_files_are_listed.Goals as goal

pub returns : goal.returns
returns c = known_files_are_listed
