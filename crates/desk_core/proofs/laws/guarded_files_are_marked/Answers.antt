use Rattle.desk_core.proofs.KnownFiles.{guarded_files_are_marked}
use Rattle.desk_core.proofs.laws.guarded_files_are_marked.Goals as goal

pub returns : goal.returns
returns c = guarded_files_are_marked
