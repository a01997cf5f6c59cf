use Rattle.desk_core.proofs.FileNames.{known_files_have_names}
use Rattle.desk_core.proofs.laws.known_files_have_names.Goals as goal

pub returns : goal.returns
returns c = known_files_have_names c.mount_points_read_back.ensures
