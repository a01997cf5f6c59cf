use Rattle.desk_tables.proofs.MountPoints.{mount_points_read_back}
use Rattle.desk_tables.proofs.laws.mount_points_read_back.Goals as goal

pub returns : goal.returns
returns c = mount_points_read_back c.written_paths_read_back.ensures
