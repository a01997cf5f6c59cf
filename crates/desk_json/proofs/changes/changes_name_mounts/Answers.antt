use Rattle.desk_json.proofs.SameMounts.{changes_name_mounts}
use Rattle.desk_json.proofs.changes.changes_name_mounts.Goals as goal

pub returns : goal.returns
returns c = changes_name_mounts
