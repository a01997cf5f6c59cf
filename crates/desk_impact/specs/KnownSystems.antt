-- What is known of file systems. (this project's own)
use Rattle.std.specs.Prelude.{◌≡◌, ℕ, List, Option, map}
use Rattle.std.specs.Option.{option_map}
use Rattle.desk_tables.specs.FileSystems.{fs_of}
use Rattle.desk_tables.specs.declared.filesystems.FsId.{FsId}
use Rattle.desk_policy.specs.Policy.{Content}
use Rattle.desk_impact.specs.Impact.{AreStartsOfChanges, IsImpact, change_value}
use Rattle.desk_impact.specs.Places.{Others, place_verdicts}
use Rattle.desk_impact.specs.declared.changes.TwoVerdicts.{TwoVerdicts as KeptVerdicts}
use Rattle.desk_impact.specs.declared.known_systems.Known.{Known}

-- the number of a file system, if it is one
abbrev pub fs_number : Option FsId → Option ℕ
fs_number fs = option_map (λ one. one.0) fs

-- What changes of the directories that no line writes, in the file systems of this path; and where what verdicts say may change in them.
pub record IsKnownChange (old new : Content) (one : Known KeptVerdicts) : Type 0 where
  pub path : List (List ℕ)
  pub old_is : fs_number one.old ≡ fs_of old.table path
  pub new_is : fs_number one.new ≡ fs_of new.table path
  pub starts : AreStartsOfChanges old new path one.starts
  pub changes : IsImpact old new (place_verdicts old new (Others path)) (map change_value one.found)
