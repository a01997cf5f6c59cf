use Rattle.std.proofs.Common.{◌≡◌, ℕ, ◌<◌, ◌≤◌, false, length, get_or}
use Rattle.desk_text.specs.Path.{is_under}
use Rattle.desk_tables.specs.declared.filesystems.Mount.{Mount}
use Rattle.desk_tables.proofs.filesystems.last_above.Given as goal

-- no mount point from here on is above the path
abbrev pub invariant-loop-index : goal.invariant-loop-index
invariant-loop-index l = (l.index ≤ length l.mounts) × ((k : ℕ) (d : Mount) → l.index ≤ k → k < length l.mounts → is_under l.path (get_or l.mounts k d).path ≡ false)
