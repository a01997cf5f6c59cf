-- What the private contracts of the scans cite.
use Rattle.std.specs.Prelude.{ℕ, ◌≡◌, ◌<◌, true, false, List, length, slice_index_or}
use Rattle.std.specs.List.{HoldsAt}
use Rattle.desk_text.specs.Path.{is_under}
use Rattle.desk_tables.specs.declared.filesystems.Mount.{Mount}

-- the path is under the mount point at i, and under none of the later ones
pub record IsLastAbove (table : List Mount) (path : List (List ℕ)) (i : ℕ) : Type 0 where
  pub inside : i < length table
  pub above : HoldsAt (λ mount. is_under path mount.path ≡ true) table i
  pub last : (k : ℕ) (d : Mount) → i < k → k < length table → is_under path (slice_index_or table k d).path ≡ false
