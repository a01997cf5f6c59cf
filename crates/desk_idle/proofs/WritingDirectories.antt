-- Lines that write directories of their own file system, one line after another.
use Rattle.std.proofs.Common.{◌≡◌, ℕ, List, [], ◌∷◌, Some}
use Rattle.std.specs.List.{All, AllByRecursion}
use Rattle.std.proofs.lemmas.List.Elements.{All-cons, All-from_recursion, All-head, All-nil, All-tail}
use Rattle.desk_tables.specs.FileSystems.{fs_of}
use Rattle.desk_tables.specs.declared.filesystems.Mount.{Mount}
use Rattle.desk_exports.specs.Laws.{HasDirectory}
use Rattle.desk_policy.specs.Laws.{HaveDirectories}
use Rattle.desk_policy.specs.Listings.{WriteTheirOwn, written}
use Rattle.desk_policy.specs.Policy.{Content, rows_of}
use Rattle.desk_policy.specs.declared.row.Row.{Row}
use Rattle.desk_idle.specs.Laws.{WriteDirectories, WritesDirectories}
use Rattle.desk_idle.proofs.Directories.{Path}
use Rattle.desk_idle.proofs.Lists.{appended}

each_writes : (table : List Mount) (fs : ℕ) (rows : List Row) → AllByRecursion (λ (dir : Path). fs_of table dir ≡ Some fs) (written rows) → HaveDirectories rows → All (WritesDirectories table fs) rows
each_writes table fs [] own some = All-nil (WritesDirectories table fs)
each_writes table fs (row ∷ rows) own some =
    let s = appended (λ (dir : Path). fs_of table dir ≡ Some fs) row.entry.dirs (written rows) own in
    let one : WritesDirectories table fs row = record {
      own = All-from_recursion (λ (dir : Path). fs_of table dir ≡ Some fs) row.entry.dirs s.0;
      some = All-head (λ (r : Row). HasDirectory r.entry) row rows some;
    } in
    All-cons (WritesDirectories table fs) row rows one (each_writes table fs rows s.1 (All-tail (λ (r : Row). HasDirectory r.entry) row rows some))

pub write_by : (content : Content) (fs : ℕ) → WriteTheirOwn content → HaveDirectories (rows_of content fs) → WriteDirectories content fs
write_by content fs own some = each_writes content.table fs (rows_of content fs) (own fs) some
