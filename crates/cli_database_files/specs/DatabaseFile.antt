-- The path of a database, and which of its bytes are locked. (sqlite.org/lockingv3.html; PENDING_BYTE, RESERVED_BYTE, SHARED_FIRST and SHARED_SIZE of SQLite)
use Rattle.std.specs.Prelude.{◌≡◌, ◌==◌, ◌++◌, ℕ, List, codes, if◌then◌else◌}
use Rattle.std.specs.List.{starts_with}
use Rattle.cli_database_files.specs.declared.database_file.ByteRange.{ByteRange}

-- a path that SQLite takes for one: to it `:memory:`, and what begins with `file:`, is something else
abbrev pub plain_path : List ℕ → List ℕ
plain_path db = if starts_with (λ one other. one == other) db (codes "/") then db else codes "./" ++ db

-- from the pending byte, 2 ^ 30, on: that one, the reserved one, and the 510 that readers share
pub record IsLockedBySqlite (bytes : ByteRange) : Type 0 where
  pub from : bytes.start ≡ 1073741824
  pub many : bytes.len ≡ 512
