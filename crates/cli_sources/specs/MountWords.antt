-- The file systems of which a command is given the mount points. (this project's own)
use Rattle.std.specs.Prelude.{◌≡◌, ℕ, List, None, Result, MatchResult}
use Rattle.desk_tables.specs.FileSystems.{IsTableOf}
use Rattle.desk_tables.specs.declared.filesystems.Mount.{Mount}
use Rattle.cli_output.specs.declared.failure.Failure.{Failure}
use Rattle.cli_words.specs.Values.{IsNoTable, first_bad_path, paths_of}

-- the file systems of these mount points; or which of them cannot be parsed, or that there are too many
abbrev pub ReadsTable : List (List ℕ) → Result (List Mount) Failure → Type 0
ReadsTable mounts result = MatchResult result (λ table. (first_bad_path mounts ≡ None) × IsTableOf (paths_of mounts) table) (IsNoTable mounts)
