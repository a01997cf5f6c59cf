-- The lines so far write directories of the file system.
use Rattle.std.proofs.Common.{All, take}
use Rattle.desk_idle.specs.Laws.{WritesDirectories}
use Rattle.desk_idle.proofs.writing.write_directories.Given as goal

abbrev pub invariant-loop-row : goal.invariant-loop-row
invariant-loop-row l = All (WritesDirectories l.index.table l.fs.0) (take l.row-index l.row-items)
