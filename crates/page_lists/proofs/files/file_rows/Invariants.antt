-- The rows of the files so far.
use Rattle.std.proofs.Common.{◌≡◌, map, take}
use Rattle.desk_core.specs.Listing.{file_of}
use Rattle.page_lists.specs.Files.{row_of, row_value}
use Rattle.page_lists.proofs.files.file_rows.Given as goal

abbrev pub invariant-loop-file : goal.invariant-loop-file
invariant-loop-file l = map row_value l.rows.items ≡ map (row_of l.filesystems) (map file_of (take l.file-index l.files))
