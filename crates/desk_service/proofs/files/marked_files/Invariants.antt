-- The files so far are marked.
use Rattle.std.proofs.Common.{◌≡◌, map, take}
use Rattle.desk_core.specs.Listing as listing
use Rattle.desk_service.specs.Files.{file_of, marked}
use Rattle.desk_service.proofs.files.marked_files.Given as goal

abbrev pub invariant-loop-file : goal.invariant-loop-file
invariant-loop-file l = map file_of l.files.items ≡ map (marked l.filesystems) (map listing.file_of (take l.file-index l.held))
