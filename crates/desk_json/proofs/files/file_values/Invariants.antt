-- The files so far.
use Rattle.std.proofs.Common.{◌≡◌, map, take}
use Rattle.serde_json.specs.View.{view}
use Rattle.desk_service.specs.Files.{file_of}
use Rattle.desk_json.specs.Files.{file_data}
use Rattle.desk_json.proofs.files.file_values.Given as goal

abbrev pub invariant-loop-file : goal.invariant-loop-file
invariant-loop-file l = map view l.values.items ≡ map file_data (map file_of (take l.file-index l.files))
