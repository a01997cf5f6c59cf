-- Those of the files so far that were replaced are told.
use Rattle.std.proofs.Common.{map, take}
use Rattle.std.specs.String.{string_bytes}
use Rattle.cli_write.specs.Replacing.{TellsWritten, name_in}
use Rattle.cli_write.proofs.replacing.replace_files.Given as goal

abbrev pub invariant-loop-file : goal.invariant-loop-file
invariant-loop-file l = TellsWritten (map name_in (take l.file-index l.files)) (string_bytes l.told)
