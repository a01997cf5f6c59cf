-- The lines of the files so far are written.
use Rattle.std.proofs.Common.{◌≡◌, take}
use Rattle.std.specs.List.{flat_map}
use Rattle.std.specs.String.{string_bytes}
use Rattle.desk_service.specs.Files.{file_of}
use Rattle.desk_service.specs.declared.files.ListedFile.{ListedFile}
use Rattle.cli_questions.specs.FileLines.{file_lines}
use Rattle.cli_questions.proofs.file_lines.files_text.Given as goal

abbrev pub invariant-loop-file : goal.invariant-loop-file
invariant-loop-file l = string_bytes l.text ≡ flat_map (λ (file : ListedFile). file_lines (file_of file)) (take l.file-index l.file-items)
