-- The files so far are written.
use Rattle.std.proofs.Common.{◌≡◌, take}
use Rattle.std.specs.List.{flat_map}
use Rattle.std.specs.String.{string_bytes}
use Rattle.desk_split.specs.Joining.{section, stored_file}
use Rattle.desk_split.specs.declared.joining.ExportsFile.{ExportsFile}
use Rattle.desk_split.proofs.joining.join.Given as goal

abbrev pub invariant-loop-file : goal.invariant-loop-file
invariant-loop-file l = string_bytes l.text ≡ flat_map (λ (file : ExportsFile). section (stored_file file)) (take l.file-index l.files)
