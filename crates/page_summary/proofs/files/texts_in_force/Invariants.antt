-- The lines in force of the file systems so far.
use Rattle.std.proofs.Common.{◌≡◌, map, take}
use Rattle.page_summary.specs.Files.{line_values, text_in_force}
use Rattle.page_summary.proofs.files.texts_in_force.Given as goal

abbrev pub invariant-loop-mount : goal.invariant-loop-mount
invariant-loop-mount l = map line_values l.texts.items ≡ map (text_in_force l.heads) (take l.mount-index l.mounts)
