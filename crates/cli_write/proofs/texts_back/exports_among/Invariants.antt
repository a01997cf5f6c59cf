-- The exports files of the file systems so far.
use Rattle.std.proofs.Common.{◌≡◌, map, take}
use Rattle.desk_core.specs.Head.{newest_in}
use Rattle.desk_split.specs.Joining.{stored_file}
use Rattle.cli_write.specs.TextsBack.{exports_among}
use Rattle.cli_write.proofs.texts_back.exports_among.Given as goal

abbrev pub invariant-loop-mount : goal.invariant-loop-mount
invariant-loop-mount l = map stored_file l.files.items ≡ exports_among (take l.mount-index l.mounts) (newest_in l.listed.heads.now)
