-- What is written, and what the mount points and texts that are left make, are all.
use Rattle.std.proofs.Common.{◌≡◌, ◌++◌, drop, map}
use Rattle.std.specs.String.{string_bytes}
use Rattle.cli_texts.specs.SplitText.{headed_texts}
use Rattle.cli_texts.proofs.split_text.headed_texts.Given as goal

abbrev pub invariant-loop-mount : goal.invariant-loop-mount
invariant-loop-mount l = string_bytes l.printed ++ headed_texts (drop l.mount-index l.table) (map string_bytes l.rest) ≡ headed_texts l.table (map string_bytes l.texts)
