-- Those of the lines so far are told.
use Rattle.std.proofs.Common.{◌≡◌, ◌++◌, [], take}
use Rattle.std.specs.List.{flat_map}
use Rattle.std.specs.String.{string_bytes}
use Rattle.desk_expect.specs.HostBits.{told_line}
use Rattle.desk_expect.proofs.host_bits.host_bits_text.Given as goal

abbrev pub invariant-loop-line : goal.invariant-loop-line
invariant-loop-line l = string_bytes l.told ≡ [] ++ flat_map (told_line l.file) (take l.line-index l.line-items)
