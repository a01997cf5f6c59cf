-- Those so far are told.
use Rattle.std.proofs.Common.{◌≡◌, ◌++◌, take}
use Rattle.std.specs.List.{flat_map}
use Rattle.std.specs.String.{string_bytes}
use Rattle.desk_expect.specs.HostBits.{told_name}
use Rattle.desk_expect.proofs.host_bits.push_names.Given as goal

abbrev pub invariant-loop-name : goal.invariant-loop-name
invariant-loop-name l = string_bytes l.told ≡ string_bytes l.initial.told ++ flat_map (told_name l.file l.number) (take l.name-index l.names)
