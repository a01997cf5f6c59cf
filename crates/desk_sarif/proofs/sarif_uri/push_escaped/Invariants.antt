-- The bytes so far were added.
use Rattle.std.proofs.Common.{◌≡◌, ◌++◌, take}
use Rattle.std.specs.List.{flat_map}
use Rattle.std.specs.String.{string_bytes}
use Rattle.desk_sarif.specs.SarifUri.{escaped}
use Rattle.desk_sarif.proofs.sarif_uri.push_escaped.Given as goal

abbrev pub invariant-loop-byte : goal.invariant-loop-byte
invariant-loop-byte l = string_bytes l.uri ≡ string_bytes l.initial.uri ++ flat_map escaped (take l.byte-index l.path)
