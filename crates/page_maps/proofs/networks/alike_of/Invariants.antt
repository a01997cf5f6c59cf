-- Those of the file systems so far.
use Rattle.std.proofs.Common.{◌≡◌, take}
use Rattle.std.specs.List.{flat_map}
use Rattle.page_maps.specs.NetworkRows.{alike_on}
use Rattle.page_maps.proofs.networks.alike_of.Given as goal

abbrev pub invariant-loop-one : goal.invariant-loop-one
invariant-loop-one l = l.alike.items ≡ flat_map (alike_on l.size) (take l.one-index l.counted)
