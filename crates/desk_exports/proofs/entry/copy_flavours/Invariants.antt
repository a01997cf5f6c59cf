-- The flavours so far.
use Rattle.std.proofs.Common.{◌≡◌, take}
use Rattle.desk_exports.proofs.entry.copy_flavours.Given as goal

abbrev pub invariant-loop-flavour : goal.invariant-loop-flavour
invariant-loop-flavour l = l.copy ≡ take l.flavour-index l.flavours
