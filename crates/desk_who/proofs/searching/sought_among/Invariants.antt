-- Of the addresses so far those are left at which something may be found.
use Rattle.std.proofs.Common.{map, take}
use Rattle.desk_text.specs.Address.{number_of}
use Rattle.desk_who.proofs.Sought.{AreLeft}
use Rattle.desk_who.proofs.searching.sought_among.Given as goal

abbrev pub invariant-loop-address : goal.invariant-loop-address
invariant-loop-address g l = AreLeft (g.S.Search.found l.search) (g.S.Search.turns l.search) (map number_of (take l.address-index l.addresses)) (map number_of l.sought.items)
