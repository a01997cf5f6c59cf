-- The addresses so far are the same.
use Rattle.std.proofs.Common.{◌≡◌, map, take}
use Rattle.desk_text.specs.Address.{number_of}
use Rattle.desk_impact.proofs.same_rows.are_same_addresses.Given as goal

abbrev pub invariant-loop-place : goal.invariant-loop-place
invariant-loop-place l = map number_of (take l.place l.addresses) ≡ map number_of (take l.place l.others)
