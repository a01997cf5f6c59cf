-- No line so far has -alldirs.
use Rattle.std.proofs.Common.{◌≡◌, false, map, take}
use Rattle.std.specs.List.{list_any}
use Rattle.desk_policy.proofs.listings.has_alldirs.Given as goal

abbrev pub invariant-loop-row : goal.invariant-loop-row
invariant-loop-row l = list_any (λ row. row.entry.alldirs) (map (λ row. row.now) (take l.row-index l.rows)) ≡ false
