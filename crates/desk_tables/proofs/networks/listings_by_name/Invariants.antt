-- The names of the rows so far are listed.
use Rattle.std.proofs.Common.{◌≡◌, List, ℕ, take}
use Rattle.desk_tables.specs.Networks.{network_number}
use Rattle.desk_tables.specs.PrivateIndex.{numbered}
use Rattle.desk_tables.proofs.networks.listings_by_name.Given as goal

abbrev pub invariant-loop-place : goal.invariant-loop-place
invariant-loop-place l = (q : List ℕ) → numbered l.rows l.listings.items q ≡ network_number (take l.place l.rows) q
