-- The names of the rows so far are listed.
use Rattle.std.proofs.Common.{◌≡◌, List, ℕ, take}
use Rattle.desk_tables.specs.PrivateIndex.{addresses_under, listed_hosts}
use Rattle.desk_tables.proofs.hosts.listings_by_name.Given as goal

abbrev pub invariant-loop-place : goal.invariant-loop-place
invariant-loop-place l = (key : List ℕ) → listed_hosts l.rows l.listings.items key ≡ addresses_under key (take l.place l.rows)
