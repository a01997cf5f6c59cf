-- There is a line at none of the addresses so far.
use Rattle.std.proofs.Common.{◌≡◌, ◌<◌, ℕ, None, get_or, map}
use Rattle.desk_text.specs.Address.{number_of}
use Rattle.desk_server_prints.specs.Listing.{wider_at}
use Rattle.desk_server_prints.proofs.listing.first_wider_of.Given as goal

abbrev pub invariant-loop-address : goal.invariant-loop-address
invariant-loop-address l = (other : ℕ) → other < l.address-index → wider_at l.index l.path (get_or (map number_of l.addresses) other 0) ≡ None
