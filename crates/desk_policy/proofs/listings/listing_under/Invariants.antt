-- What is shown of the mount points so far.
use Rattle.std.proofs.Common.{◌≡◌, take}
use Rattle.std.specs.List.{filter_map}
use Rattle.desk_text.specs.Address.{number_of}
use Rattle.desk_policy.specs.Listings.{shown_of_mount}
use Rattle.desk_policy.proofs.listings.listing_under.Given as goal

abbrev pub invariant-loop-mount : goal.invariant-loop-mount
invariant-loop-mount l = l.listing.items ≡ filter_map (λ mount. shown_of_mount l.policy (number_of l.address) mount.path) (take l.mount-index l.mount-items)
