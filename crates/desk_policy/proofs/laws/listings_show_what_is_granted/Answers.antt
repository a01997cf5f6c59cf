use Rattle.desk_policy.proofs.OwnListing.{listings_show_what_is_granted}
use Rattle.desk_policy.proofs.laws.listings_show_what_is_granted.Goals as goal

pub returns : goal.returns
returns c = listings_show_what_is_granted
