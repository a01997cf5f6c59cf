use Rattle.desk_policy.proofs.OwnListing.{listings_show_their_own}
use Rattle.desk_policy.proofs.laws.listings_show_their_own.Goals as goal

pub returns : goal.returns
returns c = listings_show_their_own
