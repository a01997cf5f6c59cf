use Rattle.desk_policy.proofs.GrantedListing.{listed_are_granted}
use Rattle.desk_policy.proofs.laws.listed_are_granted.Goals as goal

pub returns : goal.returns
returns c = listed_are_granted
