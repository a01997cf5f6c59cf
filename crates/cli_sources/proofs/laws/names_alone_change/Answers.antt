-- Neither a verdict nor a listing looks at the texts that lines are of.
use Rattle.std.proofs.Common.{refl}
use Rattle.desk_policy.specs.Listings.{listing_of}
use Rattle.desk_policy.specs.Verdict.{verdict_of}
use Rattle.cli_sources.proofs.laws.names_alone_change.Goals as goal

pub returns : goal.returns
unfolding listing_of verdict_of
returns c = λ content origins. record { verdicts = λ address path. refl; listings = λ address. refl }
