-- What the private contracts of the proposals by which clients may do more cite.
use Rattle.std.specs.Prelude.{◌≡◌, ◌++◌, List, Option}
use Rattle.desk_policy.specs.Policy.{Content}
use Rattle.page_summary.specs.Proposals.{ProposalValue}
use Rattle.page_site.specs.WaitingProposals.{Waiting}
use Rattle.page_site.specs.WideningProposals.{IsToldFor}

-- what is told of that which waits for a file system was added
pub record GainsTold (content : Content) (waiting : Option Waiting) (old new : List ProposalValue) : Type 0 where
  pub rows : List ProposalValue
  pub told : IsToldFor content waiting rows
  pub gained : new ≡ old ++ rows
