-- What the private contracts of what is foreseen cite. (this project's own)
use Rattle.std.specs.Prelude.{◌≡◌, ◌++◌, All, List, [], ◌∷◌, Ok, if◌then◌else◌, map}
use Rattle.desk_policy.specs.Contradiction.{HasNoContradiction}
use Rattle.desk_policy.specs.Parsing.{read_site}
use Rattle.desk_policy.specs.Policy.{Content}
use Rattle.desk_policy.specs.Site.{SiteTexts}
use Rattle.desk_core.specs.Head.{Newest}
use Rattle.desk_core.specs.Site.{IsInForce, site_in}
use Rattle.desk_core.specs.declared.proposal.Proposal.{Proposal}
use Rattle.page_site.specs.Given.{HasReadableText}
use Rattle.page_site.specs.WaitingProposals.{AreWaiting, IsWaiting, Waiting, is_for_listed}

-- a policy is that which a site's texts write, and no two of its lines contradict each other
pub record IsRead (texts : SiteTexts) (content : Content) : Type 0 where
  pub is : read_site texts ≡ Ok content
  pub consistent : HasNoContradiction content

-- this policy is in force, these proposals wait, and their texts are not too long to be read
pub record AreForeseen (newest : Newest) (content : Content) (proposals : List Proposal) (waiting : List Waiting) : Type 0 where
  pub in_force : IsInForce (site_in newest) content
  pub are : AreWaiting newest content proposals waiting
  pub readable : All HasReadableText waiting

-- a proposal was added, if it is for the exports file of a listed file system, with what is told of it
pub record GainsForeseen (newest : Newest) (content : Content) (proposal : Proposal) (old new : List Waiting) : Type 0 where
  pub more : List Waiting
  pub gained : new ≡ old ++ more
  pub of_proposal : map (λ one. one.proposal) more ≡ (if is_for_listed content.table proposal then proposal ∷ [] else [])
  pub each : All (IsWaiting newest content) more
  pub readable : All HasReadableText more
