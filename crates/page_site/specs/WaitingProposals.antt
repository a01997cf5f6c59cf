-- The proposals for exports files of listed file systems, each with what would be in force. (this project's own)
use Rattle.std.specs.Prelude.{◌≡◌, ℕ, All, Bool, List, Some, Result, Ok, Err, filter, is_some, map}
use Rattle.desk_tables.specs.declared.filesystems.Mount.{Mount}
use Rattle.desk_policy.specs.Policy.{Content, with_lines_of}
use Rattle.desk_policy.specs.SiteFile.{exports_place}
use Rattle.desk_policy.specs.View.{HasFault}
use Rattle.desk_policy.specs.declared.site_fault.SiteFault.{SiteFault}
use Rattle.desk_core.specs.Foresight.{HasLinesAlone, with_text}
use Rattle.desk_core.specs.Head.{Newest}
use Rattle.desk_core.specs.Site.{IsInForce, site_in}
use Rattle.desk_core.specs.declared.proposal.Proposal.{Proposal}
use Rattle.page_site.specs.declared.waiting_proposals.Outcome.{Outcome}
use Rattle.page_site.specs.declared.waiting_proposals.Outcome.TheVariants.{Lines, Refused}
use Rattle.page_site.specs.declared.waiting_proposals.Waiting.{Waiting as LentWaiting}

-- a proposal for the exports file of a listed file system: what would be in force with it, or the fault of the site with it
pub record Waiting : Type 0 where
  pub fs : ℕ
  pub proposal : Proposal
  pub outcome : Result Content SiteFault

-- the same by value
abbrev pub outcome_value : {V : Type 0} → (V → Content) → Outcome V → Result Content SiteFault
outcome_value in_force (Lines view) = Ok (in_force view)
outcome_value in_force (Refused fault) = Err fault

abbrev pub waiting_value : {V : Type 0} → (V → Content) → LentWaiting V → Waiting
waiting_value in_force waiting = record { fs = waiting.fs.0; proposal = waiting.proposal.now; outcome = outcome_value in_force waiting.outcome }

-- lines of the file system alone, with which the site would be consistent; or the fault that the site would have
abbrev pub IsOutcomeOf : Newest → Content → ℕ → Proposal → Result Content SiteFault → Type 0
IsOutcomeOf newest content fs proposal (Ok lines) =
    HasLinesAlone content fs lines × IsInForce (site_in (with_text newest proposal.file proposal.body)) (with_lines_of content fs lines)
IsOutcomeOf newest content fs proposal (Err fault) = HasFault (site_in (with_text newest proposal.file proposal.body)) fault

-- this is told of a proposal
pub record IsWaiting (newest : Newest) (content : Content) (waiting : Waiting) : Type 0 where
  pub place : exports_place content.table waiting.proposal.file ≡ Some waiting.fs
  pub outcome : IsOutcomeOf newest content waiting.fs waiting.proposal waiting.outcome

-- a proposal is for the exports file of a listed file system
abbrev pub is_for_listed : List Mount → Proposal → Bool
is_for_listed table proposal = is_some (exports_place table proposal.file)

-- Just the proposals for exports files of listed file systems, in their order, each with what is told of it.
pub record AreWaiting (newest : Newest) (content : Content) (proposals : List Proposal) (waiting : List Waiting) : Type 0 where
  pub proposals_are : map (λ one. one.proposal) waiting ≡ filter (is_for_listed content.table) proposals
  pub each : All (IsWaiting newest content) waiting
