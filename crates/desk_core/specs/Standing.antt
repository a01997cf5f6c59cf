-- What an edit is judged by, beside the site in force: of each file its newest revision and its proposal. (this project's
-- own)
use Rattle.std.specs.Prelude.{◌≢◌, ℕ, ◌≤◌, List, Option, Some, None, find, if◌then◌else◌}
use Rattle.std.specs.List.{AllPairs}
use Rattle.std.specs.Str.{bytes_eq}
use Rattle.desk_core.specs.Head.{Newest, last_revision, newest_in, put}
use Rattle.desk_core.specs.declared.entry.Entry.{Entry}
use Rattle.desk_core.specs.declared.entry.Entry.TheVariants.{Revised, Proposed}
use Rattle.desk_core.specs.declared.head.Head.{Head}
use Rattle.desk_core.specs.declared.proposal.Proposal.{Proposal}

-- of each file its proposal, if it has one: a text that waits for a second custodian
abbrev pub Proposals : Type 0
Proposals = List ℕ → Option Proposal

-- the proposals that a list gives, one for each file
unfoldable pub proposals_in : List Proposal → Proposals
proposals_in proposals file = find (λ proposal. bytes_eq proposal.file file) proposals

-- the proposals, if this one is that of its file
abbrev pub propose : Proposals → Proposal → Proposals
propose proposals proposal file = if bytes_eq proposal.file file then Some proposal else proposals file

-- the proposals, if this file has none
abbrev pub without : Proposals → List ℕ → Proposals
without proposals gone file = if bytes_eq gone file then None else proposals file

-- no two proposals are of one file
abbrev pub PendOnce : List Proposal → Type 0
PendOnce proposals = AllPairs (λ proposal later. proposal.file ≢ later.file) proposals

-- a proposal that can be kept: it follows a number that a revision may have, or 0
abbrev pub CanBePending : Proposal → Type 0
CanBePending proposal = proposal.base ≤ last_revision

-- how files stand: of each its newest revision, and its proposal
pub record Standing : Type 0 where
  pub newest : Newest
  pub proposals : Proposals

-- how files stand by a list of heads and one of proposals
abbrev pub standing_in : List Head → List Proposal → Standing
standing_in heads proposals = record { newest = newest_in heads; proposals = proposals_in proposals }

-- How files stand once this is stored: a revision is the newest of its file, which then has no proposal; a proposal is
-- that of its file, in place of any other.
abbrev pub with_entry : Standing → Entry → Standing
with_entry standing (Revised revision) = record { newest = put standing.newest revision; proposals = without standing.proposals revision.file }
with_entry standing (Proposed proposal) = record { newest = standing.newest; proposals = propose standing.proposals proposal }
