-- The state of a database. (this project's own)
use Rattle.std.specs.Prelude.{◌≡◌, ℕ, ◌+◌, List, [], ◌++◌, Option, Some, None, codes, if◌then◌else◌}
use Rattle.std.specs.Fmt.{decimal}
use Rattle.std.specs.List.{flat_map}
use Rattle.desk_exports.specs.Profile.{profile_number}
use Rattle.desk_policy.specs.SiteFile.{is_of_seven}
use Rattle.desk_core.specs.Head.{Revision}
use Rattle.desk_core.specs.Listing.{AreHeldFiles, HeldFile}
use Rattle.desk_core.specs.Standing.{Standing}
use Rattle.desk_core.specs.declared.proposal.Proposal.{Proposal}
use Rattle.page_lists.specs.Digests.{text_digest}

-- a file, the number of its revision, and who wrote it
abbrev pub written : List ℕ → ℕ → List ℕ → List ℕ
written file rev author = file ++ codes " rev " ++ decimal rev ++ codes " by " ++ author

-- who approved it, if somebody did
abbrev pub approved_by : List ℕ → List ℕ
approved_by name = codes " approved by " ++ name

abbrev pub approved : Option (List ℕ) → List ℕ
approved None = []
approved (Some name) = approved_by name

-- by which profile an exports file is read; the seven files have none
abbrev pub profile_number_words : ℕ → List ℕ
profile_number_words number = codes " profile " ++ decimal number

abbrev pub profile_words : Revision → List ℕ
profile_words revision = if is_of_seven revision.file then [] else profile_number_words (profile_number revision.profile)

-- the digest of a file's text, and the end of the line
abbrev pub ended : List ℕ → List ℕ
ended digest = codes " " ++ digest ++ codes "\n"

abbrev pub line_end : List ℕ → List ℕ
line_end body = ended (text_digest body)

-- the line of a revision, as `hosts rev 3 by site 9f86..`, and `exports:/a rev 3 by ada approved by bob profile 2 9f86..`
abbrev pub revision_line : Revision → List ℕ
revision_line revision =
    written revision.file revision.rev revision.author ++ approved revision.approver ++ profile_words revision ++ line_end revision.body

abbrev pub newest_line : Option Revision → List ℕ
newest_line None = []
newest_line (Some revision) = revision_line revision

-- the line of a proposal, with the number that it would have, as `exports:/a proposed rev 4 by ada 9f86..`
abbrev pub proposed : List ℕ → ℕ → List ℕ → List ℕ
proposed file rev author = file ++ codes " proposed rev " ++ decimal rev ++ codes " by " ++ author

abbrev pub proposal_line : Proposal → List ℕ
proposal_line proposal = proposed proposal.file (proposal.base + 1) proposal.author ++ line_end proposal.body

abbrev pub pending_line : Option Proposal → List ℕ
pending_line None = []
pending_line (Some proposal) = proposal_line proposal

-- the lines of a file: its newest revision, and its proposal
abbrev pub file_lines : HeldFile → List ℕ
file_lines file = newest_line file.newest ++ pending_line file.proposal

abbrev pub state_text : List HeldFile → List ℕ
state_text files = flat_map file_lines files

-- This is the digest of the lines of the files that have a revision or a proposal, in their order.
pub record IsStateDigest (standing : Standing) (digest : List ℕ) : Type 0 where
  pub files : List HeldFile
  pub are : AreHeldFiles standing files
  pub digest_is : digest ≡ text_digest (state_text files)
