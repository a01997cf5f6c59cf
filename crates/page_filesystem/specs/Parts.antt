-- The part of the page that tells of one file system, given its maps as HTML. (this project's own)
use Rattle.std.specs.Prelude.{◌≡◌, ℕ, ◌+◌, ◌<◌, ◌==◌, ◌^◌, All, IfSome, List, [], ◌∷◌, ◌++◌, Option, Some, None, codes, if◌then◌else◌}
use Rattle.std.specs.List.{AllPairs}
use Rattle.desk_text.specs.Lines.{IsReadable}
use Rattle.page_html.specs.Blocks.{element_html, system_start, tag_html}
use Rattle.page_html.specs.Items.{Code, Item, Link, Own}
use Rattle.page_html.specs.declared.blocks.Element.TheVariants.{Heading, Up}
use Rattle.page_html.specs.declared.blocks.Tag.TheVariants.{SectionEnd}
use Rattle.page_filesystem.specs.Facts.{facts}
use Rattle.page_filesystem.specs.Findings.{findings_list}
use Rattle.page_places.specs.Groups.{HasToldSizes, groups_text}
use Rattle.page_filesystem.specs.Outcomes.{outcome_text}
use Rattle.page_filesystem.specs.Proposals.{proposal_start, proposed_text}
use Rattle.page_places.specs.Lists.{groups_start, not_listed}
use Rattle.page_filesystem.specs.Sections.{heading}
use Rattle.page_filesystem.specs.Shares.{HasSize, shares_block}
use Rattle.page_filesystem.specs.Texts.{text_block}
use Rattle.page_filesystem.specs.declared.parts.FileSystemPart.{FileSystemPart}
use Rattle.page_filesystem.specs.declared.parts.ProposalPart.{ProposalPart}

-- the text of a proposal is not too long to be read
abbrev pub IsReadableProposal : ProposalPart → Type 0
IsReadableProposal proposal = IsReadable proposal.text.now

-- The texts are not too long to be read, the notes stand in the order of the lines, and no number of addresses is more than there are.
pub record IsTellable (part : FileSystemPart) : Type 0 where
  pub readable : IsReadable part.text.now
  pub proposal : IfSome part.proposal IsReadableProposal
  pub notes : AllPairs (λ note later. note.line < later.line) part.notes.now
  pub counts : part.counts.denied + part.counts.read_only + part.counts.read_write + part.counts.root_kept ≡ 2 ^ 32
  pub shares : All HasSize part.shares.now
  pub groups : All HasToldSizes part.groups.now

-- a proposal
abbrev pub proposal_text : FileSystemPart → ProposalPart → List ℕ
proposal_text part proposal =
    proposal_start proposal.author.now proposal.revision part.guarded ++ proposed_text part.name.now part.text.now proposal.text.now
    ++ outcome_text proposal.outcome ++ tag_html SectionEnd

abbrev pub proposal_part : FileSystemPart → Option ProposalPart → List ℕ
proposal_part part None = []
proposal_part part (Some proposal) = proposal_text part proposal

-- the name and the facts, what stands out, and what waits
abbrev pub head_part : FileSystemPart → List ℕ
head_part part =
    system_start part.fs.0 ++ element_html Heading (Code part.name.now ∷ [])
    ++ facts part ++ findings_list part.findings.now ++ proposal_part part part.proposal

-- the text in force
abbrev pub text_part : FileSystemPart → List ℕ
text_part part = heading (codes "Text in force") ++ text_block part.fs.0 part.name.now part.notes.now part.text.now

abbrev pub shares_part : FileSystemPart → List ℕ
shares_part part =
    heading (codes "Where its clients are") ++ part.maps.now ++ shares_block part.name.now part.shares.now part.networks_left_out

-- where the clients are, if some address may mount something
abbrev pub clients_part : FileSystemPart → List ℕ
clients_part part = if part.counts.denied == 2 ^ 32 then [] else shares_part part

-- the way back to all file systems
abbrev pub way_back : List (Item (List ℕ))
way_back = Own (Link (codes "systems") (codes "All file systems")) ∷ []

-- who may mount which directory, and the end
abbrev pub groups_part : FileSystemPart → List ℕ
groups_part part =
    groups_start part.group_count ++ groups_text part.fs.0 part.groups.now ++ not_listed part.unlisted part.has_unlisted_others
    ++ element_html Up way_back ++ tag_html SectionEnd

-- What is told of a file system.
abbrev pub file_system : FileSystemPart → List ℕ
file_system part = head_part part ++ text_part part ++ clients_part part ++ groups_part part
