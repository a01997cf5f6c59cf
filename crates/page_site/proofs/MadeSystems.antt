-- The part of the page on a file system is made of blocks.
use Rattle.std.proofs.Common.{ℕ, ◌+◌, ◌==◌, ◌^◌, List, [], ◌∷◌, Bool, Option, Some, None, codes, length, not, refl}
use Rattle.std.specs.Prelude.{nat_le}
use Rattle.std.specs.Str.Lines.{lines}
use Rattle.page_filesystem.specs.Facts as facts
use Rattle.page_filesystem.specs.Findings.{entries, entry, entry_items, findings_list}
use Rattle.page_filesystem.specs.Gutter as gutter
use Rattle.page_filesystem.specs.Outcomes.{outcome_text, refused}
use Rattle.page_filesystem.specs.Parts.{clients_part, file_system, groups_part, head_part, proposal_part, proposal_text, shares_part, text_part, way_back}
use Rattle.page_filesystem.specs.Proposals as proposals
use Rattle.page_filesystem.specs.Sections.{heading}
use Rattle.page_filesystem.specs.Shares as shares
use Rattle.page_filesystem.specs.Texts as texts
use Rattle.page_filesystem.specs.declared.gutter.Note.{Note}
use Rattle.page_filesystem.specs.declared.outcomes.Outcome.{Outcome}
use Rattle.page_filesystem.specs.declared.outcomes.Outcome.TheVariants.{Changes, Refused}
use Rattle.page_filesystem.specs.declared.parts.FileSystemPart.{FileSystemPart}
use Rattle.page_filesystem.specs.declared.parts.ProposalPart.{ProposalPart}
use Rattle.page_filesystem.specs.declared.shares.Share.{Share}
use Rattle.page_findings.specs.FindingWords.{finding_value}
use Rattle.page_findings.specs.declared.finding_words.Finding.{Finding}
use Rattle.page_html.specs.Items.{Code, Own, Words}
use Rattle.page_html.specs.Pages.{LineRow, MarkedRow}
use Rattle.page_html.specs.Titles.{Named, Said}
use Rattle.page_html.specs.declared.blocks.Element.TheVariants as element
use Rattle.page_html.specs.declared.blocks.Tag.TheVariants.{FindingsStart, FoldEnd, ListEnd, ProposalStart, SectionEnd, TableEnd}
use Rattle.page_places.specs.Groups.{groups_text}
use Rattle.page_site.specs.MadeOfBlocks.{IsMadeOfBlocks, IsPicture}
use Rattle.page_site.proofs.Made.{append_made, block_made, each_made, element_made, facts_made, if_made, nothing_made, start_made, system_start_made, table_made, tag_made}
use Rattle.page_site.proofs.MadePlaces.{changes_made, groups_start_made, not_listed_made}
use Rattle.page_html.proofs.Plain.{cells_alone}
use Rattle.page_filesystem.proofs.Plain.{entry_plain, fact_plain, proposed_as_plain, proposed_plain, share_plain, text_plain}

subheading_made : (words : List ℕ) → IsMadeOfBlocks (heading words)
subheading_made words = element_made element.Subheading (Own (Words words) ∷ []) (record { are = refl })

-- ---- facts
-- ---- lines that stand out
finding_entry_made : (finding : Finding) → IsMadeOfBlocks (entry (finding_value finding))
finding_entry_made finding = element_made element.Entry (entry_items (finding_value finding)) (entry_plain (finding_value finding))

entries_made : (findings : List Finding) → IsMadeOfBlocks (entries findings)
unfolding entries
entries_made findings = each_made (λ (finding : Finding). entry (finding_value finding)) finding_entry_made findings

findings_list_made : (findings : List Finding) → IsMadeOfBlocks (findings_list findings)
findings_list_made findings =
    if_made (length findings == 0) nothing_made (append_made (append_made (tag_made FindingsStart) (entries_made findings)) (tag_made ListEnd))

-- ---- proposals
proposal_start_made : (author : List ℕ) (revision : ℕ) (guarded : Bool) → IsMadeOfBlocks (proposals.proposal_start author revision guarded)
proposal_start_made author revision guarded =
    append_made (append_made (tag_made ProposalStart) (subheading_made (codes "A proposal waits")))
    (element_made element.Paragraph (proposals.proposed_as author revision guarded) (proposed_as_plain author revision guarded))

proposed_row_made : (in_force : List (List ℕ)) (number : ℕ) (line : List ℕ) → IsMadeOfBlocks (proposals.proposed_row in_force number line)
proposed_row_made in_force number line =
    block_made (MarkedRow (not (proposals.is_among in_force line)) proposals.frame (proposals.proposed_cells in_force number line))
    (cells_alone IsPicture (proposals.proposed_cells in_force number line) (proposed_plain in_force number line).are)

proposed_rows_made : (in_force : List (List ℕ)) (before : ℕ) (given : List (List ℕ)) → IsMadeOfBlocks (proposals.proposed_rows in_force before given)
proposed_rows_made in_force before [] = nothing_made
proposed_rows_made in_force before (line ∷ others) =
    append_made (proposed_row_made in_force (before + 1) line) (proposed_rows_made in_force (before + 1) others)

proposed_text_made : (name in_force text : List ℕ) → IsMadeOfBlocks (proposals.proposed_text name in_force text)
proposed_text_made name in_force text =
    append_made (append_made
    (start_made proposals.frame (Said (codes "Proposed text of ") ∷ Named name ∷ [])) (proposed_rows_made (lines in_force) 0 (lines text))) (tag_made TableEnd)

outcome_made : (outcome : Outcome) → IsMadeOfBlocks (outcome_text outcome)
outcome_made (Changes rows silent) = changes_made rows.now silent
outcome_made (Refused fault) = element_made element.Paragraph (refused fault.now) (record { are = refl })

proposal_made : (part : FileSystemPart) (proposal : ProposalPart) → IsMadeOfBlocks (proposal_text part proposal)
proposal_made part proposal =
    append_made (append_made (append_made
    (proposal_start_made proposal.author.now proposal.revision part.guarded)
    (proposed_text_made part.name.now part.text.now proposal.text.now))
    (outcome_made proposal.outcome))
    (tag_made SectionEnd)

proposal_part_made : (part : FileSystemPart) (proposal : Option ProposalPart) → IsMadeOfBlocks (proposal_part part proposal)
proposal_part_made part None = nothing_made
proposal_part_made part (Some proposal) = proposal_made part proposal

head_part_made : (part : FileSystemPart) → IsMadeOfBlocks (head_part part)
head_part_made part =
    append_made (append_made (append_made (append_made
    (system_start_made part.fs.0)
    (element_made element.Heading (Code part.name.now ∷ []) (record { are = refl })))
    (facts_made facts.frame (facts.fact_cells part) (fact_plain part)))
    (findings_list_made part.findings.now))
    (proposal_part_made part part.proposal)

-- ---- the text in force
text_row_made : (fs : ℕ) (line : texts.TextLine) → IsMadeOfBlocks (texts.line_row fs line)
text_row_made fs line =
    block_made (LineRow fs line.number (gutter.stands_out (gutter.told_of line.note)) texts.frame (texts.text_cells line))
    (cells_alone IsPicture (texts.text_cells line) (text_plain line).are)

text_rows_made : (fs : ℕ) (notes : List Note) (before : ℕ) (given : List (List ℕ)) → IsMadeOfBlocks (texts.text_rows fs notes before given)
text_rows_made fs notes before [] = nothing_made
text_rows_made fs notes before (line ∷ others) =
    append_made (text_row_made fs (record { number = before + 1; note = gutter.note_on notes (before + 1); text = line }))
    (text_rows_made fs notes (before + 1) others)

lines_made : (fs : ℕ) (name : List ℕ) (notes : List Note) (text : List ℕ) → IsMadeOfBlocks (texts.lines_table fs name notes text)
lines_made fs name notes text =
    append_made (append_made
    (start_made texts.frame (Said (codes "Text of ") ∷ Named name ∷ Said (codes ", and what each line grants") ∷ []))
    (text_rows_made fs notes 0 (lines text)))
    (tag_made TableEnd)

text_table_made : (fs : ℕ) (name : List ℕ) (notes : List Note) (text : List ℕ) → IsMadeOfBlocks (texts.text_table fs name notes text)
text_table_made fs name notes text =
    if_made (length text == 0) (element_made element.Paragraph texts.no_line (record { are = refl })) (lines_made fs name notes text)

text_block_made : (fs : ℕ) (name : List ℕ) (notes : List Note) (text : List ℕ) → IsMadeOfBlocks (texts.text_block fs name notes text)
text_block_made fs name notes text =
    if_made (nat_le (length (lines text)) 40) (text_table_made fs name notes text)
    (append_made (append_made
    (element_made element.Fold (texts.line_number (length (lines text))) (record { are = refl })) (text_table_made fs name notes text)) (tag_made FoldEnd))

text_part_made : (part : FileSystemPart) → IsMadeOfBlocks (text_part part)
text_part_made part =
    append_made (subheading_made (codes "Text in force")) (text_block_made part.fs.0 part.name.now part.notes.now part.text.now)

-- ---- where its clients are
shares_made : (name : List ℕ) (given : List Share) (left_out : ℕ) → IsMadeOfBlocks (shares.shares_block name given left_out)
shares_made name given left_out =
    append_made (append_made (append_made
    (element_made element.OpenFold (Own (Words (codes "The same in numbers")) ∷ []) (record { are = refl }))
    (table_made shares.frame (Said (codes "Addresses that may mount some directory of ") ∷ Named name ∷ []) shares.cells share_plain given))
    (if_made (left_out == 0) nothing_made (element_made element.Cut (shares.networks_cut left_out) (record { are = refl }))))
    (tag_made FoldEnd)

shares_part_made : (part : FileSystemPart) → IsMadeOfBlocks part.maps.now → IsMadeOfBlocks (shares_part part)
shares_part_made part drawn =
    append_made (append_made (subheading_made (codes "Where its clients are")) drawn) (shares_made part.name.now part.shares.now part.networks_left_out)

clients_made : (part : FileSystemPart) → IsMadeOfBlocks part.maps.now → IsMadeOfBlocks (clients_part part)
clients_made part drawn = if_made (part.counts.denied == 2 ^ 32) nothing_made (shares_part_made part drawn)

-- ---- all of it
groups_part_made : (part : FileSystemPart) → IsMadeOfBlocks (groups_text part.fs.0 part.groups.now) → IsMadeOfBlocks (groups_part part)
groups_part_made part groups =
    append_made (append_made (append_made (append_made
    (groups_start_made part.group_count) groups)
    (not_listed_made part.unlisted part.has_unlisted_others))
    (element_made element.Up way_back (record { are = refl })))
    (tag_made SectionEnd)

pub file_system_made : (part : FileSystemPart) → IsMadeOfBlocks part.maps.now → IsMadeOfBlocks (groups_text part.fs.0 part.groups.now) → IsMadeOfBlocks (file_system part)
file_system_made part drawn groups =
    append_made (append_made (append_made (head_part_made part) (text_part_made part)) (clients_made part drawn)) (groups_part_made part groups)
