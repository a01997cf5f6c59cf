-- The files of a site, and their newest revisions. (this project's own)
use Rattle.std.specs.Prelude.{◌≡◌, ℕ, Bool, not, List, [], ◌∷◌, ◌++◌, Option, Some, None, codes, length, map, true, if◌then◌else◌}
use Rattle.std.specs.Option.{option_map}
use Rattle.std.specs.String.{string_bytes}
use Rattle.desk_core.specs.Head.{Revision}
use Rattle.desk_core.specs.Judging.{is_known}
use Rattle.desk_core.specs.Listing.{AreHeldFiles, HeldFile, file_of, name_of}
use Rattle.desk_core.specs.Standing.{Standing}
use Rattle.desk_core.specs.declared.head.Head.{Head}
use Rattle.desk_exports.specs.Profile.{profile_number}
use Rattle.desk_policy.specs.SiteFile.{is_of_seven}
use Rattle.desk_tables.specs.declared.filesystems.Mount.{Mount}
use Rattle.page_html.specs.Blocks.{tag_html}
use Rattle.page_html.specs.Items.{Digits, Item, Nothing, Number, Words, Own, Code, Digest}
use Rattle.page_html.specs.Tables.{Count, Frame, Name, Plain, Told, cells_of, columns_of, rows_html, table_start}
use Rattle.page_html.specs.Titles.{Said}
use Rattle.page_html.specs.declared.blocks.Tag.TheVariants.{TableEnd}
use Rattle.page_lists.specs.Digests.{text_digest}
use Rattle.page_lists.specs.Tables.{long_end, long_start, number}
use Rattle.page_lists.specs.declared.files.FileRow.{FileRow}

-- what stands for nothing
abbrev pub dash : Item (List ℕ)
dash = Own (Words (codes "-"))

-- of the newest revision of a file: its number, who wrote it, and who approved it, if somebody did
abbrev pub revision : Option Head → Item (List ℕ)
revision None = dash
revision (Some head) = number head.rev

abbrev pub author : Option Head → Item (List ℕ)
author None = dash
author (Some head) = Code head.author

abbrev pub name_or_dash : Option (List ℕ) → Item (List ℕ)
name_or_dash None = dash
name_or_dash (Some name) = Code name

abbrev pub approver : Option Head → Item (List ℕ)
approver None = dash
approver (Some head) = name_or_dash head.approver

-- by which profile an exports file is read
abbrev pub profile : Option Head → Item (List ℕ)
profile None = dash
profile (Some head) = if is_of_seven head.file then dash else Own (Digits (profile_number head.profile))

-- how many bytes the text has
abbrev pub size : Option Head → Item (List ℕ)
size None = dash
size (Some head) = Own (Number (length head.body))

-- what else is told of it
abbrev pub if_revised : Option Head → Item (List ℕ) → Item (List ℕ)
if_revised None told = dash
if_revised (Some head) told = told

-- what is remarkable of a file: who proposes another text, and that it is the exports file of no file system that is listed
abbrev pub unlisted_or : Bool → List ℕ → List ℕ → Item (List ℕ)
unlisted_or is_unlisted unlisted other = if is_unlisted then Own (Words unlisted) else Own (Words other)

abbrev pub proposed_by : List ℕ → Bool → List (Item (List ℕ))
proposed_by name is_unlisted = Own (Words (codes "proposal by ")) ∷ Code name ∷ unlisted_or is_unlisted (codes ", unlisted") [] ∷ []

abbrev pub remark : Option (List ℕ) → Bool → List (Item (List ℕ))
remark None is_unlisted = unlisted_or is_unlisted (codes "unlisted") (codes "-") ∷ Own Nothing ∷ Own Nothing ∷ []
remark (Some name) is_unlisted = proposed_by name is_unlisted

-- who proposes another text of a file
abbrev pub proposer_of : HeldFile → Option (List ℕ)
proposer_of file = option_map (λ proposal. proposal.author) file.proposal

-- a row of the table by value: a file, its newest revision and the digest of its text, who proposes another text, and whether it is the
-- exports file of no file system that is listed
pub record RowValue : Type 0 where
  pub file : List ℕ
  pub head : Option Revision
  pub digest : List ℕ
  pub proposer : Option (List ℕ)
  pub is_unlisted : Bool

abbrev pub row_value : FileRow → RowValue
row_value row = record {
  file = name_of (file_of row.file);
  head = (file_of row.file).newest;
  digest = string_bytes row.digest;
  proposer = proposer_of (file_of row.file);
  is_unlisted = row.is_unlisted;
}

-- the table: its name, what is told of its newest revision, if it has one, and what is remarkable
abbrev pub told : Option Revision → List (Told RowValue)
told newest =
    (Name (codes "File"), (λ row. Code row.file ∷ []))
    ∷ (Count (codes "Revision"), (λ row. revision newest ∷ []))
    ∷ (Plain (codes "Author"), (λ row. author newest ∷ []))
    ∷ (Plain (codes "Approver"), (λ row. approver newest ∷ []))
    ∷ (Plain (codes "Profile"), (λ row. profile newest ∷ []))
    ∷ (Count (codes "Bytes"), (λ row. size newest ∷ []))
    ∷ (Plain (codes "SHA-256 of the text"), (λ row. if_revised newest (Digest row.digest) ∷ []))
    ∷ (Plain (codes "Remark"), (λ row. remark row.proposer row.is_unlisted))
    ∷ []

abbrev pub frame : Frame
frame = record { class = codes "h"; is_titled = true; columns = columns_of (told None) }

abbrev pub cells : RowValue → List (List (Item (List ℕ)))
cells row = cells_of (told row.head) row

-- the files, folded if there are more than 40
abbrev pub files : List FileRow → List ℕ
files rows =
    long_start 40 (length rows) (codes "file") (codes "files") ++ table_start frame (Said (codes "Files and their newest revisions") ∷ [])
    ++ rows_html frame (map (λ row. cells (row_value row)) rows) ++ tag_html TableEnd ++ long_end 40 (length rows)

-- the digest of the text of the newest revision
abbrev pub newest_digest : Option Revision → List ℕ
newest_digest None = []
newest_digest (Some revision) = text_digest revision.body

-- what is told of a file, where these file systems are listed
abbrev pub row_of : List Mount → HeldFile → RowValue
row_of table file = record {
  file = name_of file;
  head = file.newest;
  digest = newest_digest file.newest;
  proposer = proposer_of file;
  is_unlisted = not (is_known table (name_of file));
}

-- These are the rows of the files that have a revision or a proposal, in their order.
pub record AreFileRows (table : List Mount) (standing : Standing) (rows : List FileRow) : Type 0 where
  pub files : List HeldFile
  pub are : AreHeldFiles standing files
  pub rows_are : map row_value rows ≡ map (row_of table) files

-- The table of these rows stands behind the text before it.
pub record AddsFiles (table : List Mount) (standing : Standing) (old new : List ℕ) : Type 0 where
  pub rows : List FileRow
  pub are : AreFileRows table standing rows
  pub added : new ≡ old ++ files rows
