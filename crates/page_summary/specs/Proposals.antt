-- The beginning of what stands out: the proposals by which clients may do more. (this project's own)
use Rattle.std.specs.Prelude.{ℕ, ◌==◌, List, [], ◌∷◌, ◌++◌, codes, length, if◌then◌else◌}
use Rattle.std.specs.List.{flat_map}
use Rattle.desk_tables.specs.declared.filesystems.Mount.{Mount}
use Rattle.page_data.specs.declared.reasons.Level.TheVariants.{LookFirst}
use Rattle.page_html.specs.Blocks.{element_html, tag_html}
use Rattle.page_html.specs.Items.{Code, Item, Own, Plural, System, Words}
use Rattle.page_html.specs.declared.blocks.Element.TheVariants.{Entry, Heading}
use Rattle.page_html.specs.declared.blocks.Tag.TheVariants.{FindingsStart, ListEnd}
use Rattle.page_findings.specs.Badges.{level_item}
use Rattle.page_summary.specs.Files.{name_of}
use Rattle.page_summary.specs.declared.proposals.ProposalRow.{ProposalRow}

-- a proposal for the exports file of a file system: who proposes it, and how many of its changes are such that clients may do more
pub record ProposalValue : Type 0 where
  pub fs : ℕ
  pub author : List ℕ
  pub count : ℕ

abbrev pub proposal_value : ProposalRow → ProposalValue
proposal_value row = record { fs = row.fs.0; author = row.author.now; count = row.count }

-- what is said of it, which is to be looked at first
abbrev pub said : List Mount → ProposalValue → List (Item (List ℕ))
said table row =
    level_item LookFirst ∷ Own (Words (codes " ")) ∷ System row.fs (name_of table row.fs) ∷ Own (Words (codes ": ")) ∷ Code row.author
    ∷ Own (Words (codes " proposes that clients may do more: ")) ∷ Own (Plural row.count (codes "change") (codes "changes")) ∷ []

abbrev pub entry : List Mount → ProposalValue → List ℕ
entry table row = element_html Entry (said table row)

unfoldable pub entries : List Mount → List ProposalValue → List ℕ
entries table rows = flat_map (entry table) rows

-- the list of such proposals, if there are any
abbrev pub list : List Mount → List ProposalValue → List ℕ
list table rows = tag_html FindingsStart ++ entries table rows ++ tag_html ListEnd

abbrev pub list_if_any : List Mount → List ProposalValue → List ℕ
list_if_any table rows = if length rows == 0 then [] else list table rows

-- The heading of what stands out, and the proposals by which clients may do more.
abbrev pub standing_proposals : List Mount → List ProposalValue → List ℕ
standing_proposals table rows = element_html Heading (Own (Words (codes "What stands out")) ∷ []) ++ list_if_any table rows
