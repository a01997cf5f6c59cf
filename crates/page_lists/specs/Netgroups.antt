-- Netgroups. (this project's own, over netgroup(5))
use Rattle.std.specs.Prelude.{◌≡◌, ℕ, ◌==◌, List, [], ◌∷◌, ◌++◌, Option, Some, None, codes, length, map, true, if◌then◌else◌}
use Rattle.desk_netgroup.specs.GroupLine.{group_named}
use Rattle.desk_netgroup.specs.Walk.{hosts_in_order}
use Rattle.desk_netgroup.specs.declared.group_line.GroupLine.{GroupLine}
use Rattle.desk_netgroup.specs.declared.group_line.Member.{Member}
use Rattle.desk_netgroup.specs.declared.group_line.Member.TheVariants.{Group, Host}
use Rattle.desk_policy.specs.Policy.{Content}
use Rattle.desk_policy.specs.declared.parsing.SiteTables.{SiteTables}
use Rattle.page_html.specs.Blocks.{element_html, tag_html}
use Rattle.page_html.specs.Items.{Item, Number, Word, Words, Own, Code}
use Rattle.page_html.specs.Tables.{Count, Frame, Name, Plain, Told, cells_of, columns_of, rows_html, table_start}
use Rattle.page_html.specs.Titles.{Said}
use Rattle.page_html.specs.declared.blocks.Element.TheVariants.{Paragraph}
use Rattle.page_html.specs.declared.blocks.Tag.TheVariants.{TableEnd}
use Rattle.page_lists.specs.Mentions.{some_or}
use Rattle.page_lists.specs.NameCells.{stands_for, written_by}
use Rattle.page_lists.specs.Tables.{long_end, long_start, number}
use Rattle.page_lists.specs.Uses.{MentionValue, NameValue, OfGroup, OfHost, facts_of, facts_value, mention_value}
use Rattle.page_lists.specs.declared.netgroups.NetgroupRow.{NetgroupRow}

-- the members of a netgroup: 8 at the most, and how many more
abbrev pub members_of : List MentionValue → List (Item (List ℕ))
members_of members = some_or 8 (Own (Words (codes "-"))) members

-- a row of the table by value: a netgroup with its line, its members, how many names of hosts are in it, and what is told of its name
pub record RowValue : Type 0 where
  pub name : List ℕ
  pub line : ℕ
  pub members : List MentionValue
  pub hosts : ℕ
  pub facts : NameValue

abbrev pub row_value : NetgroupRow → RowValue
row_value row = record {
  name = row.group.now.name;
  line = row.group.now.line;
  members = map mention_value row.members.items;
  hosts = row.hosts;
  facts = facts_value row.facts;
}

-- the table: a name, its line and its members; how many names of hosts are in it, and for how many addresses, and which, it stands; and the
-- lines that write it
abbrev pub told : List (Told RowValue)
told =
    (Name (codes "Name"), (λ row. Code row.name ∷ []))
    ∷ (Count (codes "Line"), (λ row. number row.line ∷ []))
    ∷ (Plain (codes "Hosts and groups in it"), (λ row. members_of row.members))
    ∷ (Count (codes "Host names"), (λ row. Own (Number row.hosts) ∷ []))
    ∷ (Count (codes "Addresses"), (λ row. Own (Number row.facts.addresses) ∷ []))
    ∷ (Plain (codes "Stands for"), (λ row. stands_for row.facts.ranges ∷ []))
    ∷ (Plain (codes "Written by"), (λ row. written_by row.facts.uses))
    ∷ []

abbrev pub netgroup_frame : Frame
netgroup_frame = record { class = codes "n"; is_titled = true; columns = columns_of told }

abbrev pub cells : RowValue → List (List (Item (List ℕ)))
cells row = cells_of told row

-- netgroups, folded if there are more than 24
abbrev pub some_netgroups : List NetgroupRow → List ℕ
some_netgroups rows =
    long_start 24 (length rows) (codes "netgroup") (codes "netgroups") ++ table_start netgroup_frame (Said (codes "Netgroups") ∷ [])
    ++ rows_html netgroup_frame (map (λ row. cells (row_value row)) rows) ++ tag_html TableEnd ++ long_end 24 (length rows)

-- the netgroups, if there are any
abbrev pub no_netgroup : List ℕ
no_netgroup = element_html Paragraph (Own (Words (codes "The table ")) ∷ Own (Word (codes "netgroup")) ∷ Own (Words (codes " has none.")) ∷ [])

abbrev pub netgroups : List NetgroupRow → List ℕ
netgroups rows = if length rows == 0 then no_netgroup else some_netgroups rows

abbrev pub member_value : Member → MentionValue
member_value (Host name) = OfHost name
member_value (Group name) = OfGroup name

-- how many names of hosts are in a netgroup, with those of its member groups at any depth, each once
abbrev pub hosts_by : Option GroupLine → List GroupLine → List ℕ → ℕ
hosts_by None netgroups name = 0
hosts_by (Some line) netgroups name = length (hosts_in_order netgroups name)

abbrev pub hosts_in : List GroupLine → List ℕ → ℕ
hosts_in netgroups name = hosts_by (group_named netgroups name) netgroups name

-- what is told of a netgroup
abbrev pub row_of : Content → SiteTables → GroupLine → RowValue
row_of content tables group = record {
  name = group.name;
  line = group.line;
  members = map member_value group.members;
  hosts = hosts_in tables.netgroups group.name;
  facts = facts_of content tables group.name;
}

-- These are the rows of the netgroups, in the order of their lines.
abbrev pub AreNetgroupRows : Content → SiteTables → List NetgroupRow → Type 0
AreNetgroupRows content tables rows = map row_value rows ≡ map (row_of content tables) tables.netgroups

-- The table of these rows stands behind the text before it.
pub record AddsNetgroups (content : Content) (tables : SiteTables) (old new : List ℕ) : Type 0 where
  pub rows : List NetgroupRow
  pub are : AreNetgroupRows content tables rows
  pub added : new ≡ old ++ netgroups rows
