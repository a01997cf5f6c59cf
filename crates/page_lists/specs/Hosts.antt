-- The names of hosts that lines write. (this project's own, over exports(5) and hosts(5))
use Rattle.std.specs.Prelude.{◌≡◌, ℕ, ◌==◌, ◌&&◌, ◌||◌, Bool, true, not, Contains, List, [], ◌∷◌, ◌++◌, codes, is_none, length, map, if◌then◌else◌}
use Rattle.std.specs.Cmp.Lexicographic.{slice_cmp}
use Rattle.std.specs.List.{AllPairs}
use Rattle.std.specs.Ordering.{is_lt, nat_cmp}
use Rattle.desk_text.specs.Address.{is_dotted}
use Rattle.desk_text.specs.Bytes.{is_ipv6}
use Rattle.desk_netgroup.specs.GroupLine.{group_named}
use Rattle.desk_netgroup.specs.declared.group_line.GroupLine.{GroupLine}
use Rattle.desk_policy.specs.Policy.{Content}
use Rattle.desk_policy.specs.declared.parsing.SiteTables.{SiteTables}
use Rattle.page_html.specs.Blocks.{tag_html}
use Rattle.page_html.specs.Items.{Item, Number, Words, Own, Code}
use Rattle.page_html.specs.Tables.{Count, Frame, Name, Plain, Told, cells_of, columns_of, rows_html, table_start}
use Rattle.page_html.specs.Titles.{Said}
use Rattle.page_html.specs.declared.blocks.Tag.TheVariants.{TableEnd}
use Rattle.page_lists.specs.NameCells.{stands_for, written_by}
use Rattle.page_lists.specs.NameIndex.{written_names}
use Rattle.page_lists.specs.Tables.{long_end, long_start}
use Rattle.page_lists.specs.Uses.{NameValue, facts_of, facts_value}
use Rattle.page_lists.specs.declared.hosts.HostKind.{HostKind}
use Rattle.page_lists.specs.declared.hosts.HostKind.TheVariants.{Ipv6, Known, Unknown}
use Rattle.page_lists.specs.declared.hosts.HostRow.{HostRow}

-- what the name of a host is
abbrev pub kind : HostKind → Item (List ℕ)
kind Known = Own (Words (codes "of the table hosts"))
kind Ipv6 = Own (Words (codes "of IPv6: nobody"))
kind Unknown = Own (Words (codes "no IPv4 address in the table hosts: nobody"))

-- a row of the table by value: a name, what it is, and what is told of it
pub record RowValue : Type 0 where
  pub name : List ℕ
  pub kind : HostKind
  pub facts : NameValue

-- what a name is that stands for so many addresses
abbrev pub kind_of : List ℕ → ℕ → HostKind
kind_of name addresses = if not (addresses == 0) then Known else if is_ipv6 name then Ipv6 else Unknown

abbrev pub row_value : HostRow → RowValue
row_value row = record {
  name = row.name.now;
  kind = kind_of row.name.now row.facts.addresses;
  facts = facts_value row.facts;
}

-- the table: a name, what it is, for how many addresses, and which, it stands, and the lines that write it
abbrev pub told : List (Told RowValue)
told =
    (Name (codes "Name"), (λ row. Code row.name ∷ []))
    ∷ (Plain (codes "It is"), (λ row. kind row.kind ∷ []))
    ∷ (Count (codes "Addresses"), (λ row. Own (Number row.facts.addresses) ∷ []))
    ∷ (Plain (codes "Stands for"), (λ row. stands_for row.facts.ranges ∷ []))
    ∷ (Plain (codes "Written by"), (λ row. written_by row.facts.uses))
    ∷ []

abbrev pub host_frame : Frame
host_frame = record { class = codes "n"; is_titled = true; columns = columns_of told }

abbrev pub cells : RowValue → List (List (Item (List ℕ)))
cells row = cells_of told row

-- names of hosts, folded if there are more than 24
abbrev pub some_hosts : List HostRow → List ℕ
some_hosts rows =
    long_start 24 (length rows) (codes "name") (codes "names") ++ table_start host_frame (Said (codes "Names of hosts that lines write") ∷ [])
    ++ rows_html host_frame (map (λ row. cells (row_value row)) rows) ++ tag_html TableEnd ++ long_end 24 (length rows)

-- the names, if lines write any
abbrev pub hosts : List HostRow → List ℕ
hosts rows = if length rows == 0 then [] else some_hosts rows

-- a written name is that of a host: not an address, and not a netgroup, for which a text with `:` is never taken
abbrev pub is_host_name : List GroupLine → List ℕ → Bool
is_host_name netgroups name = not (is_dotted name) && (is_ipv6 name || is_none (group_named netgroups name))

-- Just those of these names that are of hosts, in byte order, each once.
pub record AreHostNames (netgroups : List GroupLine) (written names : List (List ℕ)) : Type 0 where
  pub ascending : AllPairs (λ name later. is_lt (slice_cmp nat_cmp name later) ≡ true) names
  pub each : (name : List ℕ) → Contains names name → Contains written name × (is_host_name netgroups name ≡ true)
  pub all : (name : List ℕ) → Contains written name → is_host_name netgroups name ≡ true → Contains names name

-- what is told of the name of a host
abbrev pub row_of : Content → SiteTables → List ℕ → RowValue
row_of content tables name = record {
  name = name;
  kind = kind_of name (facts_of content tables name).addresses;
  facts = facts_of content tables name;
}

-- These are the rows of the names of hosts that lines write, in byte order.
pub record AreHostRows (content : Content) (tables : SiteTables) (rows : List HostRow) : Type 0 where
  pub names : List (List ℕ)
  pub are : AreHostNames tables.netgroups (map (λ one. one.name) (written_names content)) names
  pub rows_are : map row_value rows ≡ map (row_of content tables) names

-- The table of these rows stands behind the text before it.
pub record AddsHosts (content : Content) (tables : SiteTables) (old new : List ℕ) : Type 0 where
  pub rows : List HostRow
  pub are : AreHostRows content tables rows
  pub added : new ≡ old ++ hosts rows
