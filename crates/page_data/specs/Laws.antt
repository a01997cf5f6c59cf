-- What is told of a site, in the words of its addresses. (this project's own)
use Rattle.std.specs.Prelude.{◌≡◌, ◌↔◌, ℕ, ◌+◌, ◌-◌, ◌<◌, ◌≤◌, ◌^◌, Bool, true, All, Contains, List, [], ◌∷◌, Ok, Some, Result, filter, length, map, sum_by}
use Rattle.std.specs.List.{flat_map, list_any}
use Rattle.desk_tables.specs.FileSystems as tables
use Rattle.desk_tables.specs.FileSystems.{fs_of}
use Rattle.desk_policy.specs.Contradiction.{AreConsistent, HasNoContradiction}
use Rattle.desk_policy.specs.Laws.{HaveDirectories}
use Rattle.desk_policy.specs.Listings.{WriteTheirOwn}
use Rattle.desk_policy.specs.Parsing.{read_site}
use Rattle.desk_policy.specs.Policy.{AreAscending, Content, rows_of}
use Rattle.desk_policy.specs.Site.{SiteTexts}
use Rattle.desk_policy.specs.Verdict.{Grant, is_in}
use Rattle.desk_policy.specs.Weights.{selected}
use Rattle.desk_policy.specs.declared.row.Row.{Row}
use Rattle.desk_policy.specs.declared.verdict.Denial.{Denial}
use Rattle.desk_who.specs.Runs.{AreRuns, Run, holds}
use Rattle.desk_idle.specs.Idle.{DecidesNothing}
use Rattle.desk_impact.specs.Places.{Place, place_verdict}
use Rattle.desk_impact.specs.Sections.{PlaceBreaches}
use Rattle.page_data.specs.Class.{class_of_terms}
use Rattle.page_data.specs.Classes.{AreClassesOn, IsMostOn}
use Rattle.page_data.specs.Counts.{AreCounts}
use Rattle.page_data.specs.Grants.{GrantsTo, HoldsOf}
use Rattle.page_data.specs.Groups.{AreGrantedAlike, AreGroups, AreSectionGroups, granted_ranges}
use Rattle.page_data.specs.Rows.{AreRowsOf, ByOrder, RowValue}
use Rattle.page_data.specs.Sections.{AreSections, AreVerdictsAt, path_at}
use Rattle.page_data.specs.Systems.{IsSystem, SystemValue}
use Rattle.page_data.specs.Tables.{AreAlikeThroughout, CanBeTabled, IsTableBy, TableValue, addresses_in, denied_ranges, denies_row, grants_row, row_size}
use Rattle.page_data.specs.Values.{AreRunsOfSome}
use Rattle.page_data.specs.declared.class.Class.{Class}
use Rattle.page_data.specs.declared.class.Class.TheVariants.{Denied}
use Rattle.page_data.specs.declared.counts.Counts.{Counts}

-- There is at most one list of the most that clients may.
abbrev pub ClassesAreUnique : Type 0
ClassesAreUnique =
    (content : Content) (is_here : List (List ℕ) → Bool) (runs other : List (Run Class)) → AreClassesOn content is_here runs → AreClassesOn content is_here other → other ≡ runs

-- lines have numbers of 32 bits
abbrev pub HaveNumbers : List Row → Type 0
HaveNumbers rows = All (λ row. row.entry.line < 2 ^ 32) rows

-- What reading gives the lines of a file system: they write directories of their own file system, each of them at least one, stand in
-- the order of their numbers, which have 32 bits, and do not contradict each other.
pub record IsSound (content : Content) (fs : ℕ) : Type 0 where
  pub own : WriteTheirOwn content
  pub directories : HaveDirectories (rows_of content fs)
  pub ascending : AreAscending (rows_of content fs)
  pub numbers : HaveNumbers (rows_of content fs)
  pub consistent : AreConsistent (rows_of content fs)

-- What reading gives of a site: the mount points of its table ascend, each once, and are at most 256; and the lines of each file
-- system are sound.
pub record IsSoundSite (content : Content) : Type 0 where
  pub ascending : tables.AreAscending content.table
  pub few : length content.table ≤ 256
  pub each : (fs : ℕ) → fs < length content.table → IsSound content fs

-- the class of the terms of the first of these lines
abbrev pub class_of_first : List Row → Class
class_of_first [] = Denied
class_of_first (row ∷ rows) = class_of_terms row.entry.terms

-- The most that a client may on a file system is what the terms of the lines come to that are selected, which all have the same.
abbrev pub MostIsOfSelected : Type 0
MostIsOfSelected =
    (content : Content) (fs address : ℕ) (mount : List (List ℕ)) → IsSound content fs → fs_of content.table mount ≡ Some fs → address < 2 ^ 32
    → IsMostOn content (λ path. is_in (fs_of content.table path) fs) address (class_of_first (selected (rows_of content fs) address))

-- The counts of the classes add up to the size of the range.
abbrev pub CountsAddUp : Type 0
CountsAddUp =
    (class_at : ℕ → Class) (first last : ℕ) (counts : Counts) → AreCounts class_at first last counts
    → counts.denied + counts.read_only + counts.read_write + counts.root_kept ≡ last + 1 - first

-- a range of a row holds an address
abbrev pub row_holds : ℕ → RowValue → Bool
row_holds address row = list_any (holds address) row.ranges

-- One of the rows holds an address, with the address's own verdict, and no other row does.
pub record IsHeldOnce (rows : List RowValue) (address : ℕ) (verdict : Result Grant Denial) : Type 0 where
  pub row : RowValue
  pub listed : Contains rows row
  pub held : row_holds address row ≡ true
  pub own : row.verdict ≡ verdict
  pub only : (other : RowValue) → Contains rows other → row_holds address other ≡ true → other ≡ row

-- The rows of the verdicts at a place hold every address once.
abbrev pub RowsHoldEachAddressOnce : Type 0
RowsHoldEachAddressOnce =
    (verdict_at : ℕ → Result Grant Denial) (ranges : List (Run (Result Grant Denial))) (rows : List RowValue) → AreRuns verdict_at ranges → AreRowsOf ranges rows
    → (address : ℕ) → address < 2 ^ 32 → IsHeldOnce rows address (verdict_at address)

-- a place is in just one of the groups, and with it are just the places that are granted alike
pub record IsGroupedOnce (content : Content) (places : List Place) (groups : List (List Place)) (place : Place) : Type 0 where
  pub group : List Place
  pub listed : Contains groups group
  pub has : Contains group place
  pub only : (other : List Place) → Contains groups other → Contains other place → other ≡ group
  pub alike : (other : Place) → Contains group other ↔ (Contains places other × AreGrantedAlike content place other)

-- Each place is in just one group, together with just the places that are granted alike.
abbrev pub GroupsAreOfAlike : Type 0
GroupsAreOfAlike = (content : Content) (places : List Place) (groups : List (List Place)) → AreGroups content places groups → All (IsGroupedOnce content places groups) places

-- A line decides nothing just if it grants something to no address.
abbrev pub IdleLinesGrantNothing : Type 0
IdleLinesGrantNothing =
    (content : Content) (fs line count : ℕ) → IsSound content fs → HoldsOf (GrantsTo content fs line) count → DecidesNothing content fs line ↔ (count ≡ 0)

-- If places are in groups by their granted ranges, they are in groups of those that are granted alike.
abbrev pub SectionGroupsAreGroups : Type 0
SectionGroupsAreGroups =
    (content : Content) (sections : List PlaceBreaches) (groups : List (List PlaceBreaches)) → All (AreVerdictsAt content) sections → AreSectionGroups sections groups
    → AreGroups content (map (λ section. section.place) sections) (map (map (λ section. section.place)) groups)

-- Sections have the verdicts of all addresses, and those of one place in a table are the same: in each, and in all together.
pub record TellVerdicts (sections : List PlaceBreaches) : Type 0 where
  pub runs : All (λ section. AreRunsOfSome section.ranges) sections
  pub each : All (λ section. ByOrder section.ranges) sections
  pub together : ByOrder (flat_map (λ section. section.ranges) sections)

-- So it is with the places of a file system, since each of its lines has a number of its own.
abbrev pub OrdersTellVerdicts : Type 0
OrdersTellVerdicts =
    (content : Content) (fs : ℕ) (all : List PlaceBreaches) (system : SystemValue) → IsSound content fs → AreSections content all → IsSystem content all fs system
    → TellVerdicts system.sections

-- Groups of such places can be tabled.
abbrev pub GroupsCanBeTabled : Type 0
GroupsCanBeTabled = (sections : List PlaceBreaches) (groups : List (List PlaceBreaches)) → TellVerdicts sections → AreSectionGroups sections groups → All CanBeTabled groups

-- Places of one file system that are granted alike are denied alike, too: a verdict that denies names the first of the lines that are
-- selected for the address, or that there is none, whichever of the places it is on.
abbrev pub AlikePlacesAreDeniedAlike : Type 0
AlikePlacesAreDeniedAlike =
    (content : Content) (fs : ℕ) (place other : Place) → fs_of content.table (path_at place) ≡ Some fs → fs_of content.table (path_at other) ≡ Some fs → AreGrantedAlike content place other
    → (address : ℕ) → address < 2 ^ 32 → place_verdict content other address ≡ place_verdict content place address

-- So the places of each group of a file system have the same verdicts, and the table of the first of them is that of all.
abbrev pub GroupsAreAlikeThroughout : Type 0
GroupsAreAlikeThroughout =
    (content : Content) (fs : ℕ) (all : List PlaceBreaches) (system : SystemValue) (groups : List (List PlaceBreaches)) → AreSections content all → IsSystem content all fs system
    → AreSectionGroups system.sections groups → All AreAlikeThroughout groups

-- A table has as many addresses in the rows that grant as are granted at a place, and in the others as are denied there; these are all
-- addresses.
pub record AddsUpAt (section : PlaceBreaches) (table : TableValue) : Type 0 where
  pub granted : sum_by row_size (filter grants_row table.rows) ≡ addresses_in (granted_ranges section.ranges)
  pub denied : sum_by row_size (filter denies_row table.rows) + table.others ≡ addresses_in (denied_ranges section.ranges)
  pub all : addresses_in (granted_ranges section.ranges) + addresses_in (denied_ranges section.ranges) ≡ 2 ^ 32

-- So it is at each place that is granted alike.
abbrev pub TablesAddUp : Type 0
TablesAddUp =
    (ranges : List (Run (Result Grant Denial))) (table : TableValue) (section : PlaceBreaches) → AreRunsOfSome ranges → AreRunsOfSome section.ranges
    → granted_ranges section.ranges ≡ granted_ranges ranges → IsTableBy ranges table → AddsUpAt section table

-- What has the table and the lines of a policy that a site's texts write is sound, if that does not contradict itself. (What the texts
-- are warned of may differ.)
abbrev pub IsSoundIfRead : Content → Type 0
IsSoundIfRead content =
    (texts : SiteTexts) (policy : Content) → read_site texts ≡ Ok policy → content.table ≡ policy.table → content.rows ≡ policy.rows → HasNoContradiction policy → IsSoundSite content
