-- What the private contracts cite.
use Rattle.std.specs.Prelude.{◌≡◌, ℕ, ◌-◌, ◌^◌, ◌==◌, ◌<◌, ◌≤◌, ◌&&◌, ◌++◌, ◌∷◌, [], All, Bool, List, Option, Some, None, Result, Ok, Err, filter, length, map, nat_le, slice_get, if◌then◌else◌}
use Rattle.std.specs.BTreeMap as tree
use Rattle.std.specs.Borrow.{Bor}
use Rattle.std.specs.Cmp.Lexicographic.{slice_cmp}
use Rattle.std.specs.List.{AllPairs, flat_map}
use Rattle.std.specs.Option.{option_to_list}
use Rattle.std.specs.Ordering.{nat_cmp, ordering_then}
use Rattle.std.specs.declared.cmp.Ordering.{Ordering}
use Rattle.desk_text.specs.Address.{number_of}
use Rattle.desk_text.specs.Laws.{IsSetOf}
use Rattle.desk_text.specs.Network.{last_of}
use Rattle.desk_text.specs.declared.address.Addr.{Addr}
use Rattle.desk_exports.specs.declared.entry.Clients.{Clients}
use Rattle.desk_exports.specs.declared.entry.Clients.TheVariants.{Hosts, Net, Net6, World}
use Rattle.desk_policy.specs.Keys.{HasBlock}
use Rattle.desk_policy.specs.Verdict.{Grant}
use Rattle.desk_policy.specs.declared.row.Row.{Row}
use Rattle.desk_policy.specs.declared.verdict.Denial.{Denial}
use Rattle.desk_policy.specs.declared.verdict.Denial.TheVariants.{NoFileSystem, NoLine, NotListed}
use Rattle.desk_who.specs.Runs.{Run}
use Rattle.desk_impact.specs.Sections.{PlaceBreaches}
use Rattle.page_data.specs.declared.lines.LineReasons.{LineReasons}
use Rattle.page_findings.specs.Deciding.{never_decides}
use Rattle.page_findings.specs.declared.deciding.NeverDecides.{NeverDecides}
use Rattle.page_findings.specs.declared.lists.Lists.{Lists}

-- each range ends before any later one begins, and none is empty
pub record AreInOrder (ranges : List (Run (Result Grant Denial))) : Type 0 where
  pub apart : AllPairs (λ range later. range.last < later.first) ranges
  pub proper : All (λ range. range.first ≤ range.last) ranges

-- so it is at each place
abbrev pub AllInOrder : List PlaceBreaches → Type 0
AllInOrder sections = All (λ section. AreInOrder section.ranges) sections

-- the line that a verdict names, if it names one
abbrev pub named_line : Result Grant Denial → Option ℕ
named_line (Ok grant) = Some grant.line
named_line (Err NoFileSystem) = None
named_line (Err (NoLine fs)) = None
named_line (Err (NotListed fs line)) = Some line

abbrev pub named_in : Run (Result Grant Denial) → List ℕ
named_in range = option_to_list (named_line range.value)

-- a range has one of the addresses from the first to the last
abbrev pub meets : ℕ → ℕ → Run (Result Grant Denial) → Bool
meets first last range = nat_le first range.last && nat_le range.first last

-- the lines that verdicts name at the addresses from the first to the last: at a place, and at some places
abbrev pub lines_at : ℕ → ℕ → List (Run (Result Grant Denial)) → List ℕ
lines_at first last ranges = flat_map named_in (filter (meets first last) ranges)

abbrev pub lines_between : ℕ → ℕ → List PlaceBreaches → List ℕ
lines_between first last sections = flat_map (λ section. lines_at first last section.ranges) sections

-- at each of these addresses
abbrev pub lines_on : List ℕ → List PlaceBreaches → List ℕ
lines_on addresses sections = flat_map (λ address. lines_between address address sections) addresses

-- at the addresses that a line for these clients matches
abbrev pub lines_for : Clients → List ℕ → List PlaceBreaches → List ℕ
lines_for (Hosts names) addresses sections = lines_on addresses sections
lines_for (Net net noted) addresses sections = lines_between net.first (last_of net) sections
lines_for (Net6 value) addresses sections = []
lines_for World addresses sections = lines_between 0 (2 ^ 32 - 1) sections

-- the order of first and last addresses
abbrev pub key_order : ℕ × ℕ → ℕ × ℕ → Ordering
key_order key other = ordering_then (nat_cmp key.0 other.0) (nat_cmp key.1 other.1)

-- of these numbers the list at a place has each once, in ascending order
pub record HasList (lists : List (List ℕ)) (place : ℕ) (numbers : List ℕ) : Type 0 where
  pub list : List ℕ
  pub there : slice_get lists place ≡ Some list
  pub set : IsSetOf numbers list

-- the order of lent addresses
abbrev pub host_order : Bor (List Addr) → Bor (List Addr) → Ordering
host_order addresses other = slice_cmp (λ a b. nat_cmp (number_of a) (number_of b)) addresses.now other.now

-- each list that is known by its first and last addresses, or by all of its addresses, is that of the lines that verdicts name there
pub record AreKnown (sections : List PlaceBreaches) (lists : Lists) : Type 0 where
  pub networks : (first last place : ℕ) → tree.get key_order lists.networks (first, last) ≡ Some place → HasList lists.lists place (lines_between first last sections)
  pub hosts : (addresses : Bor (List Addr)) (place : ℕ) → tree.get host_order lists.hosts addresses ≡ Some place → HasList lists.lists place (lines_on (map number_of addresses.now) sections)

-- lists as before, and maybe more, of which the one at this place has these numbers
pub record IsMore (sections : List PlaceBreaches) (old new : Lists) (place : ℕ) (numbers : List ℕ) : Type 0 where
  pub known : AreKnown sections new
  pub more : List (List ℕ)
  pub are : new.lists ≡ old.lists ++ more
  pub has : HasList new.lists place numbers

abbrev pub HasMore : List PlaceBreaches → Lists → Lists → ℕ → List ℕ → Type 0
HasMore sections old new place numbers = AreKnown sections old → IsMore sections old new place numbers

-- lists as before, and this one behind them
pub record AddsList (old new : Lists) (place : ℕ) (list : List ℕ) : Type 0 where
  pub place_is : place ≡ length old.lists
  pub are : new.lists ≡ old.lists ++ list ∷ []
  pub networks : new.networks ≡ old.networks
  pub hosts : new.hosts ≡ old.hosts

-- a line that never decides, with a list that has just the lines that verdicts name at the addresses that it matches
pub record IsListed (sections : List PlaceBreaches) (lists : List (List ℕ)) (row : Row) (one : NeverDecides) : Type 0 where
  pub block : HasBlock row.entry.clients
  pub has : HasList lists one.list (lines_for row.entry.clients row.addrs sections)

-- lines as before, and this one, if it never decides
pub record IsWithLine (sections : List PlaceBreaches) (row : Row) (reasons : LineReasons) (old new : Lists) (lines after : List NeverDecides) : Type 0 where
  pub known : AreKnown sections new
  pub more : List (List ℕ)
  pub are : new.lists ≡ old.lists ++ more
  pub added : List NeverDecides
  pub behind : after ≡ lines ++ added
  pub told : map (λ one. one.line) added ≡ (if never_decides reasons.reasons then reasons.line ∷ [] else [])
  pub each : All (IsListed sections new.lists row) added

abbrev pub AddsLine : List PlaceBreaches → Row → LineReasons → Lists → Lists → List NeverDecides → List NeverDecides → Type 0
AddsLine sections row reasons old new lines after = AreKnown sections old → IsWithLine sections row reasons old new lines after

-- lines that never decide, in order
abbrev pub Ascend : List NeverDecides → Type 0
Ascend lines = AllPairs (λ one later. one.line < later.line) lines

abbrev pub is_line : ℕ → NeverDecides → Bool
is_line line one = one.line == line

-- what is there, if it is this line
abbrev pub if_line : ℕ → Option NeverDecides → Option NeverDecides
if_line line None = None
if_line line (Some one) = if is_line line one then Some one else None
