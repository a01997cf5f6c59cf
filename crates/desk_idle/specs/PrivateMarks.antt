-- What the private contracts of marks cite.
use Rattle.std.specs.Prelude.{◌≡◌, ◌↔◌, ℕ, ◌<◌, ◌≤◌, ◌^◌, ◌==◌, ◌++◌, ◌&&◌, ◌||◌, Bool, false, true, Contains, IsSome, List, [], ◌∷◌, Option, None, Some, find}
use Rattle.std.specs.Borrow.{Bor}
use Rattle.std.specs.BTreeMap.{BTreeMap}
use Rattle.std.specs.BTreeMap as tree
use Rattle.std.specs.BTreeSet.{BTreeSet}
use Rattle.std.specs.BTreeSet as sorted
use Rattle.std.specs.Cmp.Lexicographic.{slice_cmp}
use Rattle.std.specs.List.{flat_map, list_any}
use Rattle.std.specs.Option.{is_some, option_map}
use Rattle.std.specs.Ordering.{nat_cmp}
use Rattle.std.specs.declared.cmp.Ordering.{Ordering}
use Rattle.desk_text.specs.Address.{number_of}
use Rattle.desk_text.specs.AddrSet.{is_among}
use Rattle.desk_text.specs.declared.address.Addr.{Addr}
use Rattle.desk_exports.specs.declared.entry.Clients.{Clients}
use Rattle.desk_exports.specs.declared.entry.Clients.TheVariants.{Hosts, Net, Net6, World}
use Rattle.desk_policy.specs.Weights.{selected, weight_of}
use Rattle.desk_policy.specs.declared.row.Row.{Row}
use Rattle.desk_index.specs.Keys.{numbers}
use Rattle.desk_who.specs.Starts.{AreStarts}
use Rattle.desk_idle.specs.Idle.{IsRepeated, MatchesNobody}
use Rattle.desk_idle.specs.Laws.{BringsSomewhere, brings}
use Rattle.desk_idle.specs.declared.marks.Mark.{Mark}

-- A look at a line that is selected at an address, with the first line that is, and whether the line brings something to those that
-- are selected before it.
pub record Look : Type 0 where
  pub line : ℕ
  pub first : ℕ
  pub address : ℕ
  pub brought : Bool

-- a look at each of these lines, behind earlier ones
abbrev pub looks_among : ℕ → ℕ → List Row → List Row → List Look
looks_among first address earlier [] = []
looks_among first address earlier (row ∷ rows) =
    record { line = row.entry.line; first = first; address = address; brought = brings earlier row } ∷ looks_among first address (earlier ++ row ∷ []) rows

-- a look at each of the lines that are selected at an address
abbrev pub looks_by : ℕ → List Row → List Look
looks_by address [] = []
looks_by address (first ∷ others) = looks_among first.entry.line address [] (first ∷ others)

-- the same at each of these addresses
unfoldable pub looks_at : List Row → List ℕ → List Look
looks_at rows addresses = flat_map (λ address. looks_by address (selected rows address)) addresses

abbrev pub is_of : ℕ → Look → Bool
is_of line look = look.line == line

abbrev pub brings_of : ℕ → Look → Bool
brings_of line look = look.line == line && look.brought

-- what looks tell of a line: whether it brings something, and where it was looked at first
unfoldable pub mark_of : List Look → ℕ → Option Mark
mark_of looks line = option_map (λ look. record { decides = list_any (brings_of line) looks; first = look.first; address = look.address }) (find (is_of line) looks)

-- what is known of a line with one more look at it
abbrev pub with_look : Option Mark → Look → Mark
with_look None look = record { decides = look.brought; first = look.first; address = look.address }
with_look (Some mark) look = record { decides = mark.decides || look.brought; first = mark.first; address = mark.address }

-- marks tell of each line what looks tell
abbrev pub AreMarks : List Look → BTreeMap ℕ Mark → Type 0
AreMarks looks marks = (line : ℕ) → tree.get nat_cmp marks line ≡ mark_of looks line

-- marks tell what there is to see at the first address of all, and wherever a line begins or ceases to match
pub record AreAllMarks (rows : List Row) (marks : BTreeMap ℕ Mark) : Type 0 where
  pub starts : List ℕ
  pub are : AreStarts rows starts
  pub below : (start : ℕ) → is_among start starts ≡ true → start < 2 ^ 32
  pub tell : AreMarks (looks_at rows (0 ∷ starts)) marks

-- the order of lent lists of lines
abbrev pub order_of_lines : Bor (List ℕ) → Bor (List ℕ) → Ordering
order_of_lines lines other = slice_cmp nat_cmp lines.now other.now

-- the lines of these numbers are those that are selected at one of these addresses
pub record AreSelected (rows : List Row) (addresses lines : List ℕ) : Type 0 where
  pub address : ℕ
  pub among : is_among address addresses ≡ true
  pub are : lines ≡ numbers (selected rows address)

-- All lines that are selected at these addresses were looked at: marks tell what there is to see, and lists have only lines that are
-- selected together there.
pub record HaveLooked (rows : List Row) (addresses : List ℕ) (marks : BTreeMap ℕ Mark) (lists : BTreeSet (Bor (List ℕ))) : Type 0 where
  pub below : (address : ℕ) → is_among address addresses ≡ true → address < 2 ^ 32
  pub tell : AreMarks (looks_at rows addresses) marks
  pub known : (lines : Bor (List ℕ)) → sorted.contains order_of_lines lists lines ≡ true → AreSelected rows addresses lines.now

-- a line for a network, or for everybody, has one key
abbrev pub has_one_key : Clients → Bool
has_one_key (Hosts names) = false
has_one_key (Net net noted) = true
has_one_key (Net6 value) = false
has_one_key World = true

-- the lines under the one key of the first of these were looked at
abbrev pub are_known : BTreeMap ℕ Mark → List Row → Bool
are_known marks [] = false
are_known marks (first ∷ others) = has_one_key first.entry.clients && is_some (tree.get nat_cmp marks first.entry.line)

-- whether a line decides, by what is known of it
abbrev pub decides : Option Mark → Bool
decides None = false
decides (Some mark) = mark.decides

-- a line is selected somewhere: whether it brings something somewhere, and where it is selected first
pub record IsSelected (rows : List Row) (row : Row) (mark : Mark) : Type 0 where
  pub decides : (mark.decides ≡ true) ↔ BringsSomewhere rows row
  pub least : IsRepeated rows row mark.first mark.address

-- what is known of a line: nothing if it is selected nowhere
abbrev pub IsKnown : List Row → Row → Option Mark → Type 0
IsKnown rows row None = (address : ℕ) → address < 2 ^ 32 → Contains (selected rows address) row → ⊥
IsKnown rows row (Some mark) = IsSelected rows row mark

-- the least of some addresses, if there is one
pub record IsLeastOf (addresses : List ℕ) (address : ℕ) : Type 0 where
  pub is_address : address < 2 ^ 32
  pub among : is_among address addresses ≡ true
  pub least : (other : ℕ) → is_among other addresses ≡ true → address ≤ other

abbrev pub IsLeastAmong : List ℕ → Option Addr → Type 0
IsLeastAmong addresses None = addresses ≡ []
IsLeastAmong addresses (Some address) = IsLeastOf addresses (number_of address)

-- the least address that a line matches
pub record MatchesFirst (row : Row) (address : ℕ) : Type 0 where
  pub is_address : address < 2 ^ 32
  pub matches : IsSome (weight_of row address)
  pub least : (other : ℕ) → IsSome (weight_of row other) → address ≤ other

-- the same, if there is one
abbrev pub IsLeastMatch : Row → Option Addr → Type 0
IsLeastMatch row None = MatchesNobody row
IsLeastMatch row (Some address) = MatchesFirst row (number_of address)
