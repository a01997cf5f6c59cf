-- What the private contracts of wider grants cite.
use Rattle.std.specs.Prelude.{◌≡◌, ℕ, ◌<◌, ◌≤◌, ◌^◌, ◌==◌, ◌||◌, All, Bool, true, false, Contains, List, [], ◌∷◌, Option, Some, None, nat_lt}
use Rattle.std.specs.List.{AllPairs, list_any}
use Rattle.std.specs.BTreeMap.{BTreeMap}
use Rattle.std.specs.BTreeMap as tree
use Rattle.std.specs.Option.{is_some, option_copied}
use Rattle.std.specs.Ordering.{nat_cmp}
use Rattle.desk_text.specs.Address.{number_of}
use Rattle.desk_text.specs.AddrSet.{is_among}
use Rattle.desk_policy.specs.Weights.{name_weight, selected}
use Rattle.desk_policy.specs.declared.row.Row.{Row}
use Rattle.desk_index.specs.Lighter.{IsHeaviestBelow}
use Rattle.desk_index.specs.declared.lighter.Weighed.{Weighed}
use Rattle.desk_who.specs.Starts.{AreStarts}
use Rattle.desk_policy.specs.Policy.{Content}
use Rattle.desk_idle.specs.Idle.{first_selected}
use Rattle.desk_server.specs.WiderGrants.{IsWiderAt, IsWiderGrant, Widens, WidensFirst, first_unwritten}
use Rattle.desk_server.specs.declared.wider_grant.WiderGrant.{WiderGrant}

-- some line widens what is selected at an address
pub record Widened (rows : List Row) (address : ℕ) : Type 0 where
  pub row : Row
  pub weight : ℕ
  pub widens : Widens rows address row weight

-- so it is at an address where this line is the first that is selected
pub record IsWide (rows : List Row) (line address : ℕ) : Type 0 where
  pub first : first_selected rows address ≡ Some line
  pub widened : Widened rows address

-- all lines that widen what is selected at an address are lighter than this
abbrev pub WidenBelow : List Row → ℕ → ℕ → Type 0
WidenBelow rows address below = (row : Row) (own : ℕ) → Widens rows address row own → own < below

-- the heaviest lines below some weight; all lines that widen what is selected at an address are below it, too
pub record AreNext (rows : List Row) (address : ℕ) (group : Weighed) : Type 0 where
  pub below : ℕ
  pub all : WidenBelow rows address below
  pub are : IsHeaviestBelow rows address below group

-- the first of the heaviest lines that widen what is selected at an address, if there is one
abbrev pub IsWidest : List Row → ℕ → Option Row → Type 0
IsWidest rows address None = Widened rows address → ⊥
IsWidest rows address (Some row) = WidensFirst rows address row

-- the other line and the directory are those of an address
pub record IsFoundAt (rows : List Row) (address : ℕ) (found : WiderGrant) : Type 0 where
  pub row : Row
  pub by : WidensFirst rows address row
  pub other : row.entry.line ≡ found.other
  pub directory : option_copied found.directory ≡ first_unwritten (selected rows address) row

-- what a look at an address finds, where this line is the first that is selected
pub record IsSeen (rows : List Row) (line address : ℕ) (found : WiderGrant) : Type 0 where
  pub number : found.line ≡ line
  pub place : number_of found.address ≡ address
  pub at : IsFoundAt rows address found

abbrev pub IsLook : List Row → ℕ → ℕ → Option WiderGrant → Type 0
IsLook rows line address None = Widened rows address → ⊥
IsLook rows line address (Some found) = IsSeen rows line address found

-- the least of some addresses at which a line is the first that is selected and something widens
pub record IsFoundAmong (rows : List Row) (addresses : List ℕ) (line : ℕ) (found : WiderGrant) : Type 0 where
  pub number : found.line ≡ line
  pub is_address : number_of found.address < 2 ^ 32
  pub first : first_selected rows (number_of found.address) ≡ Some line
  pub at : IsFoundAt rows (number_of found.address) found
  pub among : is_among (number_of found.address) addresses ≡ true
  pub least : (address : ℕ) → is_among address addresses ≡ true → IsWide rows line address → number_of found.address ≤ address

-- What is known of a line from looks at some addresses: nothing widens where it is the first that is selected, at none of these
-- addresses or at none at all; or the least of them at which something does.
abbrev pub IsTold : List Row → List ℕ → ℕ → Option (Option WiderGrant) → Type 0
IsTold rows addresses line None = (address : ℕ) → is_among address addresses ≡ true → IsWide rows line address → ⊥
IsTold rows addresses line (Some None) = (address : ℕ) → address < 2 ^ 32 → IsWide rows line address → ⊥
IsTold rows addresses line (Some (Some found)) = IsFoundAmong rows addresses line found

-- so it is with each line
abbrev pub AreTold : List Row → List ℕ → BTreeMap ℕ (Option WiderGrant) → Type 0
AreTold rows addresses known = (line : ℕ) → IsTold rows addresses line (tree.get nat_cmp known line)

-- none of these addresses is above this one
abbrev pub AreUpTo : List ℕ → ℕ → Type 0
AreUpTo addresses address = (other : ℕ) → is_among other addresses ≡ true → other ≤ address

-- it is known from looks at the first address of all, and wherever a line begins or ceases to match
pub record AreAllTold (rows : List Row) (known : BTreeMap ℕ (Option WiderGrant)) : Type 0 where
  pub starts : List ℕ
  pub are : AreStarts rows starts
  pub tell : AreTold rows (0 ∷ starts) known

-- What a look finds is kept. That it finds nothing is kept, too, if the selected lines weigh less than by a name: they are for a
-- network or for everybody, and it finds nothing wherever the first of them is selected.
abbrev pub is_kept : Option WiderGrant → ℕ → Bool
is_kept look weight = is_some look || nat_lt weight name_weight

-- a line's finding, if there is one
abbrev pub IsFinding : Content → ℕ → ℕ → Option WiderGrant → Type 0
IsFinding content fs line None = (address : ℕ) → IsWiderAt content fs line address → ⊥
IsFinding content fs line (Some found) = (found.line ≡ line) × IsWiderGrant content fs found

-- one of these lines has this number
pub record HasLine (lines : List Row) (found : WiderGrant) : Type 0 where
  pub row : Row
  pub has : Contains lines row
  pub number : row.entry.line ≡ found.line

-- just the findings of these lines, in their order
pub record AreWiderAmong (content : Content) (fs : ℕ) (lines : List Row) (found : List WiderGrant) : Type 0 where
  pub each : All (IsWiderGrant content fs) found
  pub own : All (HasLine lines) found
  pub all : (row : Row) (address : ℕ) → Contains lines row → IsWiderAt content fs row.entry.line address → list_any (λ one. one.line == row.entry.line) found ≡ true
  pub ascending : AllPairs (λ one later. one.line < later.line) found

-- a line writes this directory alone, and does not have -alldirs
pub record ListsOnly (dir : List (List ℕ)) (row : Row) : Type 0 where
  pub alldirs : row.entry.alldirs ≡ false
  pub dirs : row.entry.dirs ≡ dir ∷ []

-- all these lines write one directory alone, the same, and none has -alldirs
pub record ListAlike (rows : List Row) : Type 0 where
  pub dir : List (List ℕ)
  pub only : All (ListsOnly dir) rows
