-- To how many addresses each line grants something. (this project's own)
use Rattle.std.specs.Prelude.{◌≡◌, ℕ, ◌-◌, ◌<◌, ◌^◌, All, Bool, List, Some, Ok, map}
use Rattle.std.specs.Bool.{Decides}
use Rattle.desk_tables.specs.FileSystems.{fs_of}
use Rattle.desk_policy.specs.Policy.{Content, rows_of}
use Rattle.desk_policy.specs.Verdict.{Grant, verdict_of}
use Rattle.page_data.specs.Counts.{count_within}
use Rattle.page_data.specs.declared.grants.LineGrants.{LineGrants}

-- A line of a file system grants a client something: the verdict on this path of the file system is a grant by that line.
pub record GrantsTo (content : Content) (fs line address : ℕ) : Type 0 where
  pub path : List (List ℕ)
  pub here : fs_of content.table path ≡ Some fs
  pub grant : Grant
  pub granted : verdict_of content address path ≡ Ok grant
  pub by_line : grant.line ≡ line

-- of so many addresses this holds
pub record HoldsOf (P : ℕ → Type 0) (count : ℕ) : Type 0 where
  pub test : ℕ → Bool
  pub decides : (address : ℕ) → address < 2 ^ 32 → Decides (test address) (P address)
  pub are : count ≡ count_within test 0 (2 ^ 32 - 1)

-- to so many addresses a line of the file system grants something
abbrev pub IsCountOf : Content → ℕ → LineGrants → Type 0
IsCountOf content fs one = HoldsOf (GrantsTo content fs one.line) one.count

-- The lines of a file system, in their order, each with the number of addresses to which it grants something.
pub record AreGrants (content : Content) (fs : ℕ) (found : List LineGrants) : Type 0 where
  pub lines : map (λ one. one.line) found ≡ map (λ row. row.entry.line) (rows_of content fs)
  pub counts : All (IsCountOf content fs) found
