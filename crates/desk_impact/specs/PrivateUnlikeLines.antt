-- What the private contracts on the lines that only one of two policies has cite.
use Rattle.std.specs.Prelude.{◌≡◌, ℕ, ◌++◌, not, is_none, List, [], ◌∷◌, None, Some, filter}
use Rattle.std.specs.List.{AllByRecursion}
use Rattle.desk_tables.specs.FileSystems.{fs_of}
use Rattle.desk_policy.specs.Policy.{Content}
use Rattle.desk_policy.specs.Weights.{weight_of}
use Rattle.desk_policy.specs.declared.row.Row.{Row}
use Rattle.desk_who.specs.MostlySame.{AreStartsWithin}
use Rattle.desk_impact.specs.Impact.{mount_at}

-- none of the lines matches an address
abbrev pub NoneMatches : List Row → ℕ → Type 0
NoneMatches rows address = AllByRecursion (λ row. weight_of row address ≡ None) rows

-- the lines that match an address
abbrev pub matching : ℕ → List Row → List Row
matching address rows = filter (λ row. not (is_none (weight_of row address))) rows

-- Of two lists the same lines match each address that no unlike line matches.
abbrev pub AreUnlike : List Row → List Row → List Row → Type 0
AreUnlike old new unlike = (address : ℕ) → NoneMatches unlike address → matching address old ≡ matching address new

-- There are more unlike lines than before, and at each address that none of them matches, those of the rest that match are those
-- of this line and of the ones that are left.
pub record IsPast (row : Row) (rest left old new : List Row) : Type 0 where
  pub before : (address : ℕ) → NoneMatches new address → NoneMatches old address
  pub same : (address : ℕ) → NoneMatches new address → matching address (row ∷ []) ++ matching address left ≡ matching address rest

-- the addresses at which unlike lines of two lists begin or cease to match, and those of the starts at which one of them matches
pub record AreStartsOfUnlike (old new : List Row) (starts decided : List ℕ) : Type 0 where
  pub unlike : List Row
  pub are : AreUnlike old new unlike
  pub within : AreStartsWithin starts unlike decided

-- the file systems of a path in two policies, which have one mount point
pub record AreHomes (before after : Content) (path : List (List ℕ)) (old new : ℕ) : Type 0 where
  pub own : fs_of before.table path ≡ Some old
  pub other : fs_of after.table path ≡ Some new
  pub mount : mount_at after new ≡ mount_at before old
