-- What the private contracts of searching cite.
use Rattle.std.specs.Prelude.{◌≡◌, ℕ, true, false, List, Option}
use Rattle.desk_text.specs.AddrSet.{is_among}
use Rattle.desk_text.specs.declared.address.Addr.{Addr}
use Rattle.desk_policy.specs.declared.row.Row.{Row}
use Rattle.desk_who.specs.Searching.{IsSilent}
use Rattle.desk_who.specs.Starts.{AreStarts}

-- Of the addresses at which lines begin or cease to match these are left. At each other one nothing is found.
pub record AreSought {T : Type 0} (found : Addr → List (List ℕ) → Option T → Type 0) (turns : List ℕ) (rows : List Row) (sought : List ℕ) : Type 0 where
  pub starts : List ℕ
  pub are : AreStarts rows starts
  pub behind : is_among 0 sought ≡ false
  pub silent : (address : ℕ) → is_among address starts ≡ true → is_among address sought ≡ false → IsSilent found turns address
