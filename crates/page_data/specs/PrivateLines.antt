-- What the private contracts of lines cite.
use Rattle.std.specs.Prelude.{◌≡◌, ℕ, ◌<◌, ◌^◌, ◌==◌, ◌∷◌, [], Bool, true, IsSome, List, Option, Some, None, if◌then◌else◌}
use Rattle.desk_text.specs.Address.{number_of}
use Rattle.desk_text.specs.AddrSet.{is_among}
use Rattle.desk_text.specs.declared.address.Addr.{Addr}
use Rattle.desk_policy.specs.Weights.{weight_of}
use Rattle.desk_policy.specs.declared.row.Row.{Row}
use Rattle.desk_idle.specs.Idle.{MatchesNobody}
use Rattle.page_data.specs.Reasons.{reasons_on}
use Rattle.page_data.specs.declared.reasons.Reason.{Reason}
use Rattle.page_data.specs.declared.reasons.Reason.TheVariants.{NoClient, NeverDecides}

-- why a line stands out, by the number of addresses to which it grants something, and whether it matches nobody
abbrev pub reasons_by : Row → ℕ → Bool → List Reason
reasons_by row count nobody = if count == 0 then (if nobody then NoClient ∷ [] else NeverDecides ∷ []) else reasons_on row count

-- a line matches an address
pub record Matches (row : Row) (address : ℕ) : Type 0 where
  pub is_address : address < 2 ^ 32
  pub matches : IsSome (weight_of row address)

-- the same, if it matches any
abbrev pub IsMatchOf : Row → Option Addr → Type 0
IsMatchOf row None = MatchesNobody row
IsMatchOf row (Some address) = Matches row (number_of address)

-- one of some addresses
pub record IsOneOf (addresses : List ℕ) (address : ℕ) : Type 0 where
  pub is_address : address < 2 ^ 32
  pub among : is_among address addresses ≡ true

-- the same, if there is any
abbrev pub IsFirstOf : List ℕ → Option Addr → Type 0
IsFirstOf addresses None = addresses ≡ []
IsFirstOf addresses (Some address) = IsOneOf addresses (number_of address)
