-- What the private contracts of repeated cite: the first line that has one of some clients.
use Rattle.std.specs.Prelude.{◌≡◌, ◌⊎◌, ℕ, ◌<◌, ◌≤◌, Bool, true, nat_lt, Contains, List, [], ◌∷◌, Option, Some, None, if◌then◌else◌}
use Rattle.desk_text.specs.Address.{number_of}
use Rattle.desk_policy.specs.Keys.{Everybody, Host, LineKey, Network, has_key, is_everybody, is_host_among, is_network, least_of}
use Rattle.desk_policy.specs.declared.row.Row.{Row}
use Rattle.desk_server.specs.declared.repeated_client.Sharing.{Sharing}

-- this key alone passes
abbrev pub is_key : LineKey → LineKey → Bool
is_key (Host address) key = is_host_among (address ∷ []) key
is_key (Network net) key = is_network net key
is_key Everybody key = is_everybody key

-- a line before this number has a client that passes
pub record HasClient (rows : List Row) (line : ℕ) (passes : LineKey → Bool) (other : Row) (client : LineKey) : Type 0 where
  pub has : Contains rows other
  pub earlier : other.entry.line < line
  pub own : passes client ≡ true
  pub theirs : has_key client other ≡ true

-- the first such line, and the least address of such a client of it
pub record IsFirstSharing (rows : List Row) (line : ℕ) (passes : LineKey → Bool) (found : Sharing) : Type 0 where
  pub other_row : Row
  pub client : LineKey
  pub shares : HasClient rows line passes other_row client
  pub other : other_row.entry.line ≡ found.other
  pub address : least_of client ≡ number_of found.address
  pub least : (another : Row) (theirs : LineKey) → HasClient rows line passes another theirs
      → (found.other < another.entry.line) ⊎ ((found.other ≡ another.entry.line) × (number_of found.address ≤ least_of theirs))

-- the same, if there is one
abbrev pub IsSharing : List Row → ℕ → (LineKey → Bool) → Option Sharing → Type 0
IsSharing rows line passes None = (other : Row) (client : LineKey) → HasClient rows line passes other client → ⊥
IsSharing rows line passes (Some found) = IsFirstSharing rows line passes found

-- the one with the earlier line; of two with one line, the former
abbrev pub earlier_of : Option Sharing → Option Sharing → Option Sharing
earlier_of None other = other
earlier_of (Some found) None = Some found
earlier_of (Some found) (Some other) = if nat_lt other.other found.other then Some other else Some found
