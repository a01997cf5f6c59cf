-- Lines with a client of an earlier line: mountd(8) takes one line for a client and a file system. Clients of IPv4 alone are looked
-- at. (exports(5), mountd(8))
use Rattle.std.specs.Prelude.{◌≡◌, ◌⊎◌, ℕ, ◌<◌, ◌≤◌, ◌==◌, ◌++◌, All, Bool, true, false, Contains, List, [], ◌∷◌, map, if◌then◌else◌}
use Rattle.std.specs.List.{AllPairs, list_any}
use Rattle.desk_text.specs.Address.{number_of}
use Rattle.desk_exports.specs.declared.entry.Clients.{Clients}
use Rattle.desk_exports.specs.declared.entry.Clients.TheVariants as clients
use Rattle.desk_policy.specs.Keys.{Everybody, Host, LineKey, Network, has_key, least_of}
use Rattle.desk_policy.specs.Policy.{Content}
use Rattle.desk_policy.specs.declared.row.Row.{Row}
use Rattle.desk_server.specs.declared.repeated_client.RepeatedClient.{RepeatedClient}

-- Another line has one of these clients: one of the addresses of their names, their network, or everybody.
abbrev pub has_client_of : Clients → List ℕ → Row → Bool
has_client_of (clients.Hosts names) addresses other = list_any (λ address. has_key (Host address) other) addresses
has_client_of (clients.Net net noted) addresses other = has_key (Network net) other
has_client_of (clients.Net6 value) addresses other = false
has_client_of clients.World addresses other = has_key Everybody other

-- two lines have a client in common
abbrev pub shares_client : Row → Row → Bool
shares_client row other = has_client_of row.entry.clients row.addrs other

-- The lines that mountd puts in force, of lines that come in this order, behind those that it has in force: it leaves a line out, as a
-- whole, that has a client of a line in force. (So its list of mounts has them. Which of the clients of a line that is left out the
-- kernel has by then, is not said here.)
abbrev pub loaded_behind : List Row → List Row → List Row
loaded_behind before [] = []
loaded_behind before (row ∷ rows) =
    if list_any (shares_client row) before then loaded_behind before rows else row ∷ loaded_behind (before ++ row ∷ []) rows

abbrev pub loaded : List Row → List Row
loaded rows = loaded_behind [] rows

-- the policy of the lines that mountd puts in force, file system by file system
abbrev pub loaded_content : Content → Content
loaded_content content = record { table = content.table; rows = map loaded content.rows; warnings = content.warnings; origins = content.origins }

-- an earlier line has this client of a line
pub record SharesClient (rows : List Row) (row other : Row) (client : LineKey) : Type 0 where
  pub has : Contains rows other
  pub earlier : other.entry.line < row.entry.line
  pub own : has_key client row ≡ true
  pub theirs : has_key client other ≡ true

-- A line has a client of an earlier line. The other line is the first such, and the address is the least of the clients that both
-- have: of a network it is the first, of everybody 0.0.0.0.
pub record IsRepeatedClient (rows : List Row) (found : RepeatedClient) : Type 0 where
  pub row : Row
  pub has : Contains rows row
  pub line : row.entry.line ≡ found.line
  pub other_row : Row
  pub client : LineKey
  pub shares : SharesClient rows row other_row client
  pub other : other_row.entry.line ≡ found.other
  pub address : least_of client ≡ number_of found.address
  pub least : (another : Row) (theirs : LineKey) → SharesClient rows row another theirs
      → (found.other < another.entry.line) ⊎ ((found.other ≡ another.entry.line) × (number_of found.address ≤ least_of theirs))

-- just the lines that have a client of an earlier line, in their order: among them each that mountd leaves out
pub record AreRepeatedClients (rows : List Row) (found : List RepeatedClient) : Type 0 where
  pub each : All (IsRepeatedClient rows) found
  pub all : (row other : Row) (client : LineKey) → Contains rows row → SharesClient rows row other client → list_any (λ one. one.line == row.entry.line) found ≡ true
  pub ascending : AllPairs (λ one later. one.line < later.line) found
