-- What the private contracts of the listing cite.
use Rattle.std.specs.Prelude.{◌≡◌, ℕ, ◌<◌, ◌^◌, List, Option, None, Some, get_or, length}
use Rattle.desk_text.specs.Address.{number_of}
use Rattle.desk_server_prints.specs.declared.listing.WiderClient.{WiderClient}

-- a client with the line at its address, if there is one
pub record IsClientAt (line : Option ℕ) (address : ℕ) (client : WiderClient) : Type 0 where
  pub fits : number_of client.address < 2 ^ 32
  pub place : number_of client.address ≡ address
  pub line_is : line ≡ Some client.line

abbrev pub IsFoundAt : Option ℕ → ℕ → Option WiderClient → Type 0
IsFoundAt line address None = line ≡ None
IsFoundAt line address (Some client) = IsClientAt line address client

-- the first of these addresses at which there is a line
pub record IsFirstAt (line_at : ℕ → Option ℕ) (addresses : List ℕ) (client : WiderClient) : Type 0 where
  pub place : ℕ
  pub within : place < length addresses
  pub fits : number_of client.address < 2 ^ 32
  pub address : number_of client.address ≡ get_or addresses place 0
  pub here : line_at (number_of client.address) ≡ Some client.line
  pub earlier : (other : ℕ) → other < place → line_at (get_or addresses other 0) ≡ None

-- it, or none if there is a line at none of them
abbrev pub IsFirstOf : (ℕ → Option ℕ) → List ℕ → Option WiderClient → Type 0
IsFirstOf line_at addresses None = (place : ℕ) → place < length addresses → line_at (get_or addresses place 0) ≡ None
IsFirstOf line_at addresses (Some client) = IsFirstAt line_at addresses client
