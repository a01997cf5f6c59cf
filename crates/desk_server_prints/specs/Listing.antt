-- Who may mount a path by the rule of the server, and the first client to whom it grants what is denied here. (this project's own)
use Rattle.std.specs.Prelude.{◌≡◌, ℕ, ◌<◌, ◌^◌, ◌++◌, List, [], Option, None, Some, Result, codes}
use Rattle.desk_text.specs.Address.{addr_text, number_of}
use Rattle.desk_origins.specs.Origins.{line_name}
use Rattle.desk_origins.specs.declared.origins.Origin.{Origin}
use Rattle.desk_policy.specs.Policy.{Content}
use Rattle.desk_policy.specs.Verdict.{Grant, verdict_of}
use Rattle.desk_policy.specs.declared.verdict.Denial.{Denial}
use Rattle.desk_who.specs.Runs.{AreRuns, AreStartsOf, Run}
use Rattle.desk_server.specs.Server.{server_verdict_of}
use Rattle.desk_server_prints.specs.GrantingLine.{wider_line}
use Rattle.desk_server_prints.specs.declared.listing.WiderClient.{WiderClient}

-- The ranges are ascending, leave out no address and hold none twice, give each address the server's verdict for the path, and
-- neighbours have different verdicts.
abbrev pub IsServerWho : Content → List (List ℕ) → List (Run (Result Grant Denial)) → Type 0
IsServerWho content path ranges = AreRuns (λ address. server_verdict_of content address path) ranges

-- ascending addresses, at which alone the verdict on a path changes, and the server's
pub record AreVerdictStarts (content : Content) (path : List (List ℕ)) (starts : List ℕ) : Type 0 where
  pub own : AreStartsOf (λ address. verdict_of content address path) starts
  pub server : AreStartsOf (λ address. server_verdict_of content address path) starts

-- the line by which the server grants a path that is denied here
abbrev pub wider_at : Content → List (List ℕ) → ℕ → Option ℕ
wider_at content path address = wider_line (verdict_of content address path) (server_verdict_of content address path)

-- at the address of a client there is this line, and at no lesser one is there any
pub record IsFirst (line_at : ℕ → Option ℕ) (client : WiderClient) : Type 0 where
  pub here : line_at (number_of client.address) ≡ Some client.line
  pub least : (address : ℕ) → address < number_of client.address → line_at address ≡ None

-- the client with the least address at which there is a line, or none if there is none at any
abbrev pub IsFirstOrNone : (ℕ → Option ℕ) → Option WiderClient → Type 0
IsFirstOrNone line_at None = (address : ℕ) → address < 2 ^ 32 → line_at address ≡ None
IsFirstOrNone line_at (Some client) = IsFirst line_at client

-- mountd grants something to a client
abbrev pub address_text : ℕ → List ℕ
address_text address = codes "exportdesk: mountd(8) grants " ++ addr_text address

-- by which line
abbrev pub line_text : List Origin → ℕ → List ℕ
line_text origins line = codes " this by line " ++ line_name origins line ++ codes ", which is not selected there: --mountd decides by its rule\n"

-- to which client the server grants what is denied here, and by which line, if there is one
abbrev pub first_note : List Origin → Option WiderClient → List ℕ
first_note origins None = []
first_note origins (Some client) = address_text (number_of client.address) ++ line_text origins client.line

-- The client is told with the least address to whom the server grants this path, which is denied to it here.
pub record TellsFirst (content : Content) (path : List (List ℕ)) (note : List ℕ) : Type 0 where
  pub found : Option WiderClient
  pub is : IsFirstOrNone (wider_at content path) found
  pub text : note ≡ first_note content.origins found
