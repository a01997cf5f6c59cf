-- What the private contracts of what the server does cite.
use Rattle.std.specs.Prelude.{ℕ, ◌<◌, ◌==◌, List, find}
use Rattle.std.specs.List.{AllPairs}
use Rattle.desk_server.specs.declared.repeated_client.RepeatedClient.{RepeatedClient}
use Rattle.desk_server.specs.declared.wider_grant.WiderGrant.{WiderGrant}
use Rattle.page_data.specs.Server.{server_reasons}
use Rattle.page_data.specs.declared.reasons.Reason.{Reason}
use Rattle.page_data.specs.declared.server.ServerFindings.{ServerFindings}

-- findings in the order of their lines
abbrev pub WiderAscend : List WiderGrant → Type 0
WiderAscend found = AllPairs (λ one later. one.line < later.line) found

abbrev pub RepeatedAscend : List RepeatedClient → Type 0
RepeatedAscend found = AllPairs (λ one later. one.line < later.line) found

-- the findings of a line, as reasons
abbrev pub reasons_in : ServerFindings → ℕ → List Reason
reasons_in found line = server_reasons (find (λ one. one.line == line) found.wider) (find (λ one. one.line == line) found.repeated)
