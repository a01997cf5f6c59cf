-- What the private contracts of `calls` cite.
use Rattle.std.specs.Prelude.{◌≡◌, None, Option, Some}
use Rattle.desk_service.specs.Questions.{question_of}
use Rattle.desk_http_requests.specs.Calls.{Asks, Query}
use Rattle.desk_http_requests.specs.declared.calls.Call.{Call}
use Rattle.desk_http_requests.specs.declared.calls.Call.TheVariants as made
use Rattle.desk_http_requests.specs.declared.faults.RequestFault.TheVariants.{BadQuery}

-- the call by what a query asks: its question, with the client's credential; or that it cannot be read
abbrev pub AsksFor : Option Query → Call → Type 0
AsksFor None call = call ≡ made.Refused BadQuery
AsksFor (Some (Asks question own)) (made.Asks lent told) = (question_of lent ≡ question) × (told ≡ own)
AsksFor query call = ⊥
