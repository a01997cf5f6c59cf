-- What a request calls for, or why it calls for nothing. (this project's own)
use Rattle.std.specs.Prelude.{◌≡◌, ℕ, ◌≤◌, ◌&&◌, ◌||◌, Bool, true, false, not, List, [], ◌∷◌, codes, find, is_none, Option, Some, None, Result, Ok, Err, option_and_then, if◌then◌else◌}
use Rattle.std.specs.List.{list_any, list_all}
use Rattle.std.specs.Option.{option_map}
use Rattle.std.specs.Str.{bytes_eq, is_utf8}
use Rattle.desk_text.specs.Address.{read_addr}
use Rattle.desk_text.specs.Bytes.{read_decimal}
use Rattle.desk_text.specs.Path.{read_path}
use Rattle.desk_tables.specs.Credentials.{at_most_16}
use Rattle.desk_tables.specs.declared.credentials.Cred.{Cred}
use Rattle.desk_core.specs.Edit.{Edit, asked}
use Rattle.desk_core.specs.Head.{last_revision}
use Rattle.desk_service.specs.Questions.{Listing, Mount, OfFile, Question, Text, Who, question_of}
use Rattle.desk_http_messages.specs.Asked.{Asked}
use Rattle.desk_http_messages.specs.Head.{Header, header_values}
use Rattle.desk_http_requests.specs.Parameters.{Parameter, at_most_one, each_read, one, parameters_of, values_of}
use Rattle.desk_http_requests.specs.Routes.{Action, action_of_place, place_of}
use Rattle.desk_http_requests.specs.Target.{path_of, query_of}
use Rattle.desk_http_requests.specs.declared.calls.Call.{Call as Made}
use Rattle.desk_http_requests.specs.declared.calls.Call.TheVariants as made
use Rattle.desk_http_requests.specs.declared.routes.Purpose.{Purpose}
use Rattle.desk_http_requests.specs.declared.routes.Purpose.TheVariants.{Ask, Put}
use Rattle.desk_http_requests.specs.declared.routes.Reader.{Reader}
use Rattle.desk_http_requests.specs.declared.routes.Reader.TheVariants as reader
use Rattle.desk_http_requests.specs.declared.faults.RequestFault.{RequestFault}
use Rattle.desk_http_requests.specs.declared.faults.RequestFault.TheVariants as fault

-- what the query says: a question, and the client's credential, if that is told; or the file and the base of an edit
pub data Query : Type 0 where
  Asks : Question → Option Cred → Query
  Puts : List ℕ → ℕ → Query

-- the value of a reading, if it is not refused
abbrev pub if_ok : {A E : Type 0} → Result A E → Option A
if_ok (Ok a) = Some a
if_ok (Err e) = None

-- the largest user or group number
abbrev pub largest_id : ℕ
largest_id = 4294967295

-- the only value of a parameter
abbrev pub one_of : List ℕ → List Parameter → Option (List ℕ)
one_of name parameters = one (values_of name parameters)

-- a uid, and the gids with it: none without a uid
abbrev pub cred_in : Option ℕ → List ℕ → Option (Option Cred)
cred_in (Some uid) gids = Some (Some (record { uid = uid; gids = gids }))
cred_in None [] = Some None
cred_in None (gid ∷ gids) = None

-- the gids that a query tells, at most sixteen
abbrev pub gids_in : List Parameter → Option (List ℕ)
gids_in parameters = option_and_then at_most_16 (each_read (read_decimal largest_id) (values_of (codes "gid") parameters))

-- the credential that a query tells, if it tells one
abbrev pub credential_in : List Parameter → Option (Option Cred)
credential_in parameters =
    option_and_then (λ uid. option_and_then (cred_in uid) (gids_in parameters)) (at_most_one (read_decimal largest_id) (values_of (codes "uid") parameters))

-- the address that a query tells
abbrev pub address_in : List Parameter → Option ℕ
address_in parameters = option_and_then (λ text. if_ok (read_addr text)) (one_of (codes "host") parameters)

-- the path that a query tells
abbrev pub path_in : List Parameter → Option (List (List ℕ))
path_in parameters = option_and_then (λ text. if_ok (read_path text)) (one_of (codes "dir") parameters)

-- each parameter has one of these names
abbrev pub are_named : List (List ℕ) → List Parameter → Bool
are_named names parameters = list_all (λ p. list_any (bytes_eq p.0) names) parameters

-- the file that a query names, and the revision of it, if it tells one
abbrev pub text_in : List Parameter → Option Question
text_in parameters =
    option_and_then (λ name. option_map (Text name) (at_most_one (read_decimal last_revision) (values_of (codes "rev") parameters))) (one_of (codes "name") parameters)

-- the question that parameters say to a reader, if each is there as often as it may, and can be read
abbrev pub question_in : Reader → List Parameter → Option Question
question_in reader.Mount parameters = option_and_then (λ address. option_map (Mount address) (path_in parameters)) (address_in parameters)
question_in reader.Listing parameters = option_map Listing (address_in parameters)
question_in reader.Text parameters = text_in parameters
question_in (reader.OfFile what) parameters = option_map (λ name. OfFile name what) (one_of (codes "name") parameters)
question_in reader.Who parameters = option_map Who (path_in parameters)

-- the same, with the client's credential, if that is told
abbrev pub asked_in : Reader → List Parameter → Option Query
asked_in reader parameters = option_and_then (λ question. option_map (Asks question) (credential_in parameters)) (question_in reader parameters)

-- the number of the revision that an edit follows, 0 if it is the first
abbrev pub base_in : List Parameter → Option ℕ
base_in parameters = option_and_then (read_decimal last_revision) (one_of (codes "base") parameters)

-- the file that the query of an edit names, and its base
abbrev pub put_in : List Parameter → Option Query
put_in parameters = option_and_then (λ name. option_map (Puts name) (base_in parameters)) (one_of (codes "name") parameters)

-- what parameters say for this purpose
abbrev pub query_read : Purpose → List Parameter → Option Query
query_read (Ask reader) parameters = asked_in reader parameters
query_read Put parameters = put_in parameters

-- the same, if no parameter has another name than those of the action
abbrev pub query_for : Action → List Parameter → Option Query
query_for action parameters = if are_named action.names parameters then query_read action.purpose parameters else None

-- what a request does, by its path and method
abbrev pub action_of : Asked → Option Action
action_of asked = option_and_then (action_of_place asked.method) (place_of (path_of asked.target))

-- what a request asks
abbrev pub query_asked : Asked → Option Query
query_asked asked = option_and_then (λ action. query_for action (parameters_of (query_of asked.target))) (action_of asked)

-- a value, if it is UTF-8
abbrev pub utf8_text : List ℕ → Option (List ℕ)
utf8_text value = if is_utf8 value then Some value else None

-- the only value of a header of this name, if it is UTF-8
abbrev pub header_text : List ℕ → List Header → Option (List ℕ)
header_text name headers = option_and_then utf8_text (one (header_values name headers))

-- who asks, and with which key, by the headers
abbrev pub caller_in : List Header → Option (List ℕ)
caller_in headers = header_text (codes "x-custodian") headers

abbrev pub key_in : List Header → Option (List ℕ)
key_in headers = header_text (codes "x-key") headers

-- the purpose is an edit
abbrev pub puts : Purpose → Bool
puts (Ask reader) = false
puts Put = true

-- the action is an edit
abbrev pub is_put : Option Action → Bool
is_put None = false
is_put (Some action) = puts action.purpose

-- Why a request calls for nothing: there is no such path; no such method there; its query cannot be read; of an edit, a header is
-- not there once or is not UTF-8, or the body is not UTF-8.
abbrev pub has_fault : Asked → RequestFault → Bool
has_fault asked fault.NoRoute = is_none (place_of (path_of asked.target))
has_fault asked fault.BadMethod = is_none (action_of asked)
has_fault asked fault.BadQuery = is_none (query_asked asked)
has_fault asked fault.BadHeader = is_put (action_of asked) && (is_none (caller_in asked.headers) || is_none (key_in asked.headers))
has_fault asked fault.BadBody = is_put (action_of asked) && not (is_utf8 asked.body)

-- the order in which they are looked at
abbrev pub faults_in_order : List RequestFault
faults_in_order = fault.NoRoute ∷ fault.BadMethod ∷ fault.BadQuery ∷ fault.BadHeader ∷ fault.BadBody ∷ []

-- the first that a request has
abbrev pub first_fault : Asked → Option RequestFault
first_fault asked = find (has_fault asked) faults_in_order

-- the edit of a file that a request asks for
abbrev pub edit_in : Asked → List ℕ → ℕ → Option Edit
edit_in asked file base =
    option_and_then (λ caller. option_map (λ key. record { file = file; base = base; caller = caller; key = key; text = asked.body }) (key_in asked.headers))
    (caller_in asked.headers)

-- A call is what a request calls for: its first fault; or it has none, and this is the question or the edit.
abbrev pub IsCall : Asked → Made → Type 0
IsCall request (made.Refused fault) = first_fault request ≡ Some fault
IsCall request (made.Asks question own) = (first_fault request ≡ None) × (query_asked request ≡ Some (Asks (question_of question) own))
IsCall request (made.Edits edit) =
    (first_fault request ≡ None) × (edit.base ≤ last_revision)
    × (query_asked request ≡ Some (Puts edit.file.now edit.base)) × (edit_in request edit.file.now edit.base ≡ Some (asked edit))
