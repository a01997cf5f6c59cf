-- What a request calls for, by its action and its query.
use Rattle.std.proofs.Common.{◌≡◌, ◌≤◌, ◌&&◌, ℕ, Bool, true, false, arith, cond, List, Option, Some, None, nat_le, refl, ap, subst, sym, ◌∙◌}
use Rattle.std.specs.Str.Parse.{digits_value}
use Rattle.std.proofs.lemmas.Bool.Decides.{nat_tests}
use Rattle.desk_text.specs.Bytes.{is_decimal, read_decimal}
use Rattle.desk_core.specs.Head.{last_revision}
use Rattle.std.proofs.Common.{option_and_then}
use Rattle.std.specs.Option.{is_none}
use Rattle.std.specs.Str.{IsUtf8, is_utf8}
use Rattle.std.proofs.lemmas.Str.{IsUtf8-from_is_utf8}
use Rattle.desk_service.specs.Questions.{question_of}
use Rattle.desk_http_messages.specs.Asked.{Asked}
use Rattle.desk_http_requests.specs.Calls.{Asks, IsCall, Puts, Query, action_of, are_named, first_fault, is_put, puts, query_asked, query_for, query_read}
use Rattle.desk_http_requests.specs.Parameters.{parameters_of}
use Rattle.desk_http_requests.specs.PrivateCalls.{AsksFor}
use Rattle.desk_http_requests.specs.Routes.{Action, action_of_place, place_of}
use Rattle.desk_http_requests.specs.Target.{path_of, query_of}
use Rattle.desk_http_requests.specs.declared.calls.Call.{Call}
use Rattle.desk_http_requests.specs.declared.calls.Call.TheVariants as made
use Rattle.desk_http_requests.specs.declared.faults.RequestFault.TheVariants as fault
use Rattle.desk_http_requests.specs.declared.routes.Purpose.{Purpose}

routed : (method : List ℕ) (place : Option ℕ) (a : Action) → option_and_then (action_of_place method) place ≡ Some a → is_none place ≡ false
routed method None a h = cc
routed method (Some place) a h = refl

-- what a request asks whose parameters have the names of its action
pub query_is : (request : Asked) (a : Action) (purpose : Purpose) → action_of request ≡ Some a → a.purpose ≡ purpose → are_named a.names (parameters_of (query_of request.target)) ≡ true
    → query_asked request ≡ query_read purpose (parameters_of (query_of request.target))
query_is request a purpose acts is named =
    let ps = parameters_of (query_of request.target) in
    ap (option_and_then (λ b. query_for b ps)) acts ∙ ap (λ b. cond b (query_read a.purpose ps) None) named ∙ ap (λ p. query_read p ps) is

-- a request with an action whose query cannot be read
pub unread : (request : Asked) (a : Action) → action_of request ≡ Some a → query_asked request ≡ None → first_fault request ≡ Some fault.BadQuery
unread request a acts none = rw (routed request.method (place_of (path_of request.target)) a acts, ap is_none acts, ap is_none none) refl

-- the same, since a parameter has another name than those of the action
pub misnamed : (request : Asked) (a : Action) → action_of request ≡ Some a → are_named a.names (parameters_of (query_of request.target)) ≡ false → first_fault request ≡ Some fault.BadQuery
misnamed request a acts named =
    let ps = parameters_of (query_of request.target) in
    unread request a acts (ap (option_and_then (λ b. query_for b ps)) acts ∙ ap (λ b. cond b (query_read a.purpose ps) None) named)

-- a request with an action that asks has the call that its query says
pub is_asked : (request : Asked) (a : Action) (query : Option Query) (call : Call) → action_of request ≡ Some a → puts a.purpose ≡ false → query_asked request ≡ query → AsksFor query call → IsCall request call
is_asked request a None call acts asks is by = subst (IsCall request) (sym by) (unread request a acts is)
is_asked request a (Some (Asks question own)) (made.Asks lent told) acts asks is by =
    let free : first_fault request ≡ None = rw (routed request.method (place_of (path_of request.target)) a acts, ap is_none acts, ap is_none is, ap is_put acts ∙ asks) refl in
    (free, is ∙ ap Some (ap (λ q. Asks q own) (sym by.0) ∙ ap (Asks (question_of lent)) (sym by.1)))
is_asked request a (Some (Asks question own)) (made.Refused fault) acts asks is by = absurd by
is_asked request a (Some (Asks question own)) (made.Edits edit) acts asks is by = absurd by
is_asked request a (Some (Puts file base)) call acts asks is by = absurd by

-- a request that is an edit has an action
acts : (action : Option Action) → is_put action ≡ true → (a : Action) × (action ≡ Some a)
acts None h = absurd cc
acts (Some a) h = (a, refl)

-- an edit whose query cannot be read
pub unread_put : (request : Asked) → is_put (action_of request) ≡ true → query_asked request ≡ None → first_fault request ≡ Some fault.BadQuery
unread_put request puts none = let found = acts (action_of request) puts in unread request found.0 found.1 none

-- a base that an edit's query says is a number of a revision, or 0
small : (b : Bool) (d most n : ℕ) → nat_le d most ≡ b → (a : Bool) → cond (a && b) (Some d) None ≡ Some n → n ≤ most
small true d most n le true h = grind (arith, nat_tests, le, h)
small false d most n le true h = cc
small b d most n le false h = cc

pub base_small : (text : Option (List ℕ)) (base : ℕ) → option_and_then (read_decimal last_revision) text ≡ Some base → base ≤ last_revision
base_small None base h = cc
base_small (Some text) base h = small (nat_le (digits_value 10 text) last_revision) (digits_value 10 text) last_revision base refl (is_decimal text) h

-- bytes that are not UTF-8 fail the test
tested : (bytes : List ℕ) (b : Bool) → is_utf8 bytes ≡ b → (IsUtf8 bytes → ⊥) → b ≡ false
tested bytes true h none = absurd (none (IsUtf8-from_is_utf8 bytes h))
tested bytes false h none = refl

pub not_utf8 : (bytes : List ℕ) → (IsUtf8 bytes → ⊥) → is_utf8 bytes ≡ false
not_utf8 bytes none = tested bytes (is_utf8 bytes) refl none
