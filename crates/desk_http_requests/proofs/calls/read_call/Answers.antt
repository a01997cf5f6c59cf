-- A question and an edit are what the query says, and a parameter of another name is a fault.
use Rattle.std.proofs.Common.{◌≡◌, ◌∙◌, ap, sym, true}
use Rattle.std.proofs.lemmas.Result.{IfOk-weaker}
use Rattle.desk_http_messages.specs.Asked.{Asked, asked_of}
use Rattle.desk_http_requests.specs.Calls.{IsCall, are_named, asked_in, is_put, put_in, puts}
use Rattle.desk_http_requests.specs.Parameters.{pairs, parameters_of}
use Rattle.desk_http_requests.specs.Routes.{Action, action_in}
use Rattle.desk_http_requests.specs.Target.{query_of}
use Rattle.desk_http_requests.specs.declared.routes.Purpose.TheVariants.{Ask, Put}
use Rattle.desk_http_requests.proofs.CallLemmas.{is_asked, misnamed, query_is}
use Rattle.desk_http_requests.proofs.calls.read_call.Goals as goal

pub returns-then-not-are_named : goal.returns-then-not-are_named
returns-then-not-are_named c =
    let action : Action = action_in c.args.action in
    misnamed (asked_of c.args.request.now) action c.requires.action
    (ap (are_named action.names) (sym c.requires.parameters) ∙ sym c.are_named.ensures ∙ c.if-not-are_named.true)

pub returns-in-Ask : goal.returns-in-Ask
returns-in-Ask c =
    let action : Action = action_in c.args.action in
    let asked : Asked = asked_of c.args.request.now in
    let named : are_named action.names (parameters_of (query_of asked.target)) ≡ true = ap (are_named action.names) (sym c.requires.parameters) ∙ sym c.are_named.ensures ∙ c.if-not-are_named.false in
    let says = query_is asked action (Ask c.in-Ask.reader) c.requires.action c.in-Ask.is named ∙ ap (asked_in c.in-Ask.reader) (sym c.requires.parameters) in
    IfOk-weaker _ _ (IsCall asked) (λ call by. is_asked asked action (asked_in c.in-Ask.reader (pairs c.args.parameters.now)) call c.requires.action (ap puts c.in-Ask.is) says by) c.asked_in.ensures

pub edit_in-requires-clause-action : goal.edit_in-requires-clause-action
edit_in-requires-clause-action c = ap is_put c.requires.action ∙ ap puts c.in-Put.is

pub edit_in-requires-clause-query : goal.edit_in-requires-clause-query
edit_in-requires-clause-query c =
    let action : Action = action_in c.args.action in
    let asked : Asked = asked_of c.args.request.now in
    let named : are_named action.names (parameters_of (query_of asked.target)) ≡ true = ap (are_named action.names) (sym c.requires.parameters) ∙ sym c.are_named.ensures ∙ c.if-not-are_named.false in
    query_is asked action Put c.requires.action c.in-Put.is named ∙ ap put_in (sym c.requires.parameters)
