-- The file is that which the query names.
use Rattle.std.proofs.Common.{◌∙◌, ℕ, Bor, List, ap, option_and_then, sym}
use Rattle.std.specs.Option.{option_map}
use Rattle.desk_http_messages.specs.Asked.{asked_of}
use Rattle.desk_http_requests.specs.Calls.{Puts, base_in}
use Rattle.desk_http_requests.specs.Parameters.{pairs}
use Rattle.desk_http_requests.proofs.CallLemmas.{unread_put}
use Rattle.desk_http_requests.proofs.calls.edit_in.Goals as goal

abbrev text : Bor (List ℕ) → List ℕ
text word = word.now

pub edit_after-requires-clause-query : goal.edit_after-requires-clause-query
edit_after-requires-clause-query c =
    c.requires.query ∙ ap (option_and_then (λ name. option_map (Puts name) (base_in (pairs c.args.parameters.now)))) (sym c.one_of.ensures ∙ ap (option_map text) c.in-Some.is)

pub returns-in-None : goal.returns-in-None
returns-in-None c =
    unread_put (asked_of c.args.request.now) c.requires.action
    (c.requires.query ∙ ap (option_and_then (λ name. option_map (Puts name) (base_in (pairs c.args.parameters.now)))) (sym c.one_of.ensures ∙ ap (option_map text) c.in-None.is))
