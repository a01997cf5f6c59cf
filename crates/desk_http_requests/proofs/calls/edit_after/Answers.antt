-- The base is that which the query tells.
use Rattle.std.proofs.Common.{◌∙◌, ap, codes, sym}
use Rattle.std.specs.Option.{option_map}
use Rattle.desk_http_messages.specs.Asked.{asked_of}
use Rattle.desk_http_requests.specs.Calls.{Puts, one_of}
use Rattle.desk_http_requests.specs.Parameters.{pairs}
use Rattle.desk_http_requests.proofs.CallLemmas.{base_small, unread_put}
use Rattle.desk_http_requests.proofs.calls.edit_after.Goals as goal

pub edit_of-requires-clause-query : goal.edit_of-requires-clause-query
edit_of-requires-clause-query c = c.requires.query ∙ ap (option_map (Puts c.args.file.now)) (sym c.number_in.ensures ∙ c.in-Some.is)

pub edit_of-requires-clause-base : goal.edit_of-requires-clause-base
edit_of-requires-clause-base c = base_small (one_of (codes "base") (pairs c.args.parameters.now)) c.in-Some.base (sym c.number_in.ensures ∙ c.in-Some.is)

pub returns-in-None : goal.returns-in-None
returns-in-None c =
    unread_put (asked_of c.args.request.now) c.requires.action (c.requires.query ∙ ap (option_map (Puts c.args.file.now)) (sym c.number_in.ensures ∙ c.in-None.is))
