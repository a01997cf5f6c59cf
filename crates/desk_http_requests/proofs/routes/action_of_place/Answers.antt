-- The method is one of the route.
use Rattle.std.proofs.Common.{◌∙◌, ap}
use Rattle.std.proofs.Common.{option_and_then}
use Rattle.std.specs.Option.{option_map}
use Rattle.desk_http_requests.specs.Routes.{Route, action_in, action_of_method}
use Rattle.desk_http_requests.proofs.TheRoutes.{found_among}
use Rattle.desk_http_requests.proofs.routes.action_of_place.Goals as goal

pub returns-in-Some : goal.returns-in-Some
returns-in-Some c =
    ap (option_map action_in) c.action_of_method.ensures ∙ found_among c.args.method.now c.in-Some.route.actions.now
    ∙ ap (option_and_then (λ (route : Route). action_of_method c.args.method.now route.actions)) c.in-Some.ensures

pub returns-in-None : goal.returns-in-None
returns-in-None c = ap (option_and_then (λ (route : Route). action_of_method c.args.method.now route.actions)) c.in-None.ensures
