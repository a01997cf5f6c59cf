-- The route of a place, by value.
use Rattle.std.proofs.Common.{◌∙◌, List, Some, ap, sym}
use Rattle.std.specs.Option.{option_map}
use Rattle.std.specs.Prelude.{slice_get}
use Rattle.std.proofs.lemmas.Option.{slice_get-get_or, slice_get-map}
use Rattle.desk_http_requests.specs.Routes.{Route, route_in}
use Rattle.desk_http_requests.proofs.routes.route_at.Goals as goal

pub returns-in-Some : goal.returns-in-Some
returns-in-Some c =
    let items = c.table.result.now in
    let found = c.in-Some.ensures.lookup in
    sym (ap (λ (rs : List Route). slice_get rs c.args.place) (sym c.table.ensures) ∙ slice_get-map route_in items c.args.place
    ∙ ap (option_map route_in) (slice_get-get_or items c.args.place c.in-Some.route.now found.3.0 ∙ ap Some (sym found.1)))
