-- The routes so far are found, each by its place.
use Rattle.std.proofs.Common.{◌≤◌, ◌∙◌, arith, length, rules, subst, sym}
use Rattle.std.proofs.lemmas.List.{take_all}
use Rattle.desk_http_requests.specs.Routes.{IsRouter}
use Rattle.desk_http_requests.proofs.RouteLemmas.{ArePlain}
use Rattle.desk_http_requests.proofs.TheRoutes.{as_many, finds_routes, inserted, path_in, the_rows}
use Rattle.desk_http_requests.proofs.routes.router.Goals as goal

pub loop-place-preserved : goal.loop-place-preserved
loop-place-preserved c =
    let items = c.table-routes.result.now in
    inserted c.loop-place.place (omega (arith, c.loop-place-test.true, as_many items c.table-routes.ensures)) _ (path_in items c.table-routes.ensures c.loop-place.place _ c.loop-place-test.true)
    c.loop-place.router c.insert.new.self c.loop-place.invariant c.in_ok-insert.ensures

pub returns : goal.returns
returns c =
    let plain : ArePlain the_rows = search rules in
    let all : length the_rows ≤ c.loop-place.place = omega (arith, c.loop-place-test.false, as_many c.table-routes.result.now c.table-routes.ensures) in
    subst IsRouter (sym (c.loop-place.invariant ∙ take_all c.loop-place.place the_rows all)) (finds_routes plain)
