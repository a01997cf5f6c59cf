-- The rows of the router, and what it finds.
use Rattle.std.proofs.Common.{◌≡◌, ◌∙◌, ℕ, zero, suc, ◌+◌, ◌<◌, Bool, true, false, cond, List, [], ◌∷◌, Ok, Option, None, Some, ap, arith, get_or, length, map, refl, subst, sym, take}
use Rattle.std.proofs.lemmas.Iterator.Adapters.{position_from-zero}
use Rattle.std.specs.List.{position_from}
use Rattle.std.specs.Option.{option_map}
use Rattle.std.specs.Str.{bytes_eq}
use Rattle.matchit.specs.Route.{parse_route}
use Rattle.matchit.specs.Rows.{RowsOf}
use Rattle.matchit.specs.Router.{InsertsRead, RouteOf}
use Rattle.matchit.proofs.OnLiterals.{matchit_on_literals}
use Rattle.std.specs.Prelude.{find, slice_get}
use Rattle.desk_http_requests.specs.Routes.{IsRouter, Route, action_in, action_of_method, route_in, routes}
use Rattle.desk_http_requests.specs.declared.routes.Action.{Action as LentAction}
use Rattle.desk_http_requests.specs.declared.routes.Route.{Route as LentRoute}
use Rattle.std.proofs.lemmas.Option.{slice_get-get_or, slice_get-map}
use Rattle.std.proofs.lemmas.List.{length-map}
use Rattle.desk_http_requests.proofs.RouteLemmas.{ArePlain, find_row, first_plain}

abbrev pub row : ℕ → List ℕ → List ℕ × RouteOf ℕ
row place text = (text, record { pattern = text; text = text; names = []; value = place })

-- the rows of these paths, from a place on
abbrev pub rows_from : ℕ → List Route → RowsOf (RouteOf ℕ)
rows_from place [] = []
rows_from place (route ∷ rest) = row place route.path ∷ rows_from (place + 1) rest

abbrev pub the_rows : RowsOf (RouteOf ℕ)
the_rows = rows_from 0 routes

abbrev pub paths : List (List ℕ)
paths = map (λ (route : Route). route.path) routes

abbrev text_in : Option (List ℕ) → List ℕ
text_in None = []
text_in (Some text) = text

-- one row more
pub inserted : (i : ℕ) → i < length routes → (text : List ℕ) → slice_get paths i ≡ Some text → (old new : RowsOf (RouteOf ℕ)) → old ≡ take i the_rows → InsertsRead (parse_route text) i old new (Ok tt) → new ≡ take (i + 1) the_rows
unfolding matchit_on_literals
inserted zero below text at old new is adds = (subst (λ o. InsertsRead (parse_route (get_or paths 0 [])) 0 o new (Ok tt)) is (subst (λ t. InsertsRead (parse_route t) 0 old new (Ok tt)) (sym (ap text_in at)) adds)).1
inserted (suc zero) below text at old new is adds = (subst (λ o. InsertsRead (parse_route (get_or paths 1 [])) 1 o new (Ok tt)) is (subst (λ t. InsertsRead (parse_route t) 1 old new (Ok tt)) (sym (ap text_in at)) adds)).1
inserted (suc (suc zero)) below text at old new is adds = (subst (λ o. InsertsRead (parse_route (get_or paths 2 [])) 2 o new (Ok tt)) is (subst (λ t. InsertsRead (parse_route t) 2 old new (Ok tt)) (sym (ap text_in at)) adds)).1
inserted (suc (suc (suc zero))) below text at old new is adds = (subst (λ o. InsertsRead (parse_route (get_or paths 3 [])) 3 o new (Ok tt)) is (subst (λ t. InsertsRead (parse_route t) 3 old new (Ok tt)) (sym (ap text_in at)) adds)).1
inserted (suc (suc (suc (suc zero)))) below text at old new is adds = (subst (λ o. InsertsRead (parse_route (get_or paths 4 [])) 4 o new (Ok tt)) is (subst (λ t. InsertsRead (parse_route t) 4 old new (Ok tt)) (sym (ap text_in at)) adds)).1
inserted (suc (suc (suc (suc (suc zero))))) below text at old new is adds = (subst (λ o. InsertsRead (parse_route (get_or paths 5 [])) 5 o new (Ok tt)) is (subst (λ t. InsertsRead (parse_route t) 5 old new (Ok tt)) (sym (ap text_in at)) adds)).1
inserted (suc (suc (suc (suc (suc (suc i)))))) below text at old new is adds = absurd (omega (arith, below))

-- the place that is found among rows, by their texts
found_place : (place : ℕ) (rs : List Route) (path : List ℕ) → option_map (λ (r : RouteOf ℕ). r.value) (find_row (rows_from place rs) path) ≡ position_from (λ (route : Route). bytes_eq route.path path) place rs
found_place place [] path = refl
found_place place (r ∷ rest) path = by (bytes_eq r.path path) (found_place (place + 1) rest path)
  where
    by : (b : Bool) → option_map (λ (r : RouteOf ℕ). r.value) (find_row (rows_from (place + 1) rest) path) ≡ position_from (λ (route : Route). bytes_eq route.path path) (place + 1) rest
        → option_map (λ (r : RouteOf ℕ). r.value) (cond b (Some (row place r.path).1) (find_row (rows_from (place + 1) rest) path)) ≡ cond b (Some place) (position_from (λ (route : Route). bytes_eq route.path path) (place + 1) rest)
    by true h = refl
    by false h = h

pub finds_routes : ArePlain the_rows → IsRouter the_rows
finds_routes plain path = ap (option_map (λ (x : RouteOf ℕ). x.value)) (first_plain the_rows path plain) ∙ found_place 0 routes path ∙ sym (position_from-zero (λ (route : Route). bytes_eq route.path path) routes)

-- what is found among lent rows, by value
pub found_among : (method : List ℕ) (rows : List LentAction) → option_map action_in (find (λ (row : LentAction). bytes_eq row.method.now method) rows) ≡ action_of_method method (map action_in rows)
found_among method [] = refl
found_among method (row ∷ rows) = by (bytes_eq row.method.now method) (found_among method rows)
  where
    by : (b : Bool) → option_map action_in (find (λ (r : LentAction). bytes_eq r.method.now method) rows) ≡ action_of_method method (map action_in rows)
        → option_map action_in (cond b (Some row) (find (λ (r : LentAction). bytes_eq r.method.now method) rows)) ≡ cond b (Some (action_in row)) (action_of_method method (map action_in rows))
    by true h = refl
    by false h = h

-- the path of a place in the lent table
pub path_in : (items : List LentRoute) → map route_in items ≡ routes → (place : ℕ) (other : LentRoute) → place < length items → slice_get paths place ≡ Some (get_or items place other).path.now
path_in items is place other below =
    ap (λ (rs : List Route). slice_get (map (λ (route : Route). route.path) rs) place) (sym is)
    ∙ slice_get-map (λ (route : Route). route.path) (map route_in items) place
    ∙ ap (option_map (λ (route : Route). route.path)) (slice_get-map route_in items place ∙ ap (option_map route_in) (slice_get-get_or items place other below))

-- the lent table has as many routes
pub as_many : (items : List LentRoute) → map route_in items ≡ routes → length items ≡ length routes
as_many items is = sym (length-map items route_in) ∙ ap length is
