-- The routes of the service: what each method does at each path, and with which parameters. (this project's own)
use Rattle.std.specs.Prelude.{◌≡◌, ℕ, List, [], ◌∷◌, codes, find, map, position, slice_get, Option, option_and_then, option_map}
use Rattle.std.specs.Str.{bytes_eq}
use Rattle.matchit.specs.Rows.{RowsOf}
use Rattle.matchit.specs.Router.{RouteOf}
use Rattle.matchit.specs.Seek.{first}
use Rattle.desk_service.specs.declared.questions.FileQuestion.TheVariants as of_file
use Rattle.desk_http_requests.specs.declared.routes.Action.{Action as LentAction}
use Rattle.desk_http_requests.specs.declared.routes.Purpose.{Purpose}
use Rattle.desk_http_requests.specs.declared.routes.Purpose.TheVariants.{Ask, Put}
use Rattle.desk_http_requests.specs.declared.routes.Reader.{Reader}
use Rattle.desk_http_requests.specs.declared.routes.Reader.TheVariants as reader
use Rattle.desk_http_requests.specs.declared.routes.Route.{Route as LentRoute}

-- what a method does at a path: the names of its parameters, and what it is for: a question, which is read so, or an edit
pub record Action : Type 0 where
  pub method : List ℕ
  pub names : List (List ℕ)
  pub purpose : Purpose

-- a path, and what each method does there
pub record Route : Type 0 where
  pub path : List ℕ
  pub actions : List Action

-- the same by value
abbrev pub action_in : LentAction → Action
action_in action = record { method = action.method.now; names = map (λ name. name.now) action.names.now; purpose = action.purpose }

abbrev pub route_in : LentRoute → Route
route_in route = record { path = route.path.now; actions = map action_in route.actions.now }

-- a question, by these parameters
abbrev pub get : List (List ℕ) → Reader → Action
get names how = record { method = codes "GET"; names = names; purpose = Ask how }

-- an edit, by these parameters
abbrev pub put : List (List ℕ) → Action
put names = record { method = codes "PUT"; names = names; purpose = Put }

-- the routes
abbrev pub routes : List Route
routes =
    record { path = codes "/v1/exports"; actions = get (codes "host" ∷ []) reader.Listing ∷ [] }
    ∷ record { path = codes "/v1/file"; actions = get (codes "name" ∷ codes "rev" ∷ []) reader.Text ∷ put (codes "name" ∷ codes "base" ∷ []) ∷ [] }
    ∷ record { path = codes "/v1/mount"; actions = get (codes "host" ∷ codes "dir" ∷ codes "uid" ∷ codes "gid" ∷ []) reader.Mount ∷ [] }
    ∷ record { path = codes "/v1/proposal"; actions = get (codes "name" ∷ []) (reader.OfFile of_file.Proposal) ∷ [] }
    ∷ record { path = codes "/v1/revisions"; actions = get (codes "name" ∷ []) (reader.OfFile of_file.Revisions) ∷ [] }
    ∷ record { path = codes "/v1/who"; actions = get (codes "dir" ∷ []) reader.Who ∷ [] }
    ∷ []

-- the place of a path among them
abbrev pub place_of : List ℕ → Option ℕ
place_of path = position (λ route. bytes_eq route.path path) routes

-- what a method does among these
abbrev pub action_of_method : List ℕ → List Action → Option Action
action_of_method method actions = find (λ action. bytes_eq action.method method) actions

-- what a method does at the path of a place
abbrev pub action_of_place : List ℕ → ℕ → Option Action
action_of_place method place = option_and_then (λ route. action_of_method method route.actions) (slice_get routes place)

-- a router finds the place of each path
abbrev pub IsRouter : RowsOf (RouteOf ℕ) → Type 0
IsRouter rows = (path : List ℕ) → option_map (λ r. r.value) (first rows path) ≡ place_of path
