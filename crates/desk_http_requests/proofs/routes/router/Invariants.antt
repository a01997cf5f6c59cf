use Rattle.std.proofs.Common.{◌≡◌, take}
use Rattle.desk_http_requests.proofs.TheRoutes.{the_rows}
use Rattle.desk_http_requests.proofs.routes.router.Given as goal

abbrev pub invariant-loop-place : goal.invariant-loop-place
invariant-loop-place l = l.router ≡ take l.place the_rows
