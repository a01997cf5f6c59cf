use Rattle.std.proofs.Common.{◌≡◌, map, take, Bor, List, ℕ}
use Rattle.desk_http_requests.specs.Calls.{are_named}
use Rattle.desk_http_requests.specs.Parameters.{pairs}
use Rattle.desk_http_requests.proofs.queries.are_named.Given as goal

abbrev pub invariant-loop-parameter : goal.invariant-loop-parameter
invariant-loop-parameter l = l.named ≡ are_named (map (λ (name : Bor (List ℕ)). name.now) l.names) (pairs (take l.parameter-index l.parameters))
