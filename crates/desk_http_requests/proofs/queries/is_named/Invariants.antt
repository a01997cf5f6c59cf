use Rattle.std.proofs.Common.{◌≡◌, map, take, Bor, List, ℕ}
use Rattle.std.specs.List.{list_any}
use Rattle.std.specs.Str.{bytes_eq}
use Rattle.desk_http_requests.proofs.queries.is_named.Given as goal

abbrev pub invariant-loop-other : goal.invariant-loop-other
invariant-loop-other l = l.named ≡ list_any (bytes_eq l.name) (map (λ (other : Bor (List ℕ)). other.now) (take l.other-index l.names))
