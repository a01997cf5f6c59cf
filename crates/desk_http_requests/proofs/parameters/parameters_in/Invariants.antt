use Rattle.std.proofs.Common.{◌≡◌, ◌++◌, map}
use Rattle.form_urlencoded.specs.Parse.{raw_pairs_left}
use Rattle.desk_http_requests.specs.Parameters.{decoded, parameters_of}
use Rattle.desk_http_requests.proofs.parameters.parameters_in.Given as goal

abbrev pub invariant-loop-name : goal.invariant-loop-name
invariant-loop-name l =
    (goal.iterator-loop-name).can_next l.name-iterator
    × (goal.iterator-loop-name).is_finite l.name-iterator
    × (map (λ p. (p.name, p.value)) l.parameters.items ++ map decoded (raw_pairs_left l.name-iterator) ≡ parameters_of l.query)
