use Rattle.std.proofs.Common.{map, take}
use Rattle.desk_http_requests.specs.Parameters.{values_of}
use Rattle.desk_http_requests.specs.PrivateParameters.{IsGiven}
use Rattle.desk_http_requests.proofs.parameters.value_given.Given as goal

abbrev pub invariant-loop-parameter : goal.invariant-loop-parameter
invariant-loop-parameter l = IsGiven (values_of l.name (map (λ p. (p.name, p.value)) (take l.parameter-index l.parameters))) l.given
