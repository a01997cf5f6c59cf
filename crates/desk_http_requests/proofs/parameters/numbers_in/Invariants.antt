use Rattle.std.proofs.Common.{◌≡◌, take}
use Rattle.std.specs.Option.{option_map}
use Rattle.desk_text.specs.Bytes.{read_decimal}
use Rattle.desk_http_requests.specs.Parameters.{each_read, pairs, values_of}
use Rattle.desk_http_requests.proofs.parameters.numbers_in.Given as goal

abbrev pub invariant-loop-parameter : goal.invariant-loop-parameter
invariant-loop-parameter l =
    option_map (λ v. v.items) l.numbers ≡ each_read (read_decimal l.most) (values_of l.name (pairs (take l.parameter-index l.parameters)))
