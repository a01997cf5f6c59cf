use Rattle.std.proofs.Common.{◌≡◌, true, false, ap, ◌∙◌, rules}
use Rattle.std.specs.Option.{option_map}
use Rattle.std.specs.Str.{bytes_eq}
use Rattle.desk_http_requests.proofs.NumberLemmas.{more_other, more_same}
use Rattle.desk_http_requests.proofs.parameters.numbers_in.Goals as goal
use Rattle.desk_http_requests.proofs.parameters.numbers_in.Goals.{then-eq+in_ok-numbers, else-eq}

pub loop-parameter-preserved : goal.loop-parameter-preserved
loop-parameter-preserved c = elim c.if-eq.branch [
  | then-eq+in_ok-numbers w ↦
      let same : bytes_eq c.parameter-item.result.name c.args.name.now ≡ true = search rules in
      more_same c.args.most c.args.name.now c.args.parameters.now c.loop-parameter.parameter-index c.parameter-item.result _ _ w.as_str-then-eq.result.now
      c.loop-parameter-test.true c.parameter-item.is same w.as_str-then-eq.ensures c.loop-parameter.invariant
      (ap (option_map (λ v. v.items)) w.numbers-is ∙ w.in_ok-numbers.ensures)
  | else-eq w ↦
      let other : bytes_eq c.parameter-item.result.name c.args.name.now ≡ false = search rules in
      more_other c.args.most c.args.name.now c.args.parameters.now c.loop-parameter.parameter-index c.parameter-item.result _ _
      c.loop-parameter-test.true c.parameter-item.is other c.loop-parameter.invariant (ap (option_map (λ v. v.items)) w.numbers-is)
]
