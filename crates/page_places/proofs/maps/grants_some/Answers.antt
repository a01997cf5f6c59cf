use Rattle.std.proofs.Common.{◌<◌, ◌∙◌, arith, ap, length, map, sym}
use Rattle.std.specs.Prelude.{Result}
use Rattle.std.specs.Result.{is_ok}
use Rattle.std.proofs.lemmas.List.{get_or-map, length-map}
use Rattle.std.proofs.lemmas.List.Folds.{list_any-from_Any}
use Rattle.desk_policy.specs.Verdict.{Grant}
use Rattle.desk_policy.specs.declared.verdict.Denial.{Denial}
use Rattle.desk_who.specs.Runs.{Run}
use Rattle.desk_who.specs.Who.{range_value}
use Rattle.page_places.proofs.maps.grants_some.Goals as goal

pub returns-then-is_granted : goal.returns-then-is_granted
returns-then-is_granted c =
    let ranges = c.args.ranges.now in
    let i = c.loop-range.range-index in
    let range = c.range-item.result in
    let within : i < length (map range_value ranges) = omega (arith, c.loop-range-test.true, length-map ranges range_value) in
    sym (list_any-from_Any (λ (one : Run (Result Grant Denial)). is_ok one.value) (map range_value ranges)
    (i, range_value range, within, get_or-map range_value ranges i range (range_value range) c.loop-range-test.true ∙ ap range_value (sym c.range-item.is), sym c.is_granted.ensures ∙ c.if-is_granted.true))
