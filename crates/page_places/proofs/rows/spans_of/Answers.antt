use Rattle.std.proofs.Common.{◌++◌, ◌∷◌, ◌∙◌, [], ap, map, sym, take}
use Rattle.std.proofs.lemmas.List.{map_more, take_all}
use Rattle.desk_policy.specs.declared.verdict.Verdict.{Verdict}
use Rattle.desk_who.specs.Who.{range_value}
use Rattle.desk_who.specs.declared.runs.Run.{Run as KeptRun}
use Rattle.page_findings.proofs.Mapped.{map_twice}
use Rattle.page_html.specs.declared.ranges.Span.{Span}
use Rattle.page_places.specs.Rows.{span_of}
use Rattle.page_places.proofs.rows.spans_of.Goals as goal

abbrev span_in : KeptRun Verdict → Span
span_in range = span_of (range_value range)

pub loop-range-preserved : goal.loop-range-preserved
loop-range-preserved c =
    let ranges = c.args.ranges.now in
    let i = c.loop-range.range-index in
    let range = c.range-item.result in
    c.in_ok-push.ensures.items ∙ ap (λ some. some ++ span_in range ∷ []) c.loop-range.invariant
    ∙ ap (λ (one : KeptRun Verdict). map span_in (take i ranges) ++ span_in one ∷ []) c.range-item.is ∙ sym
    (map_more span_in ranges i range c.loop-range-test.true)

pub returns : goal.returns
returns c =
    c.loop-range.invariant ∙ ap (map span_in) (take_all c.loop-range.range-index c.args.ranges.now c.loop-range-test.false)
    ∙ sym (map_twice range_value span_of c.args.ranges.now)
