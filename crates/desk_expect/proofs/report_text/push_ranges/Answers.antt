use Rattle.std.proofs.Common.{◌∙◌, ◌++◌, ap, sym}
use Rattle.std.specs.List.{flat_map}
use Rattle.std.specs.String.{string_bytes}
use Rattle.std.proofs.lemmas.List.{append-nil, take_all}
use Rattle.desk_who.specs.Runs.{run_value}
use Rattle.desk_who.specs.declared.runs.Run.{Run}
use Rattle.desk_expect.specs.Judging.{judged_value}
use Rattle.desk_expect.specs.ReportText.{judged_line}
use Rattle.desk_expect.specs.declared.judging.Judged.{Judged}
use Rattle.desk_expect.proofs.Written.{by_values, writes_next}
use Rattle.desk_expect.proofs.report_text.push_ranges.Goals as goal

pub loop-range-init : goal.loop-range-init
loop-range-init c = sym (append-nil (string_bytes c.args.text.now))

pub loop-range-preserved : goal.loop-range-preserved
loop-range-preserved c =
    writes_next (λ (range : Run Judged). judged_line c.args.policy.now (run_value judged_value range)) c.args.ranges.now c.loop-range.range-index c.range-item.result c.loop-range-test.true c.range-item.is
    (string_bytes c.args.text.now) (string_bytes c.loop-range.text) (string_bytes c.push_range.new.text) c.loop-range.invariant c.in_ok-push_range.ensures

pub returns : goal.returns
returns c =
    let ranges = c.args.ranges.now in
    let write = judged_line c.args.policy.now in
    c.loop-range.invariant
    ∙ ap (λ t. string_bytes c.args.text.now ++ t)
    (ap (flat_map (λ (range : Run Judged). write (run_value judged_value range))) (take_all c.loop-range.range-index ranges c.loop-range-test.false) ∙ by_values (run_value judged_value) write ranges)
