use Rattle.std.proofs.Common.{◌∙◌, ◌++◌, [], ap, length, map, sym}
use Rattle.std.specs.List.{flat_map}
use Rattle.std.specs.String.{string_bytes}
use Rattle.std.proofs.lemmas.List.{length-map, take_all}
use Rattle.desk_expect.specs.Report.{broken_value}
use Rattle.desk_expect.specs.ReportText.{broken_text, last_line}
use Rattle.desk_expect.specs.declared.report.Broken.{Broken}
use Rattle.desk_expect.proofs.Written.{by_values, writes_next}
use Rattle.desk_expect.proofs.report_text.report_text.Goals as goal

pub loop-one-preserved : goal.loop-one-preserved
loop-one-preserved c =
    writes_next (λ (one : Broken). broken_text c.args.policy.now c.args.file.now (broken_value one)) c.args.broken.now c.loop-one.one-index c.one-item.result c.loop-one-test.true c.one-item.is
    [] (string_bytes c.loop-one.text) (string_bytes c.push_broken.new.text) c.loop-one.invariant c.in_ok-push_broken.ensures

pub returns : goal.returns
returns c =
    let broken = c.args.broken.now in
    let write = broken_text c.args.policy.now c.args.file.now in
    c.in_ok-push_last_line.ensures
    ∙ ap (λ t. t ++ last_line c.args.count (length broken)) (c.loop-one.invariant
    ∙ ap (flat_map (λ (one : Broken). write (broken_value one))) (take_all c.loop-one.one-index broken c.loop-one-test.false) ∙ by_values broken_value write broken)
    ∙ ap (λ n. flat_map write (map broken_value broken) ++ last_line c.args.count n) (sym (length-map broken broken_value))
