use Rattle.std.proofs.Common.{ap, map}
use Rattle.desk_expect.specs.Report.{broken_value}
use Rattle.desk_expect.proofs.Tested.{all_expectations, none_broken, one_expectation}
use Rattle.desk_expect.proofs.report.find_broken.Goals as goal

pub loop-expectation-init : goal.loop-expectation-init
loop-expectation-init c = none_broken c.args.index.now (map broken_value c.new-broken.result.items) (ap (map broken_value) c.new-broken.ensures.items)

pub loop-expectation-preserved : goal.loop-expectation-preserved
loop-expectation-preserved c =
    one_expectation c.args.index.now c.args.expectations.now c.loop-expectation.expectation-index c.expectation-item.result c.loop-expectation-test.true c.expectation-item.is
    (map broken_value c.loop-expectation.broken.items) (map broken_value c.push_if_broken.new.broken.items) c.loop-expectation.invariant c.in_ok-push_if_broken.ensures

pub returns : goal.returns
returns c =
    all_expectations c.args.index.now c.args.expectations.now c.loop-expectation.expectation-index (map broken_value c.loop-expectation.broken.items)
    c.loop-expectation-test.false c.loop-expectation.invariant
