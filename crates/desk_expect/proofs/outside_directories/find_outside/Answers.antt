use Rattle.std.proofs.Common.{[], ◌∙◌, ap, map}
use Rattle.std.specs.List.{flat_map}
use Rattle.std.proofs.lemmas.List.{take_all}
use Rattle.desk_expect.specs.OutsideDirectories.{outside_of, outside_value}
use Rattle.desk_expect.proofs.Written.{writes_next}
use Rattle.desk_expect.proofs.outside_directories.find_outside.Goals as goal

pub loop-expectation-preserved : goal.loop-expectation-preserved
loop-expectation-preserved c =
    writes_next (outside_of c.args.filesystems.now) c.args.expectations.now c.loop-expectation.expectation-index c.expectation-item.result c.loop-expectation-test.true c.expectation-item.is
    [] (map outside_value c.loop-expectation.found.items) (map outside_value c.push_outside.new.found.items) c.loop-expectation.invariant c.in_ok-push_outside.ensures

pub returns : goal.returns
returns c = c.loop-expectation.invariant ∙ ap (flat_map (outside_of c.args.filesystems.now)) (take_all c.loop-expectation.expectation-index c.args.expectations.now c.loop-expectation-test.false)
