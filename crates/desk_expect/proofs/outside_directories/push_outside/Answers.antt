use Rattle.std.proofs.Common.{◌++◌, ◌∙◌, ap, map}
use Rattle.std.specs.List.{flat_map}
use Rattle.std.proofs.lemmas.List.{take_all}
use Rattle.desk_expect.specs.OutsideDirectories.{outside_scope, outside_value}
use Rattle.desk_expect.proofs.Written.{writes_next}
use Rattle.desk_expect.proofs.outside_directories.push_outside.Goals as goal

pub loop-scope-preserved : goal.loop-scope-preserved
loop-scope-preserved c =
    writes_next (outside_scope c.args.filesystems.now c.args.expectation.now) c.as_slice-scope-items.result.now c.loop-scope.scope-index c.scope-item.result c.loop-scope-test.true c.scope-item.is
    (map outside_value c.args.found.now.items) (map outside_value c.loop-scope.found.items) (map outside_value c.push_if_outside.new.found.items) c.loop-scope.invariant c.in_ok-push_if_outside.ensures

pub returns : goal.returns
returns c =
    c.loop-scope.invariant
    ∙ ap (λ scopes. map outside_value c.args.found.now.items ++ flat_map (outside_scope c.args.filesystems.now c.args.expectation.now) scopes)
    (take_all c.loop-scope.scope-index c.as_slice-scope-items.result.now c.loop-scope-test.false ∙ c.as_slice-scope-items.ensures)
