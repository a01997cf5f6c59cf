use Rattle.std.proofs.Common.{◌≡◌, ◌∙◌, Some, ap, sym}
use Rattle.desk_expect.specs.Scope.{read_scope}
use Rattle.desk_expect.proofs.Scopes.{good_more, scope_more}
use Rattle.desk_expect.proofs.reading.read_scopes.Goals as goal

pub loop-dir-preserved : goal.loop-dir-preserved
loop-dir-preserved c =
    let dirs = c.args.dirs.now in
    let i = c.loop-dir.dir-index in
    let dir = c.dir-item.result in
    let read : Some c.in-Some.scope ≡ read_scope dir = sym c.in-Some.is ∙ c.in_ok-scope.ensures ∙ ap read_scope c.as_str.ensures in
    record {
      good = good_more dirs i dir c.loop-dir-test.true c.dir-item.is c.in-Some.scope read c.loop-dir.invariant.good;
      read = scope_more dirs i dir c.loop-dir-test.true c.dir-item.is c.in-Some.scope read c.loop-dir.scopes c.push.new.self c.loop-dir.invariant.read c.in_ok-push-in-Some.ensures.added;
    }
