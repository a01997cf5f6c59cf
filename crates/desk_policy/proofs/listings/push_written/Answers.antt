use Rattle.std.proofs.Common.{map, refl}
use Rattle.desk_policy.proofs.Gathered.{gathers}
use Rattle.desk_policy.proofs.listings.push_written.Goals as goal

pub loop-dir-preserved : goal.loop-dir-preserved
loop-dir-preserved c =
    gathers c.as_slice-dir-items.result.now c.loop-dir.dir-index c.dir-item.result c.loop-dir-test.true c.dir-item.is
    c.loop-dir.dirs.items c.push.new.self.items (λ dir. dir.now) (map (λ dir. dir.now) c.args.dirs.now.items) _ c.in_ok-push.ensures.items refl c.loop-dir.invariant
