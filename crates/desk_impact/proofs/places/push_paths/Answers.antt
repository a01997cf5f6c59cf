use Rattle.std.proofs.Common.{refl}
use Rattle.desk_impact.specs.Places.{paths_in}
use Rattle.desk_impact.proofs.Gathered.{gathers}
use Rattle.desk_impact.proofs.places.push_paths.Goals as goal

pub loop-dir-preserved : goal.loop-dir-preserved
loop-dir-preserved c =
    gathers c.args.dirs.now c.loop-dir.dir-index c.dir-item.result c.loop-dir-test.true c.dir-item.is
    c.loop-dir.paths.items c.push.new.self.items (λ dir. dir.now) (paths_in c.args.paths.now.items) _ c.in_ok-push.ensures.items refl c.loop-dir.invariant
