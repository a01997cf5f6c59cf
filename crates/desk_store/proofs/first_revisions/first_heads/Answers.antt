use Rattle.std.proofs.Common.{◌≡◌, ◌++◌, [], ◌∷◌, arith, rules}
use Rattle.desk_policy.specs.Site.{texts_of}
use Rattle.desk_store.proofs.FirstHistory.{add_mount}
use Rattle.desk_store.proofs.first_revisions.first_heads.Goals as goal

pub loop-mount-preserved : goal.loop-mount-preserved
loop-mount-preserved c =
    let more : c.push.new.self.items ≡ c.loop-mount.heads.items ++ c.in_ok-head.head ∷ [] = search rules in
    add_mount (texts_of c.args.site.now) c.args.mounts.now c.loop-mount.mount-index c.mount-item.result c.loop-mount.heads.items c.push.new.self.items c.in_ok-head.head (omega arith) c.mount-item.is
    c.in_ok-head.ensures.made more c.in_ok-head.ensures.utf8 c.loop-mount.invariant
