use Rattle.desk_policy.proofs.ShownLines.{shown_nowhere}
use Rattle.desk_policy.proofs.listings.shown_of_mount.Goals as goal

pub returns-in-None : goal.returns-in-None
returns-in-None c = shown_nowhere c.args.policy.now c.args.address.number c.args.mount.now c.filesystems.result.now c.filesystems.ensures c.in-None.ensures
