use Rattle.std.proofs.Common.{subst, sym}
use Rattle.desk_store.specs.PrivateGatheredRevisions.{AreKept}
use Rattle.desk_store.proofs.Kept.{kept_more}
use Rattle.desk_store.proofs.gathered_revisions.push_whole.Goals as goal

pub returns : goal.returns
returns c = λ revisions kept.
    subst (AreKept _) (sym c.in_ok-push.ensures.items) (kept_more revisions c.args.heads.now.items c.args.revision kept)
