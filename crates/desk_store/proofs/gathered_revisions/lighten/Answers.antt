use Rattle.std.proofs.Common.{subst, sym}
use Rattle.desk_store.specs.PrivateGatheredRevisions.{AreKept, IsOlderAt}
use Rattle.desk_store.proofs.Kept.{kept_lighter_at}
use Rattle.desk_store.proofs.gathered_revisions.lighten.Goals as goal

pub returns-then-is_older : goal.returns-then-is_older
returns-then-is_older c = λ revisions kept.
    let older = subst (λ xs. IsOlderAt xs c.args.place c.args.other) c.as_slice.ensures.value (c.is_older.ensures c.if-is_older.true) in
    subst (AreKept revisions) (sym c.take_text.ensures) (kept_lighter_at revisions c.args.heads.now.items c.args.place c.args.other older kept)
