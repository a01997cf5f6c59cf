use Rattle.desk_netgroup.proofs.OnceLemmas.{kept_more, seen_more}
use Rattle.desk_netgroup.proofs.walk.distinct_copies.Goals as goal

pub loop-text-preserved : goal.loop-text-preserved
loop-text-preserved c = record {
  seen = seen_more c.args.texts.now c.loop-text.text-index _ c.loop-text-test.true _ _ c.loop-text.invariant.seen c.in_ok-add_new.ensures.0;
  kept = kept_more c.args.texts.now c.loop-text.text-index _ c.loop-text-test.true _ _ _ _ c.loop-text.invariant.seen c.in_ok-add_new.ensures.1 c.loop-text.invariant.kept;
}
