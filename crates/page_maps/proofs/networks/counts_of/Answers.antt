use Rattle.std.proofs.Common.{◌<◌, ◌∙◌, ap, arith, length, subst, sym}
use Rattle.page_maps.proofs.Counting.{AreCountsOfFirst, all_counts, as_many, classes_at, counts_more, counts_none, runs_at}
use Rattle.page_maps.proofs.networks.counts_of.Goals as goal

pub bounds-systems-place : goal.bounds-systems-place
bounds-systems-place c =
    let many = as_many c.args.policy.now c.args.systems.now c.requires.systems in
    let all = c.len-place-end.ensures ∙ ap length c.filesystems.ensures in
    omega (arith, c.loop-place-test.true)

pub counts_on-requires : goal.counts_on-requires
counts_on-requires c =
    let all = c.len-place-end.ensures ∙ ap length c.filesystems.ensures in
    runs_at c.args.policy.now c.args.systems.now c.requires.systems c.loop-place.place c.index-systems-place.result (omega (arith, c.loop-place-test.true)) c.index-systems-place.is

pub loop-place-init : goal.loop-place-init
loop-place-init c = subst (AreCountsOfFirst c.args.policy.now c.args.network 0) (sym c.new-counted.ensures.items) (counts_none c.args.policy.now c.args.network)

pub loop-place-preserved : goal.loop-place-preserved
loop-place-preserved c =
    let content = c.args.policy.now in
    let place = c.loop-place.place in
    let all = c.len-place-end.ensures ∙ ap length c.filesystems.ensures in
    let within : place < length content.table = omega (arith, c.loop-place-test.true) in
    counts_more content c.args.network place c.loop-place.counted.items c.push.new.self.items c.counts_on.result c.loop-place.invariant c.in_ok-push.ensures.items
    (c.counts_on.ensures content (classes_at content c.args.systems.now c.requires.systems place c.index-systems-place.result within c.index-systems-place.is))

pub returns : goal.returns
returns c =
    let all = c.len-place-end.ensures ∙ ap length c.filesystems.ensures in
    all_counts c.args.policy.now c.args.network c.loop-place.place c.loop-place.counted.items c.loop-place.invariant
    (omega (arith, c.loop-place.auto.place-end, c.loop-place-test.false))
