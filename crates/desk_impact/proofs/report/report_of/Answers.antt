use Rattle.std.proofs.Common.{arith, map, subst, sym}
use Rattle.std.specs.List.{All}
use Rattle.std.specs.String.{string_bytes}
use Rattle.std.proofs.lemmas.List.Elements.{All-nil}
use Rattle.desk_impact.specs.Impact.{IsImpact, change_value}
use Rattle.desk_impact.specs.KnownSystems.{IsKnownChange}
use Rattle.desk_impact.specs.Places.{AreInOrder, paths_in, place_of, place_verdicts, taken_by}
use Rattle.desk_impact.specs.Writings.{AreWritings}
use Rattle.desk_impact.proofs.Reporting.{reported, told_first, told_next}
use Rattle.desk_impact.proofs.report.report_of.Goals as goal

pub loop-place-init : goal.loop-place-init
loop-place-init g c = record {
  told = told_first (g.V.PolicyView.in_force c.args.before.now) (g.V.PolicyView.in_force c.args.after.now) c.args.all (string_bytes c.new-text.result) c.new-text.ensures.bytes;
  few = omega arith;
  few_others = omega arith;
  known = subst (All (IsKnownChange (g.V.PolicyView.in_force c.args.before.now) (g.V.PolicyView.in_force c.args.after.now))) (sym c.new-known.ensures.items)
      (All-nil (IsKnownChange (g.V.PolicyView.in_force c.args.before.now) (g.V.PolicyView.in_force c.args.after.now)));
}

pub changes_at-requires : goal.changes_at-requires
changes_at-requires g c = record {
  taken =
      subst (λ items. AreInOrder (taken_by (g.V.PolicyView.in_force c.args.before.now) (g.V.PolicyView.in_force c.args.after.now)) (paths_in items)) (sym c.as_slice.ensures.value)
      (subst (λ content. AreInOrder (taken_by (g.V.PolicyView.in_force c.args.before.now) content) (paths_in c.in_ok-taken.taken.items)) c.policy-2.ensures
      (subst (λ content. AreInOrder (taken_by content c.policy-2.result.now) (paths_in c.in_ok-taken.taken.items)) c.policy.ensures c.in_ok-taken.ensures));
  writings =
      subst (AreWritings (g.V.PolicyView.in_force c.args.before.now) (g.V.PolicyView.in_force c.args.after.now)) (sym c.as_slice-in-loop-place.ensures.value)
      (subst (λ content. AreWritings (g.V.PolicyView.in_force c.args.before.now) content c.in_ok-writings.writings.items) c.policy-4.ensures
      (subst (λ content. AreWritings content c.policy-4.result.now c.in_ok-writings.writings.items) c.policy-3.ensures c.in_ok-writings.ensures));
  known = c.loop-place.invariant.known;
}

pub tell_place-requires : goal.tell_place-requires
tell_place-requires g c =
    let before = g.V.PolicyView.in_force c.args.before.now in
    let after = g.V.PolicyView.in_force c.args.after.now in
    subst (λ changes. IsImpact before after (place_verdicts before after (place_of c.place-item.result)) (map change_value changes)) (sym c.as_slice-in-loop-place-2.ensures.value) c.in_ok-changes.ensures.changes

pub overflow_add-mattering : goal.overflow_add-mattering
overflow_add-mattering g c = omega arith

pub overflow_add-others : goal.overflow_add-others
overflow_add-others g c = omega arith

pub loop-place-preserved : goal.loop-place-preserved
loop-place-preserved g c = record {
  told = told_next c.args.places.now c.loop-place.place-index c.place-item.result c.loop-place-test.true c.place-item.is
      (g.V.PolicyView.in_force c.args.before.now) (g.V.PolicyView.in_force c.args.after.now) c.args.all (string_bytes c.loop-place.text) (string_bytes c.tell_place.new.text)
      c.loop-place.mattering c.loop-place.others c.in_ok-told.told c.loop-place.invariant.told c.in_ok-told.ensures;
  few = omega arith;
  few_others = omega arith;
  known = c.in_ok-changes.ensures.known;
}

pub returns : goal.returns
returns g c =
    reported (g.V.PolicyView.in_force c.args.before.now) (g.V.PolicyView.in_force c.args.after.now) c.args.all
    c.args.places.now c.loop-place.place-index (string_bytes c.loop-place.text) c.loop-place.others (record { text = c.push_last_line.new.text; mattering = c.loop-place.mattering })
    c.loop-place-test.false c.loop-place.invariant.told c.in_ok-push_last_line.ensures
