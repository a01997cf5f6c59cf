use Rattle.std.proofs.Common.{◌≡◌, ◌<◌, ◌==◌, ◌∙◌, ◌||◌, length, get_or, ap, take_all, rules, tests, arith}
use Rattle.std.specs.List.{list_any, slice_split}
use Rattle.std.proofs.lemmas.Iterator.Splits.{YieldsList-from_slice_split}
use Rattle.std.proofs.lemmas.Iterator.Consumers.{YieldsList-turn, YieldsList-end}
use Rattle.std.proofs.lemmas.List.{length_push}
use Rattle.std.specs.Slice.Iter.{split_rest, split_done, split_callee}
use Rattle.desk_text.specs.Path.{is_dot_component}
use Rattle.desk_text.specs.PrivatePath.{is_empty}
use Rattle.desk_text.proofs.PathParts.{any_more}
use Rattle.desk_text.proofs.path.look_at_parts.Goals as goal
use Rattle.desk_text.proofs.path.look_at_parts.Goals.{In-Some, In-None}

turn : (c : In-Some) → (length c.loop-part.yielded < length (slice_split (λ b. b == 47) c.args.text.now)) × (c.in-Some.part.now ≡ get_or (slice_split (λ b. b == 47) c.args.text.now) (length c.loop-part.yielded) c.in-Some.part.now)
turn c =
    let same = c.into_iter-part-iterator.ensures.into_iter_gives in
    let made = c.split-part-items.ensures in
    YieldsList-turn (YieldsList-from_slice_split {s = c.into_iter-part-iterator.result} _ (λ b. b == 47) c.args.text.now (ap split_rest same ∙ made.rest) (ap split_done same ∙ made.done) (ap split_callee same ∙ made.closure) (λ x r q k. search (rules, tests))) c.loop-part.yielded _ c.loop-part.yielded_by _ _ c.in-Some.part c.in-Some.is c.next.ensures.steps

whole : (c : In-None) → length c.loop-part.yielded ≡ length (slice_split (λ b. b == 47) c.args.text.now)
whole c =
    let same = c.into_iter-part-iterator.ensures.into_iter_gives in
    let made = c.split-part-items.ensures in
    (YieldsList-end (YieldsList-from_slice_split {s = c.into_iter-part-iterator.result} _ (λ b. b == 47) c.args.text.now (ap split_rest same ∙ made.rest) (ap split_done same ∙ made.done) (ap split_callee same ∙ made.closure) (λ x r q k. search (rules, tests))) c.loop-part.yielded _ c.loop-part.yielded_by _ _ c.in-None.is c.next.ensures.steps).1

pub loop-part-preserved : goal.loop-part-preserved
loop-part-preserved c =
    let s = (goal.at.loop-part-preserved c).In-Some in
    let parts = slice_split (λ b. b == 47) c.args.text.now in
    rw length_push (record {
      dots = ap (λ b. c.loop-part.has_dots || b) c.is_dot_component-has_dots.ensures ∙ any_more is_dot_component parts (length c.loop-part.yielded) c.in-Some.part.now (turn s) c.loop-part.has_dots c.loop-part.invariant.dots;
      empty = ap (λ b. c.loop-part.has_empty || b) c.is_empty-has_empty.ensures ∙ any_more is_empty parts (length c.loop-part.yielded) c.in-Some.part.now (turn s) c.loop-part.has_empty c.loop-part.invariant.empty;
    })

pub returns-clause-dots : goal.returns-clause-dots
returns-clause-dots c =
    let all = whole (goal.at.returns-clause-dots c).In-None in
    c.loop-part.invariant.dots ∙ ap (list_any is_dot_component) (take_all (length c.loop-part.yielded) (slice_split (λ b. b == 47) c.args.text.now) (omega (arith, all)))

pub returns-clause-empty : goal.returns-clause-empty
returns-clause-empty c =
    let all = whole (goal.at.returns-clause-empty c).In-None in
    c.loop-part.invariant.empty ∙ ap (list_any is_empty) (take_all (length c.loop-part.yielded) (slice_split (λ b. b == 47) c.args.text.now) (omega (arith, all)))
