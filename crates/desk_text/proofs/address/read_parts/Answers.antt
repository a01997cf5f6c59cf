use Rattle.std.proofs.Common.{◌≡◌, ◌<◌, ◌==◌, ◌∙◌, length, get_or, ap, take_all, rules, tests, arith}
use Rattle.std.proofs.lemmas.Iterator.Splits.{YieldsList-from_slice_split}
use Rattle.std.proofs.lemmas.Iterator.Consumers.{YieldsList-turn, YieldsList-end}
use Rattle.std.proofs.lemmas.List.{length_push}
use Rattle.std.specs.Slice.Iter.{split_rest, split_done, split_callee}
use Rattle.desk_text.specs.Address.{dotted_parts, read_parts}
use Rattle.desk_text.proofs.AddrParts.{SoFar-more}
use Rattle.desk_text.proofs.address.read_parts.Goals as goal
use Rattle.desk_text.proofs.address.read_parts.Goals.{In-Some, In-None}

turn : (c : In-Some) → (length c.loop-part.yielded < length (dotted_parts c.args.text.now)) × (c.in-Some.part.now ≡ get_or (dotted_parts c.args.text.now) (length c.loop-part.yielded) c.in-Some.part.now)
turn c =
    let same = c.into_iter-part-iterator.ensures.into_iter_gives in
    let made = c.split-part-items.ensures in
    YieldsList-turn (YieldsList-from_slice_split {s = c.into_iter-part-iterator.result} _ (λ b. b == 46) c.args.text.now (ap split_rest same ∙ made.rest ∙ c.as_bytes.ensures.value) (ap split_done same ∙ made.done) (ap split_callee same ∙ made.closure) (λ x r q k. search (rules, tests))) c.loop-part.yielded _ c.loop-part.yielded_by _ _ c.in-Some.part c.in-Some.is c.next.ensures.steps

whole : (c : In-None) → length c.loop-part.yielded ≡ length (dotted_parts c.args.text.now)
whole c =
    let same = c.into_iter-part-iterator.ensures.into_iter_gives in
    let made = c.split-part-items.ensures in
    (YieldsList-end (YieldsList-from_slice_split {s = c.into_iter-part-iterator.result} _ (λ b. b == 46) c.args.text.now (ap split_rest same ∙ made.rest ∙ c.as_bytes.ensures.value) (ap split_done same ∙ made.done) (ap split_callee same ∙ made.closure) (λ x r q k. search (rules, tests))) c.loop-part.yielded _ c.loop-part.yielded_by _ _ c.in-None.is c.next.ensures.steps).1

pub loop-part-preserved : goal.loop-part-preserved
loop-part-preserved c =
    let s = (goal.at.loop-part-preserved c).In-Some in
    rw length_push (record {
      count = omega (arith, c.loop-part.invariant.count);
      number = SoFar-more (dotted_parts c.args.text.now) (length c.loop-part.yielded) c.in-Some.part.now _ _ _ (turn s) c.loop-part.invariant.number c.read_octet.ensures.value c.read_octet.ensures.small c.with_octet-number.ensures;
    })

pub returns-clause-count : goal.returns-clause-count
returns-clause-count c = c.loop-part.invariant.count ∙ whole (goal.at.returns-clause-count c).In-None

pub returns-clause-number : goal.returns-clause-number
returns-clause-number c few =
    let all = whole (goal.at.returns-clause-number c).In-None in
    c.loop-part.invariant.number.is (omega (arith, c.loop-part.invariant.count)) ∙ ap read_parts (take_all (length c.loop-part.yielded) (dotted_parts c.args.text.now) (omega (arith, all)))
