use Rattle.std.proofs.Common.{◌≡◌, ◌<◌, ◌+◌, ◌∙◌, ap, sym, subst, refl, length, get_or, take_all, arith}
use Rattle.std.proofs.lemmas.Iterator.Consumers.{YieldsList-end, YieldsList-turn}
use Rattle.std.proofs.lemmas.Iterator.Splits.{YieldsList-from_lines}
use Rattle.std.proofs.lemmas.List.{length_push}
use Rattle.std.proofs.lemmas.List.Elements.{All-push}
use Rattle.std.specs.List.{All, filter_map}
use Rattle.std.specs.Str.Iter.{lines_rest}
use Rattle.std.specs.Str.Lines.{lines}
use Rattle.desk_text.specs.Reading.{fault_of}
use Rattle.desk_tables.specs.Faults.{IsPlaced}
use Rattle.desk_tables.specs.Rows.{answered_lines}
use Rattle.desk_tables.proofs.FaultLemmas.{lies_on, next_fault, same_faults}
use Rattle.desk_tables.proofs.RowLemmas.{all_lines, line_is}
use Rattle.desk_tables.proofs.faults.find_faults.Goals as goal

pub loop-line-preserved-in-Continue-branch-3 : goal.loop-line-preserved-in-Continue-branch-3
loop-line-preserved-in-Continue-branch-3 g c =
    let text = c.args.text.now in
    let k = length c.loop-line.yielded in
    let same = c.into_iter-line-iterator.ensures.into_iter_gives in
    let turn : (k < length (lines text)) × (c.in-Some.line.now ≡ get_or (lines text) k c.in-Some.line.now) =
    YieldsList-turn (YieldsList-from_lines {s = c.into_iter-line-iterator.result} text (ap lines_rest same ∙ c.lines-line-items.ensures.rest)) c.loop-line.yielded _ c.loop-line.yielded_by _ _ c.in-Some.line c.in-Some.is c.next.ensures.steps in
    rw length_push (record {
      counted = ap (λ n. n + 1) c.loop-line.invariant.counted;
      faults = λ answer reads.
          let at = line_is answer text k c.loop-line.number c.in-Some.line.now c.loop-line.invariant.counted turn in
          next_fault (answered_lines answer text) k _ at c.loop-line.found (c.loop-line.invariant.faults answer reads) c.in_ok-rule.field-0 _ _ _ c.in-Some-2.is
          (c.in_ok-rule.ensures (answer c.in-Some.line.now) (reads _ _ _ c.read.ensures)) refl c.in_ok-push.ensures.added;
      placed =
          let within = lies_on text k c.in-Some.line.now c.place_on.result turn (c.place_on.ensures.line ∙ ap (λ n. n + 1) c.loop-line.invariant.counted) c.place_on.ensures.within in
          subst (All (IsPlaced text)) (sym c.in_ok-push.ensures.added)
          (All-push (IsPlaced text) c.loop-line.found _ c.loop-line.invariant.placed (record { place = c.place_on.result; there = refl; number = c.place_on.ensures.line; lies = within }));
    })

pub loop-line-preserved : goal.loop-line-preserved
loop-line-preserved g c =
    let text = c.args.text.now in
    let k = length c.loop-line.yielded in
    let same = c.into_iter-line-iterator.ensures.into_iter_gives in
    let turn : (k < length (lines text)) × (c.in-Some.line.now ≡ get_or (lines text) k c.in-Some.line.now) =
    YieldsList-turn (YieldsList-from_lines {s = c.into_iter-line-iterator.result} text (ap lines_rest same ∙ c.lines-line-items.ensures.rest)) c.loop-line.yielded _ c.loop-line.yielded_by _ _ c.in-Some.line c.in-Some.is c.next.ensures.steps in
    rw length_push (record {
      counted = ap (λ n. n + 1) c.loop-line.invariant.counted;
      faults = λ answer reads.
          let at = line_is answer text k c.loop-line.number c.in-Some.line.now c.loop-line.invariant.counted turn in
          same_faults (answered_lines answer text) k _ at c.loop-line.found (c.loop-line.invariant.faults answer reads) c.in_ok-rule.field-0 c.in_default.is
          (c.in_ok-rule.ensures (answer c.in-Some.line.now) (reads _ _ _ c.read.ensures));
      placed = c.loop-line.invariant.placed;
    })

pub returns-clause-faults : goal.returns-clause-faults
returns-clause-faults g c = λ answer reads.
    let text = c.args.text.now in
    let ls = answered_lines answer text in
    let k = length c.loop-line.yielded in
    let same = c.into_iter-line-iterator.ensures.into_iter_gives in
    let ended = YieldsList-end (YieldsList-from_lines {s = c.into_iter-line-iterator.result} text (ap lines_rest same ∙ c.lines-line-items.ensures.rest)) c.loop-line.yielded _ c.loop-line.yielded_by _ _ c.in-None.is c.next.ensures.steps in
    c.loop-line.invariant.faults answer reads ∙ ap (filter_map fault_of) (take_all k ls (omega (arith, all_lines answer text, ended.1)))
