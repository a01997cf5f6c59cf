use Rattle.std.proofs.Common.{◌≡◌, ◌<◌, ◌+◌, ◌∙◌, ap, sym, length, get_or, take, take_all, arith}
use Rattle.std.proofs.lemmas.Iterator.Consumers.{YieldsList-end, YieldsList-turn}
use Rattle.std.proofs.lemmas.Iterator.Splits.{YieldsList-from_lines}
use Rattle.std.proofs.lemmas.List.{length_push}
use Rattle.std.proofs.lemmas.Result.{err_from_is_err_and}
use Rattle.std.specs.List.{filter_map}
use Rattle.std.specs.Str.Iter.{lines_rest}
use Rattle.std.specs.Str.Lines.{lines}
use Rattle.desk_text.specs.Reading.{fault_of, value_of}
use Rattle.desk_tables.specs.Rows.{answered_lines}
use Rattle.desk_tables.proofs.RowLemmas.{all_lines, all_read, exit, line_is, read_more, sound_more}
use Rattle.desk_tables.proofs.rows.read_rows.Goals as goal

pub loop-line-preserved : goal.loop-line-preserved
loop-line-preserved g c =
    let text = c.args.text.now in
    let k = length c.loop-line.yielded in
    let same = c.into_iter-line-iterator.ensures.into_iter_gives in
    let turn : (k < length (lines text)) × (c.in-Some.line.now ≡ get_or (lines text) k c.in-Some.line.now) =
    YieldsList-turn (YieldsList-from_lines {s = c.into_iter-line-iterator.result} text (ap lines_rest same ∙ c.lines-line-items.ensures.rest)) c.loop-line.yielded _ c.loop-line.yielded_by _ _ c.in-Some.line c.in-Some.is c.next.ensures.steps in
    rw length_push (record {
      counted = ap (λ n. n + 1) c.loop-line.invariant.counted;
      read = λ answer reads.
          let at = line_is answer text k c.loop-line.number c.in-Some.line.now c.loop-line.invariant.counted turn in
          let so_far = c.loop-line.invariant.read answer reads in
          let pushed = c.in_ok-push_row.ensures (answer c.in-Some.line.now) (reads _ _ _ c.read.ensures) in (
            sound_more (answered_lines answer text) k _ at c.in_ok-push_row.field-0 _ _ so_far.0 pushed,
            read_more (answered_lines answer text) k _ at c.in_ok-push_row.field-0 _ _ so_far.1 pushed,
          );
    })

pub returns-in_err-push_row : goal.returns-in_err-push_row
returns-in_err-push_row g c = λ answer reads.
    let text = c.args.text.now in
    let k = length c.loop-line.yielded in
    let same = c.into_iter-line-iterator.ensures.into_iter_gives in
    let turn : (k < length (lines text)) × (c.in-Some.line.now ≡ get_or (lines text) k c.in-Some.line.now) =
    YieldsList-turn (YieldsList-from_lines {s = c.into_iter-line-iterator.result} text (ap lines_rest same ∙ c.lines-line-items.ensures.rest)) c.loop-line.yielded _ c.loop-line.yielded_by _ _ c.in-Some.line c.in-Some.is c.next.ensures.steps in
    let at = line_is answer text k c.loop-line.number c.in-Some.line.now c.loop-line.invariant.counted turn in
    let pushed = c.in_err-push_row.ensures (answer c.in-Some.line.now) (reads _ _ _ c.read.ensures) in
    let p = err_from_is_err_and c.from_residual.result c.from_residual.ensures.1 in
    rw (p.1, p.2) (exit (answered_lines answer text) k _ at c.in_err-push_row.field-0.0 _ _ (c.loop-line.invariant.read answer reads).0 pushed)

pub returns : goal.returns
returns g c = λ answer reads.
    let text = c.args.text.now in
    let ls = answered_lines answer text in
    let k = length c.loop-line.yielded in
    let same = c.into_iter-line-iterator.ensures.into_iter_gives in
    let ended = YieldsList-end (YieldsList-from_lines {s = c.into_iter-line-iterator.result} text (ap lines_rest same ∙ c.lines-line-items.ensures.rest)) c.loop-line.yielded _ c.loop-line.yielded_by _ _ c.in-None.is c.next.ensures.steps in
    let whole : take k ls ≡ ls = take_all k ls (omega (arith, all_lines answer text, ended.1)) in
    let so_far = c.loop-line.invariant.read answer reads in
    all_read ls c.loop-line.rows (ap (filter_map fault_of) (sym whole) ∙ so_far.0) (so_far.1 ∙ ap (filter_map value_of) whole)
