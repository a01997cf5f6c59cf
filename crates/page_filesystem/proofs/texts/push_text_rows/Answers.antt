use Rattle.std.proofs.Common.{◌≡◌, ◌<◌, ◌+◌, ◌++◌, ◌∙◌, ap, arith, get_or, length, take_all}
use Rattle.std.proofs.lemmas.Iterator.Consumers.{YieldsList-end, YieldsList-turn}
use Rattle.std.proofs.lemmas.Iterator.Splits.{YieldsList-from_lines}
use Rattle.std.proofs.lemmas.List.{length_push}
use Rattle.std.specs.Str.Iter.{lines_rest}
use Rattle.std.specs.Str.Lines.{lines}
use Rattle.std.specs.String.{string_bytes}
use Rattle.page_filesystem.specs.Texts.{line_row, text_rows}
use Rattle.page_filesystem.proofs.Lined.{rows_more}
use Rattle.page_filesystem.proofs.texts.push_text_rows.Goals as goal

pub loop-line-preserved : goal.loop-line-preserved
loop-line-preserved c =
    let text = c.args.text.now in
    let fs = c.args.fs.0 in
    let k = length c.loop-line.yielded in
    let same = c.into_iter-line-iterator.ensures.into_iter_gives in
    let turn : (k < length (lines text)) × (c.in-Some.line.now ≡ get_or (lines text) k c.in-Some.line.now) =
    YieldsList-turn (YieldsList-from_lines {s = c.into_iter-line-iterator.result} text (ap lines_rest same ∙ c.lines-line-items.ensures.rest))
    c.loop-line.yielded _ c.loop-line.yielded_by _ _ c.in-Some.line c.in-Some.is c.next.ensures.steps in
    let added = c.in_ok-push_text_row.ensures
    ∙ ap (λ note. string_bytes c.loop-line.page ++ line_row fs (record { number = c.loop-line.number + 1; note = note; text = c.in-Some.line.now }))
    (c.note_on.ensures c.requires.ascending) in
    rw length_push (record {
      counted = ap (λ n. n + 1) c.loop-line.invariant.counted;
      added = rows_more fs c.args.notes.now (lines text) k c.loop-line.number c.in-Some.line.now (string_bytes c.args.page.now)
          (string_bytes c.loop-line.page) (string_bytes c.push_text_row.new.page) turn.0 turn.1 c.loop-line.invariant.counted
          c.loop-line.invariant.added added;
    })

pub returns : goal.returns
returns c =
    let text = c.args.text.now in
    let k = length c.loop-line.yielded in
    let same = c.into_iter-line-iterator.ensures.into_iter_gives in
    let ended = YieldsList-end (YieldsList-from_lines {s = c.into_iter-line-iterator.result} text
    (ap lines_rest same ∙ c.lines-line-items.ensures.rest)) c.loop-line.yielded _ c.loop-line.yielded_by _ _ c.in-None.is c.next.ensures.steps in
    c.loop-line.invariant.added ∙ ap (λ ls. string_bytes c.args.page.now ++ text_rows c.args.fs.0 c.args.notes.now 0 ls)
    (take_all k (lines text) (omega (arith, ended.1)))
