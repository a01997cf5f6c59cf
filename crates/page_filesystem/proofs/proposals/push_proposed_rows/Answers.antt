use Rattle.std.proofs.Common.{◌≡◌, ◌<◌, ◌+◌, ◌++◌, ◌∙◌, ap, arith, get_or, length, take_all}
use Rattle.std.proofs.lemmas.Iterator.Consumers.{YieldsList-end, YieldsList-turn}
use Rattle.std.proofs.lemmas.Iterator.Splits.{YieldsList-from_lines}
use Rattle.std.proofs.lemmas.List.{length_push}
use Rattle.std.specs.Str.Iter.{lines_rest}
use Rattle.std.specs.Str.Lines.{lines}
use Rattle.std.specs.String.{string_bytes}
use Rattle.page_filesystem.specs.Proposals.{proposed_rows}
use Rattle.page_filesystem.proofs.InForce.{proposed_more}
use Rattle.page_filesystem.proofs.proposals.push_proposed_rows.Goals as goal

pub loop-line-preserved : goal.loop-line-preserved
loop-line-preserved c =
    let text = c.args.text.now in
    let k = length c.loop-line.yielded in
    let same = c.into_iter-line-iterator.ensures.into_iter_gives in
    let turn : (k < length (lines text)) × (c.in-Some.line.now ≡ get_or (lines text) k c.in-Some.line.now) =
    YieldsList-turn (YieldsList-from_lines {s = c.into_iter-line-iterator.result} text (ap lines_rest same ∙ c.lines-line-items.ensures.rest))
    c.loop-line.yielded _ c.loop-line.yielded_by _ _ c.in-Some.line c.in-Some.is c.next.ensures.steps in
    rw length_push (record {
      counted = ap (λ n. n + 1) c.loop-line.invariant.counted;
      added = λ given has.
          proposed_more given (lines text) k c.loop-line.number c.in-Some.line.now (string_bytes c.args.page.now) (string_bytes c.loop-line.page)
          (string_bytes c.push_proposed_row.new.page) turn.0 turn.1 c.loop-line.invariant.counted (c.loop-line.invariant.added given has)
          (c.in_ok-push_proposed_row.ensures given has);
    })

pub returns : goal.returns
returns c = λ given has.
    let text = c.args.text.now in
    let k = length c.loop-line.yielded in
    let same = c.into_iter-line-iterator.ensures.into_iter_gives in
    let ended = YieldsList-end (YieldsList-from_lines {s = c.into_iter-line-iterator.result} text
    (ap lines_rest same ∙ c.lines-line-items.ensures.rest)) c.loop-line.yielded _ c.loop-line.yielded_by _ _ c.in-None.is c.next.ensures.steps in
    c.loop-line.invariant.added given has ∙ ap (λ ls. string_bytes c.args.page.now ++ proposed_rows given 0 ls)
    (take_all k (lines text) (omega (arith, ended.1)))
