use Rattle.std.proofs.Common.{◌∙◌, ap, arith}
use Rattle.std.proofs.lemmas.Iterator.Consumers.{YieldsList-end}
use Rattle.std.proofs.lemmas.Iterator.Splits.{YieldsList-from_lines}
use Rattle.std.specs.Str.Iter.{lines_rest}
use Rattle.page_filesystem.proofs.texts.line_count.Goals as goal

pub returns : goal.returns
returns c =
    let text = c.args.text.now in
    let same = c.into_iter-line-iterator.ensures.into_iter_gives in
    let ended = YieldsList-end (YieldsList-from_lines {s = c.into_iter-line-iterator.result} text
    (ap lines_rest same ∙ c.lines-line-items.ensures.rest)) c.loop-line.yielded _ c.loop-line.yielded_by _ _ c.in-None.is c.next.ensures.steps in
    omega (arith, ended.1, c.loop-line.invariant)
