use Rattle.std.proofs.Common.{◌≡◌, ◌<◌, ◌∙◌, ap, arith, get_or, length, subst, take_all}
use Rattle.std.proofs.lemmas.Iterator.Consumers.{YieldsList-end, YieldsList-turn}
use Rattle.std.proofs.lemmas.Iterator.Splits.{YieldsList-from_lines}
use Rattle.std.proofs.lemmas.List.{length_push}
use Rattle.std.specs.Str.Iter.{lines_rest}
use Rattle.std.specs.Str.Lines.{lines}
use Rattle.page_filesystem.specs.Proposals.{HasLines}
use Rattle.page_filesystem.proofs.InForce.{one_more}
use Rattle.page_filesystem.proofs.proposals.lines_of.Goals as goal

pub loop-line-preserved : goal.loop-line-preserved
loop-line-preserved c =
    let text = c.args.text.now in
    let k = length c.loop-line.yielded in
    let same = c.into_iter-line-iterator.ensures.into_iter_gives in
    let turn : (k < length (lines text)) × (c.in-Some.line.now ≡ get_or (lines text) k c.in-Some.line.now) =
    YieldsList-turn (YieldsList-from_lines {s = c.into_iter-line-iterator.result} text (ap lines_rest same ∙ c.lines-line-items.ensures.rest))
    c.loop-line.yielded _ c.loop-line.yielded_by _ _ c.in-Some.line c.in-Some.is c.next.ensures.steps in
    rw length_push (one_more c.loop-line.known c.insert.new.self c.in-Some.line (lines text) k turn.0 turn.1 c.in_ok-insert.ensures.updates.0
    c.loop-line.invariant)

pub returns : goal.returns
returns c =
    let text = c.args.text.now in
    let k = length c.loop-line.yielded in
    let same = c.into_iter-line-iterator.ensures.into_iter_gives in
    let ended = YieldsList-end (YieldsList-from_lines {s = c.into_iter-line-iterator.result} text
    (ap lines_rest same ∙ c.lines-line-items.ensures.rest)) c.loop-line.yielded _ c.loop-line.yielded_by _ _ c.in-None.is c.next.ensures.steps in
    subst (λ given. HasLines given c.loop-line.known) (take_all k (lines text) (omega (arith, ended.1))) c.loop-line.invariant
