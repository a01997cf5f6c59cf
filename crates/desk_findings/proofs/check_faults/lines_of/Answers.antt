-- Each turn adds the next line.
use Rattle.std.proofs.Common.{◌≡◌, ◌<◌, ◌++◌, ◌∷◌, ◌∙◌, ℕ, List, [], ap, sym, length, get_or, map, take, take_all, arith}
use Rattle.std.proofs.lemmas.Iterator.Consumers.{YieldsList-end, YieldsList-turn}
use Rattle.std.proofs.lemmas.Iterator.Splits.{YieldsList-from_lines}
use Rattle.std.proofs.lemmas.List.{length_push, map-append, take_more}
use Rattle.std.specs.Str.Iter.{lines_rest}
use Rattle.std.specs.Str.Lines.{lines}
use Rattle.desk_findings.proofs.check_faults.lines_of.Goals as goal

pub loop-line-preserved : goal.loop-line-preserved
loop-line-preserved c =
    let text = c.args.text.now in
    let k = length c.loop-line.yielded in
    let same = c.into_iter-line-iterator.ensures.into_iter_gives in
    let turn : (k < length (lines text)) × (c.in-Some.line.now ≡ get_or (lines text) k c.in-Some.line.now) =
    YieldsList-turn (YieldsList-from_lines {s = c.into_iter-line-iterator.result} text (ap lines_rest same ∙ c.lines-line-items.ensures.rest)) c.loop-line.yielded _ c.loop-line.yielded_by _ _ c.in-Some.line c.in-Some.is c.next.ensures.steps in
    rw length_push (ap (map (λ line. line.now)) c.in_ok-push.ensures.items
    ∙ map-append (λ line. line.now) c.loop-line.found.items (c.in-Some.line ∷ [])
    ∙ ap (λ (ls : List (List ℕ)). ls ++ c.in-Some.line.now ∷ []) c.loop-line.invariant
    ∙ ap (λ (l : List ℕ). take k (lines text) ++ l ∷ []) turn.1
    ∙ sym (take_more (lines text) k c.in-Some.line.now turn.0))

pub returns : goal.returns
returns c =
    let text = c.args.text.now in
    let k = length c.loop-line.yielded in
    let same = c.into_iter-line-iterator.ensures.into_iter_gives in
    let ended = YieldsList-end (YieldsList-from_lines {s = c.into_iter-line-iterator.result} text (ap lines_rest same ∙ c.lines-line-items.ensures.rest)) c.loop-line.yielded _ c.loop-line.yielded_by _ _ c.in-None.is c.next.ensures.steps in
    c.loop-line.invariant ∙ take_all k (lines text) (omega (arith, ended.1))
