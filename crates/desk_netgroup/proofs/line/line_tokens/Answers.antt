use Rattle.desk_netgroup.proofs.FormLemmas.{all_tokens, tokens_more}
use Rattle.desk_netgroup.proofs.line.line_tokens.Goals as goal

pub loop-part-preserved : goal.loop-part-preserved
loop-part-preserved c =
    tokens_more c.parts-part-items.result.now _ c.parts-part-items.ensures.parts c.loop-part.part-index _ c.loop-part-test.true _ _ c.loop-part.invariant c.in_ok-push_tokens.ensures

pub returns : goal.returns
returns c =
    all_tokens c.parts-part-items.result.now _ c.parts-part-items.ensures.parts c.loop-part.part-index c.loop-part-test.false _ c.loop-part.invariant
