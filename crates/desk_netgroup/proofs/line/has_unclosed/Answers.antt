use Rattle.std.proofs.Common.{◌∙◌, ap}
use Rattle.std.proofs.lemmas.List.{take_all}
use Rattle.desk_netgroup.specs.Faults.{has_unclosed}
use Rattle.desk_netgroup.specs.PrivateLine.{is_open_after}
use Rattle.desk_netgroup.proofs.FormLemmas.{unclosed_at}
use Rattle.desk_netgroup.proofs.line.has_unclosed.Goals as goal

pub loop-token-preserved : goal.loop-token-preserved
loop-token-preserved c =
    c.is_open_after-is_open.ensures ∙ ap (λ was. is_open_after was c.token-item.result) c.loop-token.invariant
    ∙ unclosed_at c.args.tokens.now c.loop-token.token-index c.token-item.result c.loop-token-test.true c.token-item.is

pub returns : goal.returns
returns c = c.loop-token.invariant ∙ ap has_unclosed (take_all c.loop-token.token-index c.args.tokens.now c.loop-token-test.false)
