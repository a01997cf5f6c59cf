use Rattle.std.proofs.Common.{All, List, subst}
use Rattle.std.proofs.lemmas.List.{take_all}
use Rattle.std.proofs.lemmas.List.Elements.{All-more}
use Rattle.desk_policy.specs.declared.row.Row.{Row}
use Rattle.page_data.specs.Laws.{HaveNumbers}
use Rattle.page_data.proofs.laws.look_at_all.Goals as goal

pub loop-rows-preserved : goal.loop-rows-preserved
loop-rows-preserved c =
    let here : HaveNumbers c.rows-item.result = subst HaveNumbers c.as_slice.ensures c.look_at.ensures in
    All-more HaveNumbers c.args.lists.now c.loop-rows.rows-index c.rows-item.result c.loop-rows-test.true c.loop-rows.invariant (subst HaveNumbers c.rows-item.is here)

pub returns : goal.returns
returns c = subst (λ (lists : List (List Row)). All HaveNumbers lists) (take_all c.loop-rows.rows-index c.args.lists.now c.loop-rows-test.false) c.loop-rows.invariant
