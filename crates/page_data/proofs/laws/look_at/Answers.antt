use Rattle.std.proofs.Common.{◌<◌, ◌^◌, subst}
use Rattle.std.proofs.lemmas.List.{take_all}
use Rattle.std.proofs.lemmas.List.Elements.{All-more}
use Rattle.desk_exports.specs.declared.entry.Entry.{Entry}
use Rattle.desk_policy.specs.declared.row.Row.{Row}
use Rattle.page_data.specs.Laws.{HaveNumbers}
use Rattle.page_data.proofs.laws.look_at.Goals as goal

abbrev Small : Row → Type 0
Small row = row.entry.line < 2 ^ 32

pub loop-row-preserved : goal.loop-row-preserved
loop-row-preserved c =
    let here : Small c.row-item.result = subst (λ (entry : Entry). entry.line < 2 ^ 32) c.deref.ensures c.has_bits.ensures in
    All-more Small c.args.rows.now c.loop-row.row-index c.row-item.result c.loop-row-test.true c.loop-row.invariant (subst Small c.row-item.is here)

pub returns : goal.returns
returns c = subst HaveNumbers (take_all c.loop-row.row-index c.args.rows.now c.loop-row-test.false) c.loop-row.invariant
