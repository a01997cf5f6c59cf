use Rattle.std.proofs.Common.{◌≤◌, ◌∙◌, cond, ap, arith, map, subst, sym, take}
use Rattle.std.specs.List.{sum_by}
use Rattle.std.proofs.lemmas.List.{length-take, take_all}
use Rattle.page_data.specs.Rows.{row_value}
use Rattle.page_data.specs.Tables.{grants_row}
use Rattle.page_data.proofs.Tabled.{denials_few, denials_sum, one_or_none, sum_value}
use Rattle.page_data.specs.declared.rows.TableRow.{TableRow}
use Rattle.page_data.proofs.tables.denials_among.Goals as goal

pub overflow_add-count : goal.overflow_add-count
overflow_add-count c =
    let rows = c.args.rows.now in
    let i = c.loop-row.row-index in
    let few = denials_few (take i rows) in
    let long = length-take i rows in
    let one : c.denials_in-count.result ≤ 1 = subst (λ n. n ≤ 1) (sym c.denials_in-count.ensures) (one_or_none (grants_row (row_value c.row-item.result))) in
    let so_far = c.loop-row.invariant in
    let lt = c.loop-row-test.true in
    grind arith

pub returns : goal.returns
returns c =
    c.loop-row.invariant ∙ ap (sum_by (λ (row : TableRow). cond (grants_row (row_value row)) 0 1)) (take_all c.loop-row.row-index c.args.rows.now c.loop-row-test.false) ∙ sum_value c.args.rows.now
    ∙ denials_sum (map row_value c.args.rows.now)
