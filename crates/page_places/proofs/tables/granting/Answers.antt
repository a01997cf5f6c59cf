use Rattle.std.proofs.Common.{◌+◌, ◌∙◌, ap, arith, get_or, map, sym, take}
use Rattle.std.proofs.lemmas.List.{map_more}
use Rattle.std.proofs.lemmas.List.Sums.{sum_by_push}
use Rattle.page_places.specs.Rows.{RowValue, row_value}
use Rattle.page_places.specs.Tables.{granting, grants_one}
use Rattle.page_places.proofs.tables.granting.Goals as goal

pub loop-row-preserved : goal.loop-row-preserved
loop-row-preserved c =
    let rows = c.args.rows.now in
    let i = c.loop-row.row-index in
    let row = c.row-item.result in
    let before = map row_value (take i rows) in
    let one = c.grants_one-count.ensures.value ∙ ap (λ some. grants_one (row_value some).verdict) c.row-item.is in
    record {
      counted =
          ap (λ n. n + c.grants_one-count.result) c.loop-row.invariant.counted ∙ ap (λ n. granting before + n) one
          ∙ sym (sum_by_push (λ (some : RowValue). grants_one some.verdict) before (row_value (get_or rows i row))) ∙ ap granting
          (sym (map_more row_value rows i row c.loop-row-test.true));
      few = omega (arith, c.loop-row.invariant.few, c.grants_one-count.ensures.few);
    }
