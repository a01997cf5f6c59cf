use Rattle.std.proofs.Common.{◌∙◌, cond, List, ap, map}
use Rattle.std.specs.Prelude.{nat_lt}
use Rattle.desk_who.specs.Who.{range_value}
use Rattle.page_data.specs.Rows.{row_value}
use Rattle.page_data.specs.Tables.{denials_among, most_denials, table_by}
use Rattle.page_data.specs.declared.rows.TableRow.{TableRow}
use Rattle.page_data.proofs.Tabled.{made}
use Rattle.page_data.proofs.tables.table_by.Goals as goal

pub returns : goal.returns
returns c =
    let ranges = map range_value c.args.ranges.now in
    let rows = map row_value c.in_ok-rows.rows.items in
    let joined = c.are_joined-joined.result in
    let count = c.denials_among-count.ensures ∙ ap (λ (some : List TableRow). denials_among (map row_value some)) c.as_slice.ensures.value in
    let test = c.are_joined-joined.ensures ∙ ap (λ n. nat_lt most_denials n) count in
    record {
      rows = rows;
      are = c.in_ok-rows.ensures;
      table = made joined ranges rows _ (ap (map row_value) c.from_vec.ensures ∙ c.in_ok-shown.ensures) c.others_if.ensures (c.count_if.ensures ∙ ap (λ n. cond joined n 0) count) ∙ ap (λ b. table_by b ranges rows) test;
    }
