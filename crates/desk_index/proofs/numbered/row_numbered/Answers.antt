use Rattle.std.proofs.Common.{◌∙◌, rules, tests}
use Rattle.std.proofs.lemmas.List.Sorted.{IsPartitionPoint-from_clause}
use Rattle.desk_index.proofs.RowsByNumber.{at_place, is_before, parted}
use Rattle.desk_index.proofs.numbered.row_numbered.Goals as goal

pub returns : goal.returns
returns c = λ row has number.
    let rows = c.args.rows.now in
    let place = c.partition_point-place.result in
    let point = IsPartitionPoint-from_clause (is_before c.args.line) rows place c.partition_point-place.ensures.partitioned (parted rows c.requires c.args.line) (λ a r f q. search (rules, tests)) in
    c.row_at.ensures ∙ at_place rows c.requires c.args.line place point row has number
