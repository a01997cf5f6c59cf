use Rattle.std.proofs.Common.{◌-◌, ◌∙◌, ap, arith, drop, length, map, rules, take, tests}
use Rattle.std.proofs.lemmas.List.{length-drop, take_all}
use Rattle.std.proofs.lemmas.List.Sorted.{IsPartitionPoint-from_clause}
use Rattle.page_data.specs.PrivateGrants.{piece_value}
use Rattle.page_data.proofs.OfLine.{before_parted, is_before, of_line_is, up_to, up_to_parted}
use Rattle.page_data.proofs.grants.of_line.Goals as goal

pub returns : goal.returns
returns c =
    let pieces = c.args.pieces.now in
    let line = c.args.line in
    let end = c.partition_point-end.result in
    let begin = c.partition_point-begin.result in
    let below = take end pieces in
    let upper = IsPartitionPoint-from_clause (up_to line) pieces end c.partition_point-end.ensures.partitioned (up_to_parted pieces c.requires line) (λ a r f q. search (rules, tests)) in
    let lower = IsPartitionPoint-from_clause (is_before line) below begin c.partition_point-begin.ensures.partitioned (before_parted pieces c.requires line end) (λ a r f q. search (rules, tests)) in
    ap (map piece_value) (take_all (length below - begin) (drop begin below) (omega (arith, length-drop begin below)))
    ∙ of_line_is pieces c.requires line end begin c.partition_point-end.ensures.bound c.partition_point-begin.ensures.bound upper lower
