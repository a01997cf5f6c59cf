use Rattle.std.proofs.Common.{◌-◌, ◌∙◌, ap, arith, drop, length, map, rules, take, tests}
use Rattle.std.specs.Prelude.{◌==◌}
use Rattle.std.proofs.lemmas.List.{length-drop, take_all}
use Rattle.std.proofs.lemmas.List.Sorted.{IsPartitionPoint-from_clause}
use Rattle.page_findings.specs.Lines.{line_value}
use Rattle.page_findings.proofs.Mapped.{filter_mapped}
use Rattle.page_filesystem.proofs.Between.{before_parted, between_is, is_before, up_to, up_to_parted}
use Rattle.page_filesystem.proofs.Standing.{fs_on, kept_by_filesystem}
use Rattle.page_filesystem.proofs.own_lines.lines_in.Goals as goal

pub returns : goal.returns
returns c =
    let lines = c.args.lines.now in
    let fs = c.args.fs.0 in
    let end = c.partition_point-end.result in
    let begin = c.partition_point-begin.result in
    let below = take end lines in
    let ascend = kept_by_filesystem lines c.requires in
    let upper = IsPartitionPoint-from_clause (up_to fs_on fs) lines end c.partition_point-end.ensures.partitioned (up_to_parted fs_on lines ascend fs) (λ a r f q. search (rules, tests)) in
    let lower = IsPartitionPoint-from_clause (is_before fs_on fs) below begin c.partition_point-begin.ensures.partitioned (before_parted fs_on lines ascend fs end) (λ a r f q. search (rules, tests)) in
    ap (map line_value) (take_all (length below - begin) (drop begin below) (omega (arith, length-drop begin below))
    ∙ between_is fs_on lines ascend fs end begin c.partition_point-end.ensures.bound c.partition_point-begin.ensures.bound upper lower)
    ∙ filter_mapped line_value (λ line. line.fs == fs) lines
