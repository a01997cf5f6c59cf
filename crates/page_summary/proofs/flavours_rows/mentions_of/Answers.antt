use Rattle.std.proofs.Common.{◌∙◌, ap, map, sym, take_all}
use Rattle.desk_tables.specs.declared.filesystems.FsId.{FsId}
use Rattle.page_findings.proofs.Mapped.{map_twice}
use Rattle.page_lists.specs.Uses.{mention_value}
use Rattle.page_summary.specs.FlavoursRows.{named_in}
use Rattle.page_summary.proofs.Valued.{told_next}
use Rattle.page_summary.proofs.flavours_rows.mentions_of.Goals as goal

pub loop-fs-preserved : goal.loop-fs-preserved
loop-fs-preserved c =
    let table = c.args.table.now in
    told_next mention_value (λ (fs : FsId). named_in table fs.0) c.args.systems.now c.loop-fs.fs-index _ c.loop-fs.mentions.items
    c.push.new.self.items c.mention_of.result c.loop-fs-test.true c.loop-fs.invariant c.in_ok-push.ensures.items c.mention_of.ensures

pub returns : goal.returns
returns c =
    let table = c.args.table.now in
    c.loop-fs.invariant ∙ ap (map (λ (fs : FsId). named_in table fs.0)) (take_all c.loop-fs.fs-index c.args.systems.now c.loop-fs-test.false)
    ∙ sym (map_twice (λ (fs : FsId). fs.0) (named_in table) c.args.systems.now)
