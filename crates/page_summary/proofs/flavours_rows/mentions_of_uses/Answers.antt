use Rattle.std.proofs.Common.{◌∙◌, ap, map, sym, take_all}
use Rattle.desk_tables.specs.declared.filesystems.FsId.{FsId}
use Rattle.page_findings.proofs.Mapped.{map_twice}
use Rattle.page_findings.specs.Flavours.{use_value}
use Rattle.page_findings.specs.declared.flavours.FlavourUse.{FlavourUse}
use Rattle.page_summary.specs.FlavoursRows.{all_mentioned, named_in, systems_of}
use Rattle.page_summary.proofs.Valued.{told_more}
use Rattle.page_summary.proofs.flavours_rows.mentions_of_uses.Goals as goal

pub loop-one-preserved : goal.loop-one-preserved
loop-one-preserved c =
    let table = c.args.table.now in
    told_more all_mentioned (λ (one : FlavourUse). systems_of table (use_value one)) c.args.uses.now c.loop-one.one-index c.one-item.result c.loop-one.mentions.items
    c.push.new.self.items c.from_vec.result c.loop-one-test.true c.one-item.is c.loop-one.invariant c.in_ok-push.ensures.items
    (ap all_mentioned c.from_vec.ensures ∙ c.in_ok-own.ensures ∙ ap (λ systems. map (named_in table) (map (λ (fs : FsId). fs.0) systems)) c.as_slice.ensures)

pub returns : goal.returns
returns c =
    let table = c.args.table.now in
    c.loop-one.invariant ∙ ap (map (λ (one : FlavourUse). systems_of table (use_value one))) (take_all c.loop-one.one-index c.args.uses.now c.loop-one-test.false)
    ∙ sym (map_twice use_value (systems_of table) c.args.uses.now)
