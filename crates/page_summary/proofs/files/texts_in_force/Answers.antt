use Rattle.std.proofs.Common.{◌∙◌, ap, map, take_all}
use Rattle.page_summary.specs.Files.{line_values, text_in_force}
use Rattle.page_summary.proofs.Valued.{told_more}
use Rattle.page_summary.proofs.files.texts_in_force.Goals as goal

pub loop-mount-preserved : goal.loop-mount-preserved
loop-mount-preserved c =
    told_more line_values (text_in_force c.args.heads.now) c.args.mounts.now c.loop-mount.mount-index c.mount-item.result c.loop-mount.texts.items c.push.new.self.items
    c.from_vec.result c.loop-mount-test.true c.mount-item.is c.loop-mount.invariant c.in_ok-push.ensures.items (ap line_values c.from_vec.ensures ∙ c.in_ok-text.ensures)

pub returns : goal.returns
returns c = c.loop-mount.invariant ∙ ap (map (text_in_force c.args.heads.now)) (take_all c.loop-mount.mount-index c.args.mounts.now c.loop-mount-test.false)
