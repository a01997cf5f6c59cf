use Rattle.std.proofs.Common.{◌∙◌, ap, map}
use Rattle.std.specs.Option.{option_map}
use Rattle.std.proofs.lemmas.List.{take_all}
use Rattle.desk_text.specs.Path.{path_text}
use Rattle.desk_tables.specs.declared.filesystems.Mount.{Mount}
use Rattle.desk_core.specs.Head.{newest_in}
use Rattle.desk_split.specs.Joining.{stored_file}
use Rattle.cli_write.specs.TextsBack.{exports_among, stored_exports}
use Rattle.cli_write.proofs.Gathering.{finds_next}
use Rattle.cli_write.proofs.texts_back.exports_among.Goals as goal

pub loop-mount-init : goal.loop-mount-init
loop-mount-init c = ap (map stored_file) c.new-files.ensures.items

pub loop-mount-preserved : goal.loop-mount-preserved
loop-mount-preserved c =
    finds_next c.args.mounts.now c.loop-mount.mount-index c.mount-item.result c.mount-item.result c.loop-mount-test.true c.mount-item.is
    (λ (mount : Mount). stored_exports (newest_in c.args.listed.now.heads.now) (path_text mount.path)) (map stored_file c.loop-mount.files.items) c.loop-mount.invariant
    (map stored_file c.push_found.new.files.items) (option_map stored_file c.in_ok-found.found)
    (c.in_ok-found.ensures ∙ ap (stored_exports (newest_in c.args.listed.now.heads.now)) c.text.ensures.printed) c.in_ok-push_found.ensures

pub returns : goal.returns
returns c = c.loop-mount.invariant ∙ ap (λ ms. exports_among ms (newest_in c.args.listed.now.heads.now)) (take_all c.loop-mount.mount-index c.args.mounts.now c.loop-mount-test.false)
