-- One more mount point.
use Rattle.std.proofs.Common.{List, string_bytes, subst}
use Rattle.std.proofs.lemmas.List.{take_all}
use Rattle.desk_tables.specs.declared.filesystems.Mount.{Mount}
use Rattle.desk_server_notes.specs.PrivateNews.{AddsNews}
use Rattle.desk_server_notes.proofs.Knowing.{more_news, no_news}
use Rattle.desk_server_notes.proofs.news.push_mounts.Goals as goal

pub loop-mount-init : goal.loop-mount-init
loop-mount-init c = no_news c.args.before.now c.args.after.now (string_bytes c.args.note.now)

pub loop-mount-preserved : goal.loop-mount-preserved
loop-mount-preserved c =
    more_news c.args.before.now c.args.after.now c.args.mounts.now c.loop-mount.mount-index c.mount-item.result (string_bytes c.args.note.now) (string_bytes c.loop-mount.note) (string_bytes c.push_mount.new.note)
    c.loop-mount-test.true c.mount-item.is c.loop-mount.invariant c.in_ok-push_mount.ensures

pub returns : goal.returns
returns c =
    subst (λ (mounts : List Mount). AddsNews c.args.before.now c.args.after.now mounts (string_bytes c.args.note.now) (string_bytes c.loop-mount.note)) (take_all c.loop-mount.mount-index c.args.mounts.now c.loop-mount-test.false)
    c.loop-mount.invariant
