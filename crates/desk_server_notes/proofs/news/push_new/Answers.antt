-- One more.
use Rattle.std.specs.String.{string_bytes}
use Rattle.desk_server_notes.specs.PrivateNews.{line_if_new}
use Rattle.desk_server_notes.proofs.Pieces.{writes}
use Rattle.desk_server_notes.proofs.news.push_new.Goals as goal

pub loop-one-preserved : goal.loop-one-preserved
loop-one-preserved c =
    writes c.args.found.now c.loop-one.one-index c.one-item.result c.loop-one-test.true c.one-item.is (line_if_new c.args.mount.now c.args.known.now)
    (string_bytes c.args.note.now) (string_bytes c.loop-one.note) (string_bytes c.push_if_new.new.note) c.loop-one.invariant c.in_ok-push_if_new.ensures
