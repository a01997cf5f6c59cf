-- The mount points so far.
use Rattle.std.proofs.Common.{string_bytes, take}
use Rattle.desk_server_notes.specs.PrivateNews.{AddsNews}
use Rattle.desk_server_notes.proofs.news.push_mounts.Given as goal

abbrev pub invariant-loop-mount : goal.invariant-loop-mount
invariant-loop-mount l = AddsNews l.before l.after (take l.mount-index l.mounts) (string_bytes l.initial.note) (string_bytes l.note)
