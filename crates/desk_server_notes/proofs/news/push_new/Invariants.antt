-- Those so far.
use Rattle.std.proofs.Common.{◌≡◌, ◌++◌, string_bytes, take}
use Rattle.std.specs.List.{flat_map}
use Rattle.desk_server_notes.specs.PrivateNews.{line_if_new}
use Rattle.desk_server_notes.proofs.news.push_new.Given as goal

abbrev pub invariant-loop-one : goal.invariant-loop-one
invariant-loop-one l = string_bytes l.note ≡ string_bytes l.initial.note ++ flat_map (line_if_new l.mount l.known) (take l.one-index l.found)
