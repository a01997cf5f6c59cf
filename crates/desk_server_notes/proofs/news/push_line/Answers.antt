-- What is granted is added behind the client.
use Rattle.std.proofs.Common.{string_bytes}
use Rattle.std.specs.Option.{option_copied}
use Rattle.desk_text.specs.Address.{number_of}
use Rattle.desk_server_notes.specs.NewsNote.{granted_text, now_grants}
use Rattle.desk_server_notes.proofs.Pieces.{on_ok, two}
use Rattle.desk_server_notes.proofs.news.push_line.Goals as goal

pub returns : goal.returns
returns c =
    let one = c.args.one in
    on_ok c.push_granted.result
    (two (string_bytes c.args.note.now) (string_bytes c.push_address.new.note) (string_bytes c.push_granted.new.note) (now_grants (number_of one.address)) (granted_text c.args.mount.now one.other (option_copied one.directory))
    c.in_ok-push_address.ensures)
    c.push_granted.ensures
