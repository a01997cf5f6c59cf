-- The client is added behind the words.
use Rattle.std.proofs.Common.{◌∙◌, ◌++◌, List, ap, string_bytes, ℕ}
use Rattle.std.proofs.lemmas.List.{append_assoc}
use Rattle.desk_server_prints.specs.LeftOutNote.{client_text, left_out_text}
use Rattle.desk_server_prints.proofs.Pieces.{on_ok}
use Rattle.desk_server_prints.proofs.left_out_lines.push_line.Goals as goal

pub returns : goal.returns
returns c =
    let words = left_out_text c.args.origins.now c.args.mount.now c.args.one.line in
    let client = client_text c.args.origins.now c.args.one.other c.args.one.address in
    on_ok c.push_client.result (λ e. e ∙ ap (λ (t : List ℕ). t ++ client) c.in_ok-push_left_out.ensures ∙ append_assoc (string_bytes c.args.note.now) words client) c.push_client.ensures
