-- The mount point is added behind the words.
use Rattle.std.proofs.Common.{◌∙◌, ◌++◌, List, ap, string_bytes, ℕ}
use Rattle.std.proofs.lemmas.List.{append_assoc}
use Rattle.desk_text.specs.Path.{path_text}
use Rattle.desk_server_prints.specs.LeftOutNote.{may_leave_out}
use Rattle.desk_server_prints.proofs.Pieces.{added, on_ok}
use Rattle.desk_server_prints.proofs.left_out_lines.push_left_out.Goals as goal

pub returns : goal.returns
returns c =
    let words = may_leave_out c.args.line.origins.now c.args.line.line in
    let mount = path_text c.args.mount.now in
    let behind = string_bytes c.write.new.self in
    on_ok c.push_str.result
    (λ e. e ∙ ap (λ (t : List ℕ). behind ++ t) c.text.ensures.printed ∙ ap (λ (t : List ℕ). t ++ mount) c.in_ok-write.ensures.bytes ∙ append_assoc (string_bytes c.args.note.now) words mount)
    (added c.push_str.result (string_bytes c.push_str.new.self) (behind ++ c.text.result.now) behind c.push_str.ensures.bytes)
