-- There is one.
use Rattle.std.proofs.Common.{◌∙◌, ◌++◌, List, [], ap, codes, eqb, string_bytes, sym, ℕ}
use Rattle.std.proofs.lemmas.Bool.{cond-false, ne_eqb}
use Rattle.desk_server_notes.specs.CountsNote.{lines_text}
use Rattle.desk_server_notes.proofs.Pieces.{on_ok, two}
use Rattle.desk_server_notes.proofs.counts.push_left_out.Goals as goal

pub returns : goal.returns
returns c =
    let count = c.args.left_out in
    let words : List ℕ = codes "may leave out " in
    let lines = lines_text count in
    let old = string_bytes c.args.note.now in
    on_ok c.push_lines.result
    (λ e. two old (string_bytes c.push_str.new.self) (string_bytes c.push_lines.new.note) words lines c.in_ok-push_str.ensures.bytes e
    ∙ ap (λ (t : List ℕ). old ++ t) (sym (cond-false (eqb count 0) [] (words ++ lines) (ne_eqb count 0 c.if-left_out-eq0.false))))
    c.push_lines.ensures
