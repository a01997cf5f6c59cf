-- Piece by piece.
use Rattle.std.proofs.Common.{◌≡◌, ◌∙◌, ◌++◌, ℕ, List, ap, codes, string_bytes}
use Rattle.std.specs.Fmt.{decimal}
use Rattle.desk_text.specs.Path.{path_text}
use Rattle.desk_server_notes.proofs.Pieces.{leftwards, on_ok, two}
use Rattle.desk_server_notes.proofs.news.push_any.Goals as goal

pub returns : goal.returns
returns c =
    let old = string_bytes c.args.note.now in
    let first = string_bytes c.push_str.new.self in
    let second = string_bytes c.push_str-2.new.self in
    let words : List ℕ = codes "any directory of " in
    let mount = path_text c.args.mount.now in
    let by : List ℕ = codes " by line " in
    let line = decimal c.args.line in
    let end : List ℕ = codes "\n" in
    let named : second ≡ first ++ mount = c.in_ok-push_str-2.ensures.bytes ∙ ap (λ (t : List ℕ). first ++ t) c.text.ensures.printed in
    let whole = two old first second words mount c.in_ok-push_str.ensures.bytes named in
    on_ok c.write.result
    (λ e. two old second (string_bytes c.write.new.self) (words ++ mount) ((by ++ line) ++ end) whole e ∙ ap (λ (t : List ℕ). old ++ t) (leftwards (words ++ mount) by line end))
    c.write.ensures.bytes
