-- Piece by piece.
use Rattle.std.proofs.Common.{◌≡◌, ◌∙◌, ◌++◌, ℕ, List, ap, arith, codes, string_bytes}
use Rattle.std.specs.Fmt.{decimal}
use Rattle.desk_text.specs.Path.{path_text}
use Rattle.desk_server_notes.proofs.Pieces.{added, leftwards, on_ok, two}
use Rattle.desk_server_notes.proofs.news.push_directory.Goals as goal

pub returns : goal.returns
returns c =
    let old = string_bytes c.args.note.now in
    let first = string_bytes c.push_str.new.self in
    let second = string_bytes c.write.new.self in
    let third = string_bytes c.push_str-2.new.self in
    let last = string_bytes c.push.new.self in
    let directory = path_text c.args.directory.now in
    let by : List ℕ = codes " by line " in
    let line = decimal c.args.line in
    let of : List ℕ = codes " of " in
    let mount = path_text c.args.mount.now in
    let end : List ℕ = codes "\n" in
    let begun : first ≡ old ++ directory = c.in_ok-push_str.ensures.bytes ∙ ap (λ (t : List ℕ). old ++ t) c.text.ensures.printed in
    let said : second ≡ old ++ (((directory ++ by) ++ line) ++ of) =
    two old first second directory ((by ++ line) ++ of) begun c.in_ok-write.ensures.bytes ∙ ap (λ (t : List ℕ). old ++ t) (leftwards directory by line of) in
    let named : third ≡ second ++ mount = c.in_ok-push_str-2.ensures.bytes ∙ ap (λ (t : List ℕ). second ++ t) c.text-2.ensures.printed in
    let whole = two old second third (((directory ++ by) ++ line) ++ of) mount said named in
    on_ok c.push.result
    (λ e. two old third last ((((directory ++ by) ++ line) ++ of) ++ mount) end whole (e ∙ ap (λ (t : List ℕ). third ++ t) (c.push.ensures.ascii (omega arith))))
    (added c.push.result last _ third c.push.ensures.bytes)
