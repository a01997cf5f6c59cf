-- The path and the number are those of the line in its own text.
use Rattle.std.proofs.Common.{ℕ, List, ◌++◌, ◌∙◌, ap, codes}
use Rattle.std.specs.Fmt.{decimal}
use Rattle.std.specs.String.{string_bytes}
use Rattle.desk_shown.specs.ShownText.{shown_text}
use Rattle.desk_origins.specs.Origins.{own_number, own_path}
use Rattle.desk_check.specs.FindingPrints.{excerpt, excerpt_text}
use Rattle.desk_check.proofs.Pieces.{on_ok, placed}
use Rattle.desk_check.proofs.finding_prints.push_other_line.Goals as goal

pub returns : goal.returns
returns c =
    let start = string_bytes c.args.text.now in
    let shown = string_bytes c.push_shown.new.shown in
    let line = string_bytes c.write.new.self in
    let path = own_path c.args.origins.now c.args.path.now c.args.number in
    let number = own_number c.args.origins.now c.args.number in
    on_ok c.push_beginning.result
    (placed start (shown_text path) (codes ":") (decimal number) (codes ":1: the other line\n") (excerpt_text c.args.line.now (excerpt c.args.line.now 0)) shown line (string_bytes c.push_beginning.new.text)
    (c.in_ok-push_shown.ensures ∙ ap (λ (path : List ℕ). start ++ shown_text path) c.own_place-place.ensures.path)
    (c.in_ok-write.ensures.bytes ∙ ap (λ (number : ℕ). shown ++ ((codes ":" ++ decimal number) ++ codes ":1: the other line\n")) c.own_place-place.ensures.line))
    c.push_beginning.ensures
