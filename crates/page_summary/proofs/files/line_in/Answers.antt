use Rattle.std.proofs.Common.{◌≤◌, ◌∙◌, [], ap, arith, length, map, sym}
use Rattle.std.proofs.lemmas.List.{get_or-map, get_or_past, length-map}
use Rattle.page_summary.specs.Files.{line_at, line_values}
use Rattle.page_summary.proofs.files.line_in.Goals as goal

pub returns-in-Some : goal.returns-in-Some
returns-in-Some c =
    let texts = c.args.texts.now in
    let fs = c.args.fs.0 in
    let there = c.in-Some.ensures.lookup in
    c.line_at.ensures ∙ ap (λ text. line_at (line_values text) c.args.number) c.as_slice.ensures
    ∙ ap (λ text. line_at text c.args.number) (sym (get_or-map line_values texts fs c.in-Some.text.now [] there.3.0 ∙ ap line_values (sym there.1)))

pub returns-in-None : goal.returns-in-None
returns-in-None c =
    let texts = c.args.texts.now in
    let fs = c.args.fs.0 in
    let past : length texts ≤ fs = (rw c.in-None.is at c.get.ensures.lookup).3 in
    ap (λ text. line_at text c.args.number) (sym (get_or_past (map line_values texts) fs [] (let many = length-map texts line_values in omega arith)))
