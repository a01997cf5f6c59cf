use Rattle.std.proofs.Common.{◌≤◌, ◌∙◌, Bor, List, ℕ, [], ap, arith, get_or, length, sym}
use Rattle.std.proofs.lemmas.List.{get_or-map, get_or_past, length-map}
use Rattle.page_summary.specs.Files.{line_values}
use Rattle.page_summary.proofs.files.line_at.Goals as goal

abbrev now : Bor (List ℕ) → List ℕ
now line = line.now

pub returns-in-Some : goal.returns-in-Some
returns-in-Some c =
    let text = c.args.text.now in
    let there = c.in-Some.ensures.lookup in
    ap now there.1 ∙ sym (get_or-map now text c.saturating_sub.result c.in-Some.line.now [] there.3.0)
    ∙ ap (λ n. get_or (line_values text) n []) c.saturating_sub.ensures

pub returns-in-None : goal.returns-in-None
returns-in-None c =
    let text = c.args.text.now in
    let past : length text ≤ c.saturating_sub.result = (rw c.in-None.is at c.get.ensures.lookup).3 in
    sym (get_or_past (line_values text) c.saturating_sub.result [] (let many = length-map text now in omega arith))
    ∙ ap (λ n. get_or (line_values text) n []) c.saturating_sub.ensures
