use Rattle.std.proofs.Common.{◌≡◌, ◌++◌, ◌∙◌, [], ◌∷◌, ap, drop, length, map, take}
use Rattle.std.proofs.lemmas.List.{drop_min, take_min}
use Rattle.std.proofs.lemmas.Result.{on_ok_weaker}
use Rattle.page_html.specs.Items.{AndMore, Own}
use Rattle.page_html.specs.Parts.{item_of}
use Rattle.page_findings.specs.FindingWords.{line_items}
use Rattle.page_findings.proofs.Gathering.{two_parts}
use Rattle.page_findings.proofs.finding_words.push_some_lines.Goals as goal

pub returns : goal.returns
returns c =
    let all = c.args.lines.now in
    let start = map item_of c.args.parts.now.items in
    let one = map item_of c.push_lines.new.parts.items in
    let named : c.split_at.result.0.now ≡ take 6 all = c.split_at.ensures.front ∙ ap (λ n. take n all) c.min.ensures ∙ take_min 6 all in
    let others : c.split_at.result.1.now ≡ drop 6 all = c.split_at.ensures.back ∙ ap (λ n. drop n all) c.min.ensures ∙ drop_min 6 all in
    on_ok_weaker c.push_all.result
    (λ added. two_parts start one (map item_of c.push_all.new.parts.items) (line_items c.args.fs.0 (take 6 all)) (Own (AndMore (length (drop 6 all))) ∷ [])
    (c.in_ok-push_lines.ensures ∙ ap (λ lines. start ++ line_items c.args.fs.0 lines) named)
    (added ∙ ap (λ some. one ++ Own (AndMore (length some)) ∷ []) others))
    c.push_all.ensures
