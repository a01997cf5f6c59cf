use Rattle.std.proofs.Common.{◌≡◌, ◌++◌, ◌∙◌, [], ap, drop, length, map, take}
use Rattle.std.proofs.lemmas.List.{drop_min, take_min}
use Rattle.page_findings.proofs.Gathering.{two_parts}
use Rattle.page_html.specs.Parts.{item_of}
use Rattle.page_maps.specs.NetworkCells.{counted, each_or_dash, line_break, more_systems}
use Rattle.page_maps.proofs.network_cells.mixed_parts.Goals as goal

pub returns : goal.returns
returns c =
    let all = c.args.ones.now in
    let each = each_or_dash (counted c.args.policy.now) line_break in
    let one = map item_of c.push_mixed.new.parts.items in
    let named : c.split_at.result.0.now ≡ take 12 all = c.split_at.ensures.front ∙ ap (λ n. take n all) c.min.ensures ∙ take_min 12 all in
    let others : c.split_at.result.1.now ≡ drop 12 all = c.split_at.ensures.back ∙ ap (λ n. drop n all) c.min.ensures ∙ drop_min 12 all in
    two_parts [] one (map item_of c.push_more.new.parts.items) (each (take 12 all)) (more_systems line_break (length (drop 12 all)))
    (c.in_ok-push_mixed.ensures ∙ ap (λ parts. map item_of parts ++ each c.split_at.result.0.now) c.new-parts.ensures.items ∙ ap each named)
    (c.in_ok-push_more.ensures ∙ ap (λ some. one ++ more_systems line_break (length some)) others)
