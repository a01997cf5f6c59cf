use Rattle.std.proofs.Common.{◌≡◌, ◌++◌, ◌∙◌, [], ◌∷◌, ap, drop, length, map, sym, take}
use Rattle.std.proofs.lemmas.List.{drop-map, drop_min, length-map, take-map, take_min}
use Rattle.page_html.specs.Items.{AndMore, Own}
use Rattle.page_html.specs.Parts.{item_of}
use Rattle.page_lists.proofs.Gathering.{one_more}
use Rattle.page_summary.specs.Findings.{row_value, some_places}
use Rattle.page_summary.proofs.finding_cells.places_parts.Goals as goal

pub returns : goal.returns
returns c =
    let all = c.args.lines.now in
    let named : map row_value c.split_at.result.0.now ≡ take 4 (map row_value all) =
    ap (map row_value) (c.split_at.ensures.front ∙ ap (λ n. take n all) c.min.ensures ∙ take_min 4 all) ∙ sym (take-map row_value 4 all) in
    let others : length c.split_at.result.1.now ≡ length (drop 4 (map row_value all)) =
    ap length (c.split_at.ensures.back ∙ ap (λ n. drop n all) c.min.ensures ∙ drop_min 4 all)
    ∙ sym (ap length (drop-map row_value 4 all) ∙ length-map (drop 4 all) row_value) in
    one_more item_of c.push_places.new.parts.items c.push.new.self.items _ (Own (AndMore (length (drop 4 (map row_value all))))) c.in_ok-push.ensures.items
    (ap (λ count. Own (AndMore count)) others)
    ∙ ap (λ some. some ++ Own (AndMore (length (drop 4 (map row_value all)))) ∷ [])
    (c.in_ok-push_places.ensures ∙ ap (λ parts. map item_of parts ++ some_places (map row_value c.split_at.result.0.now)) c.new-parts.ensures.items ∙ ap some_places named)
