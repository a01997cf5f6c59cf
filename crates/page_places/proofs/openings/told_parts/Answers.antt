use Rattle.std.proofs.Common.{◌≡◌, ◌++◌, ◌∷◌, ◌∙◌, [], ap, codes, drop, length, map, refl, take}
use Rattle.std.proofs.lemmas.List.{drop_min, take_min}
use Rattle.page_html.specs.Items.{AndMore, Own, Words}
use Rattle.page_html.specs.Parts.{item_of}
use Rattle.page_places.specs.Openings.{opening_list}
use Rattle.page_places.proofs.Gathering.{one_more}
use Rattle.page_places.proofs.openings.told_parts.Goals as goal

pub returns : goal.returns
returns c =
    let all = c.args.openings.now in
    let fs = c.args.fs.0 in
    let start = Own (Words (codes "mountd(8) grants more: ")) in
    let more = Own (AndMore (length (drop 6 all))) in
    let told : c.split_at.result.0.now ≡ take 6 all = c.split_at.ensures.front ∙ ap (λ n. take n all) c.min.ensures ∙ take_min 6 all in
    let others : c.split_at.result.1.now ≡ drop 6 all = c.split_at.ensures.back ∙ ap (λ n. drop n all) c.min.ensures ∙ drop_min 6 all in
    one_more item_of c.push_list.new.parts.items c.push-2.new.self.items _ more c.in_ok-push-2.ensures.items (ap (λ some. Own (AndMore (length some))) others)
    ∙ ap (λ some. some ++ more ∷ [])
    (c.in_ok-push_list.ensures ∙ ap (λ some. map item_of c.push.new.self.items ++ opening_list fs some) told
    ∙ ap (λ some. some ++ opening_list fs (take 6 all))
    (one_more item_of _ c.push.new.self.items _ start c.in_ok-push.ensures.items refl ∙ ap (λ items. map item_of items ++ start ∷ []) c.new-parts.ensures.items))
