use Rattle.std.proofs.Common.{◌≡◌, ◌++◌, ◌∙◌, [], ◌∷◌, ap, drop, length, map, sym, take}
use Rattle.std.proofs.lemmas.List.{drop-map, drop_min, length-map, take-map, take_min}
use Rattle.page_html.specs.Items.{AndMore, Own}
use Rattle.page_html.specs.Parts.{item_of}
use Rattle.page_lists.specs.Mentions.{all_of}
use Rattle.page_lists.specs.Uses.{mention_value}
use Rattle.page_lists.proofs.Gathering.{one_more}
use Rattle.page_lists.proofs.mentions.some_parts.Goals as goal

pub returns : goal.returns
returns c =
    let all = c.args.mentions.now in
    let most = c.args.most in
    let values = map mention_value all in
    let more = Own (AndMore (length (drop most values))) in
    let named : map mention_value c.split_at.result.0.now ≡ take most values =
    ap (map mention_value) (c.split_at.ensures.front ∙ ap (λ n. take n all) c.min.ensures ∙ take_min most all) ∙ sym (take-map mention_value most all) in
    let others : length c.split_at.result.1.now ≡ length (drop most values) =
    ap length (c.split_at.ensures.back ∙ ap (λ n. drop n all) c.min.ensures ∙ drop_min most all)
    ∙ sym (ap length (drop-map mention_value most all) ∙ length-map (drop most all) mention_value) in
    one_more item_of c.push_mentions.new.parts.items c.push.new.self.items _ more c.in_ok-push.ensures.items (ap (λ count. Own (AndMore count)) others)
    ∙ ap (λ some. some ++ more ∷ [])
    (c.in_ok-push_mentions.ensures ∙ ap (λ parts. map item_of parts ++ all_of (map mention_value c.split_at.result.0.now)) c.new-parts.ensures.items ∙ ap all_of named)
