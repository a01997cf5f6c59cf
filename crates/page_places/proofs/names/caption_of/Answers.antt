use Rattle.std.proofs.Common.{◌++◌, ◌∷◌, ◌∙◌, List, [], ap, codes, refl, ℕ}
use Rattle.page_html.specs.Titles.{Said, Title, title_of, titles_of}
use Rattle.page_places.specs.Names.{group_words, members_value}
use Rattle.page_places.proofs.Gathering.{one_more}
use Rattle.page_places.proofs.names.caption_of.Goals as goal

pub returns : goal.returns
returns c =
    let start : Title (List ℕ) = Said (codes "Who may mount ") in
    c.in_ok-push_members.ensures ∙ ap (λ title. title ++ group_words 3 (members_value c.args.members.now))
    (one_more title_of _ c.push.new.self.items _ start c.in_ok-push.ensures.items refl
    ∙ ap (λ items. titles_of items ++ start ∷ []) c.new-title.ensures.items)
