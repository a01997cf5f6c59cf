use Rattle.std.proofs.Common.{◌++◌, ◌∷◌, ◌∙◌, [], ap, length, map, sym}
use Rattle.std.specs.String.{string_bytes}
use Rattle.std.proofs.lemmas.List.{length-map}
use Rattle.std.proofs.lemmas.Result.{on_ok_weaker}
use Rattle.page_html.proofs.Gaining.{three_pieces}
use Rattle.page_html.specs.Blocks.{element_html, tag_html}
use Rattle.page_html.specs.Titles.{titles_of}
use Rattle.page_html.specs.declared.blocks.Element.TheVariants.{Fold, Names}
use Rattle.page_html.specs.declared.blocks.Tag.TheVariants.{FoldEnd}
use Rattle.page_places.specs.Names.{more_directories, names, paths_in, shown}
use Rattle.page_places.proofs.names.push_folded.Goals as goal

pub returns : goal.returns
returns c =
    let paths = paths_in c.args.paths.now in
    let start = string_bytes c.args.page.now in
    let one = string_bytes c.push_element.new.page in
    on_ok_weaker c.push_tag.result
    (three_pieces start one (string_bytes c.push_shown.new.page) (string_bytes c.push_tag.new.page)
    (element_html Fold (more_directories (length paths) ∷ [])) (element_html Names (map shown (names paths))) (tag_html FoldEnd)
    (c.in_ok-push_element.ensures ∙ ap (λ item. start ++ element_html Fold (item ∷ []))
    (c.more_directories.ensures ∙ ap more_directories (sym (length-map c.args.paths.now _))))
    (c.in_ok-push_shown.ensures ∙ ap (λ title. one ++ element_html Names (map shown title))
    (ap titles_of c.as_slice.ensures.value ∙ c.in_ok-push_names.ensures ∙ ap (λ items. titles_of items ++ names paths) c.new-names.ensures.items)))
    c.push_tag.ensures
