use Rattle.std.proofs.Common.{◌≡◌, ◌++◌, ◌∙◌, List, ap, drop, map, sym, ℕ}
use Rattle.std.specs.Borrow.{Bor}
use Rattle.std.specs.String.{string_bytes}
use Rattle.std.proofs.lemmas.List.{drop-map, drop_min}
use Rattle.std.proofs.lemmas.Result.{on_ok_weaker}
use Rattle.page_html.specs.Blocks.{element_html}
use Rattle.page_html.specs.Titles.{titles_of}
use Rattle.page_html.specs.declared.blocks.Element.TheVariants.{PlaceHeading}
use Rattle.page_html.proofs.Gaining.{two_pieces}
use Rattle.page_places.specs.Names.{group_words, left_out, members_value, paths_in, shown}
use Rattle.page_places.proofs.names.push_heading.Goals as goal

pub returns : goal.returns
returns c =
    let members = members_value c.args.members.now in
    let all = c.args.members.now.directories in
    let paths = c.as_slice-paths.result.now in
    let one = string_bytes c.push_shown.new.page in
    let others : paths_in c.split_at.result.1.now ≡ drop 8 (paths_in all) =
    ap paths_in (c.split_at.ensures.back ∙ ap (λ n. drop n paths) c.min.ensures ∙ drop_min 8 paths ∙ ap (drop 8) c.as_slice-paths.ensures)
    ∙ sym (drop-map (λ (path : Bor (List (List ℕ))). path.now) 8 all) in
    on_ok_weaker c.push_left_out.result
    (λ added. two_pieces (string_bytes c.args.page.now) one (string_bytes c.push_left_out.new.page)
    (element_html PlaceHeading (map shown (group_words 8 members))) (left_out (drop 8 (paths_in all)))
    (c.in_ok-push_shown.ensures ∙ ap (λ title. string_bytes c.args.page.now ++ element_html PlaceHeading (map shown title))
    (ap titles_of c.as_slice.ensures.value ∙ c.in_ok-push_members.ensures
    ∙ ap (λ items. titles_of items ++ group_words 8 members) c.new-title.ensures.items))
    (added ∙ ap (λ some. one ++ left_out some) others))
    c.push_left_out.ensures
