use Rattle.std.proofs.Common.{◌≡◌, ◌++◌, ◌∷◌, ◌∙◌, List, [], ap, append_assoc, drop, length, sym, take, ℕ}
use Rattle.std.specs.Borrow.{Bor}
use Rattle.std.specs.Prelude.{◌==◌}
use Rattle.std.proofs.lemmas.List.{drop-map, drop_min, length-map, take-map, take_min}
use Rattle.page_html.specs.Titles.{Further, Said, Title, title_of, titles_of}
use Rattle.page_places.specs.Names.{names, others_words, paths_in}
use Rattle.page_places.proofs.Gathering.{two_more}
use Rattle.page_places.proofs.names.push_members.Goals as goal

pub returns : goal.returns
returns c =
    let most = c.args.most in
    let all = c.args.members.now.directories in
    let paths = c.as_slice-paths.result.now in
    let at = λ (path : Bor (List (List ℕ))). path.now in
    let has_others = c.args.members.now.has_others in
    let start = titles_of c.args.title.now.items in
    let is : paths ≡ all = c.as_slice-paths.ensures in
    let named : paths_in c.split_at.result.0.now ≡ take most (paths_in all) =
    ap paths_in (c.split_at.ensures.front ∙ ap (λ n. take n paths) c.min.ensures ∙ take_min most paths ∙ ap (take most) is)
    ∙ sym (take-map at most all) in
    let others : length c.split_at.result.1.now ≡ length (drop most (paths_in all)) =
    ap length (c.split_at.ensures.back ∙ ap (λ n. drop n paths) c.min.ensures ∙ drop_min most paths ∙ ap (drop most) is)
    ∙ sym (ap length (drop-map at most all) ∙ length-map (drop most all) at) in
    let alone : c.others_words.result.now ≡ others_words has_others (length (paths_in all) == 0) =
    c.others_words.ensures ∙ ap (others_words has_others) c.is_empty.ensures ∙ ap (λ (some : List (Bor (List (List ℕ)))). others_words has_others (length some == 0)) is
    ∙ ap (λ n. others_words has_others (n == 0)) (sym (length-map all at)) in
    let behind : List (Title (List ℕ)) = Further (length (drop most (paths_in all))) ∷ Said (others_words has_others (length (paths_in all) == 0)) ∷ [] in
    two_more title_of c.push_names.new.title.items c.push.new.self.items c.push-2.new.self.items _ _ _ _
    c.in_ok-push.ensures.items c.in_ok-push-2.ensures.items (ap Further others) (ap Said alone)
    ∙ ap (λ some. some ++ behind) (c.in_ok-push_names.ensures ∙ ap (λ some. start ++ names some) named)
    ∙ append_assoc start (names (take most (paths_in all))) behind
