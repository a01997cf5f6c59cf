use Rattle.std.proofs.Common.{◌++◌, ◌∙◌, List, ap, codes, map, refl, ℕ}
use Rattle.std.specs.Borrow.{Bor}
use Rattle.std.specs.List.{flat_map}
use Rattle.std.proofs.lemmas.List.{take_all}
use Rattle.desk_text.specs.Path.{path_text}
use Rattle.page_html.specs.Titles.{Named, Said, title_of, titles_of}
use Rattle.page_places.specs.Names.{later}
use Rattle.page_places.proofs.Gathering.{gathers_values, two_more}
use Rattle.page_places.proofs.names.push_later_names.Goals as goal

pub loop-path-preserved : goal.loop-path-preserved
loop-path-preserved c =
    let now = titles_of c.loop-path.title.items in
    let path = c.path-item.result in
    gathers_values (λ (one : Bor (List (List ℕ))). one.now) c.args.paths.now c.loop-path.path-index path later (titles_of c.args.title.now.items) now
    (titles_of c.push-in-loop-path.new.self.items) c.loop-path-test.true c.loop-path.invariant
    (two_more title_of c.loop-path.title.items c.push.new.self.items c.push-in-loop-path.new.self.items _ _ (Said (codes ", ")) (Named (path_text path.now))
    c.in_ok-push.ensures.items c.in_ok-push-2.ensures.items refl (ap Named c.text.ensures.printed)
    ∙ ap (λ (one : Bor (List (List ℕ))). now ++ later one.now) c.path-item.is)

pub returns : goal.returns
returns c =
    let at = λ (one : Bor (List (List ℕ))). one.now in
    c.loop-path.invariant ∙ ap (λ some. titles_of c.args.title.now.items ++ flat_map later (map at some))
    (take_all c.loop-path.path-index c.args.paths.now c.loop-path-test.false)
