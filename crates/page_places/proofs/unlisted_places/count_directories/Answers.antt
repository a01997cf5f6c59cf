use Rattle.std.proofs.Common.{◌≤◌, ◌+◌, ◌∙◌, ap, arith, map, subst, sym, take}
use Rattle.std.proofs.lemmas.List.{length-map, length-take, take_all}
use Rattle.desk_impact.specs.Places.{place_of}
use Rattle.page_places.specs.ListedGroups.{directories_among, is_directory}
use Rattle.page_places.proofs.Counted.{at_most_one, few, one_more}
use Rattle.page_places.proofs.Gathered.{more}
use Rattle.page_places.proofs.unlisted_places.count_directories.Goals as goal

pub overflow_add-count : goal.overflow_add-count
overflow_add-count c =
    let places = c.args.places.now in
    let i = c.loop-place.place-index in
    let low = few (map place_of (take i places)) in
    let long = length-map (take i places) place_of in
    let short = length-take i places in
    let one : c.count_place-count.result ≤ 1 = subst (λ n. n ≤ 1) (sym c.count_place-count.ensures) (at_most_one (is_directory (place_of c.place-item.result))) in
    let so_far = c.loop-place.invariant in
    let lt = c.loop-place-test.true in
    grind arith

pub loop-place-preserved : goal.loop-place-preserved
loop-place-preserved c =
    let places = c.args.places.now in
    let i = c.loop-place.place-index in
    ap (λ n. n + c.count_place-count.result) c.loop-place.invariant ∙ ap (λ n. directories_among (map place_of (take i places)) + n) c.count_place-count.ensures
    ∙ sym (one_more (map place_of (take i places)) (place_of c.place-item.result))
    ∙ ap directories_among (sym (more place_of places i c.place-item.result c.loop-place-test.true c.place-item.is))

pub returns : goal.returns
returns c = c.loop-place.invariant ∙ ap (λ some. directories_among (map place_of some)) (take_all c.loop-place.place-index c.args.places.now c.loop-place-test.false)
