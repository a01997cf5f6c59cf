use Rattle.std.proofs.Common.{◌∙◌, ◌||◌, ap, map, sym, take}
use Rattle.std.proofs.lemmas.List.{take_all}
use Rattle.desk_impact.specs.Places.{place_of}
use Rattle.page_places.specs.ListedGroups.{has_others, is_others}
use Rattle.page_places.proofs.Counted.{another}
use Rattle.page_places.proofs.Gathered.{more}
use Rattle.page_places.proofs.unlisted_places.has_others.Goals as goal

pub loop-place-preserved : goal.loop-place-preserved
loop-place-preserved c =
    let places = c.args.places.now in
    let i = c.loop-place.place-index in
    c.with_place-has.ensures ∙ ap (λ b. b || is_others (place_of c.place-item.result)) c.loop-place.invariant
    ∙ sym (another (map place_of (take i places)) (place_of c.place-item.result))
    ∙ ap has_others (sym (more place_of places i c.place-item.result c.loop-place-test.true c.place-item.is))

pub returns : goal.returns
returns c = c.loop-place.invariant ∙ ap (λ some. has_others (map place_of some)) (take_all c.loop-place.place-index c.args.places.now c.loop-place-test.false)
