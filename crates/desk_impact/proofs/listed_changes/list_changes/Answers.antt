use Rattle.std.proofs.Common.{IfOk, map, subst}
use Rattle.std.specs.Prelude.{None}
use Rattle.std.proofs.lemmas.Result.{IfOk-weaker}
use Rattle.desk_impact.specs.ListedChanges.{AreListed, listed_place}
use Rattle.desk_impact.specs.Places.{ArePlaces, place_of}
use Rattle.desk_impact.specs.PrivateListedChanges.{AreListedAmong}
use Rattle.desk_impact.proofs.Listing.{listed_whole}
use Rattle.desk_impact.proofs.listed_changes.list_changes.Goals as goal

pub returns : goal.returns
returns g c =
    let old = g.V.PolicyView.in_force c.args.before.now in
    let new = g.V.PolicyView.in_force c.args.after.now in
    let own = map place_of c.in_ok-places.places.items in
    let are : ArePlaces old new own =
    subst (λ content. ArePlaces old content own) c.policy-2.ensures (subst (λ content. ArePlaces content c.policy-2.result.now own) c.policy.ensures c.in_ok-places.ensures) in
    IfOk-weaker c.list_among.result (λ found. AreListedAmong old new None own (map listed_place found.items)) (λ found. AreListed old new (map listed_place found.items))
    (λ found is. listed_whole old new own (map listed_place found.items) are is)
    (subst (λ items. IfOk c.list_among.result (λ found. AreListedAmong old new None (map place_of items) (map listed_place found.items))) c.as_slice.ensures.value c.list_among.ensures)
