use Rattle.page_places.proofs.UniqueChanges.{changes_are_told_in_one_way}
use Rattle.page_places.proofs.UniqueGroups.{groups_are_told_in_one_way}
use Rattle.page_places.proofs.laws.places_are_told_in_one_way.Goals as goal

pub returns : goal.returns
returns c =
    let unique = c.what_is_found_is_unique.ensures in
    record {
      changes = changes_are_told_in_one_way unique.places c.impacts_are_unique.ensures;
      groups = groups_are_told_in_one_way unique.counts unique.groups c.maps_are_told_in_one_way.ensures c.groups_can_be_tabled.ensures;
    }
