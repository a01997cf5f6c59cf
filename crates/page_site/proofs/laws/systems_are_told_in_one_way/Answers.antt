use Rattle.page_site.proofs.UniqueSystems.{systems_are_told_in_one_way}
use Rattle.page_site.proofs.laws.systems_are_told_in_one_way.Goals as goal

pub returns : goal.returns
returns c =
    systems_are_told_in_one_way c.places_are_told_in_one_way.ensures c.file_systems_are_told_in_one_way.ensures c.maps_are_told_in_one_way.ensures
    c.orders_tell_verdicts.ensures c.what_is_found_is_unique.ensures.counts c.lines_are_told_in_one_way.ensures
