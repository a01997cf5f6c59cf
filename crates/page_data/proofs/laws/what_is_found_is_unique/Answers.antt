use Rattle.page_data.proofs.UniqueCounts.{counts_are_unique}
use Rattle.page_data.proofs.UniqueGrants.{grants_are_unique}
use Rattle.page_data.proofs.UniqueGroups.{groups_are_unique}
use Rattle.page_data.proofs.UniquePlaces.{places_are_unique}
use Rattle.page_data.proofs.UniqueReasons.{reasons_are_unique}
use Rattle.page_data.proofs.laws.what_is_found_is_unique.Goals as goal

pub returns : goal.returns
returns c = record {
  places = places_are_unique c.runs_are_unique-2.ensures c.runs_with_value_are_unique.ensures;
  counts = counts_are_unique c.runs_are_unique.ensures;
  groups = groups_are_unique;
  grants = grants_are_unique c.runs_are_unique-2.ensures c.runs_are_unique.ensures;
  reasons = reasons_are_unique;
}
