use Rattle.page_filesystem.proofs.UniqueParts.{file_systems_are_told_in_one_way}
use Rattle.page_filesystem.proofs.laws.file_systems_are_told_in_one_way.Goals as goal

pub returns : goal.returns
returns c = file_systems_are_told_in_one_way c.what_is_found_is_unique.ensures.counts
