use Rattle.page_places.proofs.WithLines.{changes_are_of_whole}
use Rattle.page_places.proofs.listed_laws.changes_are_of_whole.Goals as goal

pub returns : goal.returns
returns c = changes_are_of_whole
