use Rattle.desk_exports.proofs.ItemLemmas.{words_fall_into_items}
use Rattle.desk_exports.proofs.laws.words_fall_into_items.Goals as goal

pub returns : goal.returns
returns c = words_fall_into_items
