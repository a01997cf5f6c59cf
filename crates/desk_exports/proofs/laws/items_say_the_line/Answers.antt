use Rattle.desk_exports.proofs.ItemLemmas.{items_say_the_line}
use Rattle.desk_exports.proofs.laws.items_say_the_line.Goals as goal

pub returns : goal.returns
returns c = items_say_the_line
