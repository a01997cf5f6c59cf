use Rattle.desk_text.proofs.Blocks.{covers_between_first_and_last}
use Rattle.desk_text.proofs.laws.covers_between_first_and_last.Goals as goal

pub returns : goal.returns
returns c = covers_between_first_and_last
