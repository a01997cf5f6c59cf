use Rattle.desk_split.proofs.Joins.{join_keeps_words}
use Rattle.desk_split.proofs.laws.join_keeps_words.Goals as goal

pub returns : goal.returns
returns c = join_keeps_words
