use Rattle.desk_split.proofs.Joins.{joined_texts_can_be_split}
use Rattle.desk_split.proofs.laws.joined_texts_can_be_split.Goals as goal

pub returns : goal.returns
returns c = joined_texts_can_be_split c.split_keeps_words.ensures
