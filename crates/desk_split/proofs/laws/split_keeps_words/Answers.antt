use Rattle.desk_split.proofs.SplitWords.{split_keeps_words}
use Rattle.desk_split.proofs.laws.split_keeps_words.Goals as goal

pub returns : goal.returns
returns c = split_keeps_words
