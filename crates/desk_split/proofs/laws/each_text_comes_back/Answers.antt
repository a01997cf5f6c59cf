use Rattle.desk_split.proofs.Joins.{each_text_comes_back}
use Rattle.desk_split.proofs.laws.each_text_comes_back.Goals as goal

pub returns : goal.returns
returns c = each_text_comes_back c.split_keeps_words.ensures
