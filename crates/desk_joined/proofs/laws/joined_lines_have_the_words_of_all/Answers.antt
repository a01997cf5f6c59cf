use Rattle.desk_joined.proofs.Words.{words_of_all}
use Rattle.desk_joined.proofs.laws.joined_lines_have_the_words_of_all.Goals as goal

pub returns : goal.returns
returns c = words_of_all c.join_keeps_words.ensures
