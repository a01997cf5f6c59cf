use Rattle.desk_joined.proofs.OwnLines.{has_lines_of_all}
use Rattle.desk_joined.proofs.laws.joined_text_has_the_lines_of_all.Goals as goal

pub returns : goal.returns
returns c = has_lines_of_all
