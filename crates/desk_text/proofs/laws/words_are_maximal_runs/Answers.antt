use Rattle.desk_text.proofs.WordLaws.{words_are_maximal_runs}
use Rattle.desk_text.proofs.laws.words_are_maximal_runs.Goals as goal

pub returns : goal.returns
returns c = words_are_maximal_runs
