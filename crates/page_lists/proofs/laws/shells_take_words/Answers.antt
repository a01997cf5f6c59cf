use Rattle.page_lists.proofs.Quoting as quoting
use Rattle.page_lists.proofs.laws.shells_take_words.Goals as goal

pub returns : goal.returns
returns c = quoting.shells_take_words
