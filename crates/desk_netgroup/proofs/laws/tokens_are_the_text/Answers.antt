use Rattle.desk_netgroup.proofs.TokenLemmas.{tokens_are_the_text}
use Rattle.desk_netgroup.proofs.laws.tokens_are_the_text.Goals as goal

pub returns : goal.returns
returns c = tokens_are_the_text
