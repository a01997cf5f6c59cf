use Rattle.std.proofs.Common.{arith}
use Rattle.std.proofs.lemmas.Grind.{text_groups}
use Rattle.desk_tables.proofs.index.add_under.Goals as goal

pub returns : goal.returns
returns g c = λ key. grind (arith, text_groups)
