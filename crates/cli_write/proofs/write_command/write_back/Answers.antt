use Rattle.std.proofs.Common.{List, subst, ℕ}
use Rattle.cli_write.specs.WriteCommand.{WritesTexts}
use Rattle.cli_write.proofs.write_command.write_back.Goals as goal

pub returns : goal.returns
returns c = subst (λ (texts : List (List ℕ)). WritesTexts c.args.dir.now texts c.write_texts.result) c.in_ok-texts.ensures c.write_texts.ensures
