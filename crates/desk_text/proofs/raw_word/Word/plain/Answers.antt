use Rattle.std.proofs.Common.{sym, ◌∙◌}
use Rattle.desk_text.proofs.WordValue.{word_value-unmarked}
use Rattle.desk_text.proofs.raw_word.Word.plain.Goals as goal

pub returns-clause-value : goal.returns-clause-value
returns-clause-value c = sym (word_value-unmarked c.args.self.now.raw.now (c.args.self.now.marks ∙ c.if-self.false))
