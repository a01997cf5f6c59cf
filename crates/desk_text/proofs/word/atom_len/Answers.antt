use Rattle.desk_text.proofs.AtomsOfWord.{IsAtomLen-escaped}
use Rattle.desk_text.proofs.word.atom_len.Goals as goal

pub returns-then-text-eq92-clause-len : goal.returns-then-text-eq92-clause-len
returns-then-text-eq92-clause-len c = IsAtomLen-escaped c.args.text.now c.min.result c.requires.some c.if-text-eq92.true c.min.ensures
