-- A character begins where the word does.
use Rattle.std.proofs.lemmas.Str.{IsCharBoundary-start}
use Rattle.desk_check.proofs.finding_prints.push_cut.Goals as goal

pub excerpt_of-part-requires : goal.excerpt_of-part-requires
excerpt_of-part-requires c = IsCharBoundary-start c.args.word.now c.utf8.word
