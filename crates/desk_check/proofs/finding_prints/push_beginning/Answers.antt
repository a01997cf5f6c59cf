-- A character begins where the line does.
use Rattle.std.proofs.lemmas.Str.{IsCharBoundary-start}
use Rattle.desk_check.proofs.finding_prints.push_beginning.Goals as goal

pub excerpt_of-part-requires : goal.excerpt_of-part-requires
excerpt_of-part-requires c = IsCharBoundary-start c.args.line.now c.utf8.line
