use Rattle.desk_text.proofs.Places.{on_part_lies, on_part_own}
use Rattle.desk_text.proofs.place.Place.of_first_line.Goals as goal

pub returns-clause-lies : goal.returns-clause-lies
returns-clause-lies c = λ text among. on_part_lies text c.args.line.now c.first_line.result among (c.first_line.ensures text among)

pub returns-clause-own : goal.returns-clause-own
returns-clause-own c = λ text among. on_part_own c.args.line.now c.first_line.result (c.first_line.ensures text among)
