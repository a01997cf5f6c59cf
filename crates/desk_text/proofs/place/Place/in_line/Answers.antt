use Rattle.desk_text.proofs.Places.{on_part_lies, on_part_own, place_on_part}
use Rattle.desk_text.proofs.place.Place.in_line.Goals as goal

pub returns-in-Some-clause-exact : goal.returns-in-Some-clause-exact
returns-in-Some-clause-exact c = λ index part there has. c.in-Some.ensures

pub returns-in-Some-clause-lies : goal.returns-in-Some-clause-lies
returns-in-Some-clause-lies c = λ text among.
    on_part_lies text c.args.line.now _ among (place_on_part c.args.line.now c.args.start c.args.end _ c.in-Some.ensures)

pub returns-in-Some-clause-own : goal.returns-in-Some-clause-own
returns-in-Some-clause-own c = λ text among.
    on_part_own c.args.line.now _ (place_on_part c.args.line.now c.args.start c.args.end _ c.in-Some.ensures)
