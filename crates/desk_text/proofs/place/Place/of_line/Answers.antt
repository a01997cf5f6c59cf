use Rattle.desk_text.proofs.Places.{whole_line}
use Rattle.desk_text.proofs.place.Place.of_line.Goals as goal

pub returns-clause-whole : goal.returns-clause-whole
returns-clause-whole c = whole_line c.args.line c.args.text.now c.utf8.text
