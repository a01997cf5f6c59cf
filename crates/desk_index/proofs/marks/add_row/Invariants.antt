-- So many directories of the line have marks.
use Rattle.desk_index.specs.PrivateMarks.{AreMarked}
use Rattle.desk_index.proofs.marks.add_row.Given as goal

abbrev pub invariant-loop-dir : goal.invariant-loop-dir
invariant-loop-dir l = AreMarked l.pairs.items l.spots.items l.rows l.place l.dir
