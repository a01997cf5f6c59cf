-- The directories of the lines so far have marks.
use Rattle.desk_index.specs.PrivateMarks.{AreMarked}
use Rattle.desk_index.proofs.marks.Marks.of_rows.Given as goal

abbrev pub invariant-loop-place : goal.invariant-loop-place
invariant-loop-place l = AreMarked l.pairs.items l.spots.items l.rows l.place 0
