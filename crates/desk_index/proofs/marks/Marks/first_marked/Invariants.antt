-- None so far passes.
use Rattle.std.proofs.Common.{◌≡◌, None, take}
use Rattle.std.specs.Prelude.{find}
use Rattle.desk_index.specs.PrivateMarks.{passes_at}
use Rattle.desk_index.proofs.marks.Marks.first_marked.Given as goal

abbrev pub invariant-loop-number : goal.invariant-loop-number
invariant-loop-number l = find (passes_at l.rows l.self.spots.items l.group l.path) (take l.number-index l.numbers) ≡ None
