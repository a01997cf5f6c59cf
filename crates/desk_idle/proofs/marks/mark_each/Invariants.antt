-- The lines so far are marked, and it is known what they list.
use Rattle.std.proofs.Common.{◌++◌, [], List, map, take}
use Rattle.desk_text.specs.Address.{number_of}
use Rattle.desk_idle.specs.Listed.{IsListedBy}
use Rattle.desk_idle.specs.PrivateMarks.{AreMarks, Look, looks_among}
use Rattle.desk_idle.proofs.marks.mark_each.Given as goal

abbrev pub invariant-loop-row : goal.invariant-loop-row
invariant-loop-row l = record {
  marks : (looks : List Look) → AreMarks looks l.initial.marks → AreMarks (looks ++ looks_among l.first (number_of l.address) [] (take l.row-index (map (λ row. row.now) l.rows))) l.marks;
  listed : IsListedBy l.listed (take l.row-index (map (λ row. row.now) l.rows));
}
