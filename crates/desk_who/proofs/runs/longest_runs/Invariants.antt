-- The runs that are done, and the one that goes on.
use Rattle.std.proofs.Common.{ℕ, map, drop}
use Rattle.desk_text.specs.Address.{number_of}
use Rattle.desk_who.specs.Runs.{AreStartsOf, Finds, run_value}
use Rattle.desk_who.proofs.Going.{Going}
use Rattle.desk_who.proofs.runs.longest_runs.Given as goal

abbrev pub invariant-loop-start : goal.invariant-loop-start
invariant-loop-start g l =
    (value_at : ℕ → g.T.Alike.Meaning) → Finds g.T.Alike.meaning (goal.F-post g l.find) (map number_of l.start-items) value_at → AreStartsOf value_at (map number_of l.start-items)
    → Going value_at (map (run_value g.T.Alike.meaning) l.runs.items) (number_of l.first) (g.T.Alike.meaning l.value) (drop l.start-index (map number_of l.start-items))
