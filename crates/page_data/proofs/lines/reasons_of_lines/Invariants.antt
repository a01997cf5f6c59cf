-- The lines so far, each with why it stands out.
use Rattle.std.proofs.Common.{◌≡◌, map, take}
use Rattle.std.specs.Prelude.{All}
use Rattle.desk_policy.specs.Policy.{rows_of}
use Rattle.page_data.specs.Lines.{IsToldOf}
use Rattle.page_data.proofs.lines.reasons_of_lines.Given as goal

abbrev pub invariant-loop-place : goal.invariant-loop-place
invariant-loop-place l = record {
  lines : map (λ one. one.line) l.found.items ≡ map (λ row. row.entry.line) (take l.place (rows_of l.policy l.fn.fs.0));
  each : All (IsToldOf l.policy l.fn.fs.0) l.found.items;
}
