-- The ranges so far are written.
use Rattle.std.proofs.Common.{◌≡◌, ◌++◌, take}
use Rattle.std.specs.List.{flat_map}
use Rattle.std.specs.String.{string_bytes}
use Rattle.desk_who.specs.Runs.{run_value}
use Rattle.desk_expect.specs.Judging.{judged_value}
use Rattle.desk_expect.specs.ReportText.{judged_line}
use Rattle.desk_expect.proofs.report_text.push_ranges.Given as goal

abbrev pub invariant-loop-range : goal.invariant-loop-range
invariant-loop-range l = string_bytes l.text ≡ string_bytes l.fn.text ++ flat_map (λ range. judged_line l.policy (run_value judged_value range)) (take l.range-index l.ranges)
