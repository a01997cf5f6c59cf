use Rattle.std.proofs.Common.{◌≢◌, ℕ, ◌<◌, ◌≤◌, length, slice_index}
use Rattle.cli_files.proofs.input.last_line.Given as goal

abbrev pub invariant-loop-start : goal.invariant-loop-start
invariant-loop-start l = record {
  within : l.start ≤ length l.front;
  behind : (k : ℕ) → l.start ≤ k → k < length l.front → slice_index l.front k ≢ 10;
}

abbrev pub decreases-loop-start : goal.decreases-loop-start
decreases-loop-start l = l.start
