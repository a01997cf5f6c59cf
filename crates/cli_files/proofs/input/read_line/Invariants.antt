-- The bytes so far were taken from the input, and none of them is a line end.
use Rattle.std.proofs.Common.{◌≢◌, ◌≤◌, ◌-◌, All, length}
use Rattle.std.specs.Io.KnownBytes.{Consumes}
use Rattle.cli_files.proofs.input.read_line.Given as goal

abbrev pub invariant-loop-input : goal.invariant-loop-input
invariant-loop-input g l = record {
  taken : Consumes (g.I.Read.remaining l.initial.input) (g.I.Read.remaining l.input) l.bytes.items;
  one_line : All (λ b. b ≢ 10) l.bytes.items;
  short : length l.bytes.items ≤ 16777218;
}

abbrev pub decreases-loop-input : goal.decreases-loop-input
decreases-loop-input g l = 16777218 - length l.bytes.items
