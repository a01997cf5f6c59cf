-- What is gone from the rest was written.
use Rattle.std.proofs.Common.{◌≡◌, ℕ, List, ◌++◌}
use Rattle.std.specs.Io.KnownBytes.{Appends}
use Rattle.cli_output.proofs.printed.write.Given as goal

abbrev pub invariant-loop : goal.invariant-loop
invariant-loop g l = (front : List ℕ) × (l.initial.rest ≡ front ++ l.rest) × Appends (g.O.Write.contents l.initial.out) (g.O.Write.contents l.out) front
