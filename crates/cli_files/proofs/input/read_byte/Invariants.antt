-- A read that is interrupted takes no byte.
use Rattle.std.specs.Io.KnownBytes.{Keeps}
use Rattle.cli_files.proofs.input.read_byte.Given as goal

abbrev pub invariant-loop : goal.invariant-loop
invariant-loop g l = Keeps (g.I.Read.remaining l.initial.input) (g.I.Read.remaining l.input)
