-- The characters so far were added.
use Rattle.std.proofs.Common.{◌≡◌, ◌++◌}
use Rattle.std.specs.List.{flat_map}
use Rattle.std.specs.String.{string_bytes}
use Rattle.cli_output.specs.ShownLines.{shown_in_lines}
use Rattle.cli_output.proofs.shown_lines.push_shown_lines.Given as goal

abbrev pub invariant-loop-c : goal.invariant-loop-c
invariant-loop-c l = string_bytes l.shown ≡ string_bytes l.initial.shown ++ flat_map shown_in_lines l.yielded
