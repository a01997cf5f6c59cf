-- The characters so far were added.
use Rattle.std.proofs.Common.{◌≡◌, ◌++◌}
use Rattle.std.specs.List.{flat_map}
use Rattle.std.specs.String.{string_bytes}
use Rattle.desk_sarif.specs.Logs.{in_message}
use Rattle.desk_sarif.proofs.logs.push_in_message.Given as goal

abbrev pub invariant-loop-c : goal.invariant-loop-c
invariant-loop-c l = string_bytes l.message ≡ string_bytes l.initial.message ++ flat_map in_message l.yielded
