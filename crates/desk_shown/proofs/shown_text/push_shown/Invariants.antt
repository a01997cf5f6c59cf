-- The characters so far were added.
use Rattle.std.proofs.Common.{◌≡◌, ◌++◌}
use Rattle.std.specs.List.{flat_map}
use Rattle.std.specs.String.{string_bytes}
use Rattle.desk_shown.specs.ShownText.{shown}
use Rattle.desk_shown.proofs.shown_text.push_shown.Given as goal

abbrev pub invariant-loop-c : goal.invariant-loop-c
invariant-loop-c l = string_bytes l.shown ≡ string_bytes l.initial.shown ++ flat_map shown l.yielded
