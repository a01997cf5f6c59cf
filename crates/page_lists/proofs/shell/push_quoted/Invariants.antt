-- The characters so far were added.
use Rattle.std.proofs.Common.{◌≡◌, ◌++◌}
use Rattle.std.specs.Str.{encode_utf8_all}
use Rattle.std.specs.String.{string_bytes}
use Rattle.page_lists.specs.Shell.{all_in_quotes}
use Rattle.page_lists.proofs.shell.push_quoted.Given as goal

abbrev pub invariant-loop-c : goal.invariant-loop-c
invariant-loop-c l = string_bytes l.word ≡ string_bytes l.initial.word ++ encode_utf8_all (all_in_quotes l.yielded)
