-- The lines so far were added.
use Rattle.std.proofs.Common.{◌≡◌, ◌++◌, ℕ, List, length, take}
use Rattle.std.specs.Str.Lines.{lines}
use Rattle.std.specs.String.{string_bytes}
use Rattle.page_filesystem.specs.Proposals.{HasLines, proposed_rows}
use Rattle.page_filesystem.proofs.proposals.push_proposed_rows.Given as goal

abbrev pub invariant-loop-line : goal.invariant-loop-line
invariant-loop-line l = record {
  counted : l.number ≡ length l.yielded;
  added : (given : List (List ℕ)) → HasLines given l.known → string_bytes l.page ≡ string_bytes l.initial.page ++ proposed_rows given 0
      (take (length l.yielded) (lines l.text));
}
