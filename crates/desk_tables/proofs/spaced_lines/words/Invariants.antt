-- The words of the runs so far.
use Rattle.std.proofs.Common.{◌≡◌, ◌==◌, length, map, take}
use Rattle.std.specs.List.{flat_map, slice_split}
use Rattle.desk_tables.specs.PrivateSpacedLines.{words_between_tabs}
use Rattle.desk_tables.proofs.spaced_lines.words.Given as goal

abbrev pub invariant-loop-run : goal.invariant-loop-run
invariant-loop-run l = map (λ x. x.now) l.words.items ≡ flat_map words_between_tabs (take (length l.yielded) (slice_split (λ b. b == 32) l.text))
