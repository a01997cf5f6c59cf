-- The words among the parts so far are added.
use Rattle.std.proofs.Common.{◌≡◌, ◌==◌, ◌++◌, filter, not, length, map, take}
use Rattle.std.specs.List.{slice_split}
use Rattle.desk_tables.proofs.spaced_lines.push_words.Given as goal

abbrev pub invariant-loop-word : goal.invariant-loop-word
invariant-loop-word l =
    map (λ x. x.now) l.words.items
    ≡ map (λ x. x.now) l.fn.words.items ++ filter (λ word. not (length word == 0)) (take (length l.yielded) (slice_split (λ b. b == 9) l.run))
