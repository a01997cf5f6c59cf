-- What is added so far.
use Rattle.std.proofs.Common.{◌≡◌, ◌++◌, map, take}
use Rattle.std.specs.List.{flat_map}
use Rattle.desk_findings.specs.CheckOdd.{odd_at}
use Rattle.desk_findings.specs.OddWords.{odd_words_of}
use Rattle.desk_findings.proofs.odd_words.add_odd_words.Given as goal

abbrev pub invariant-loop-line : goal.invariant-loop-line
invariant-loop-line l = map odd_at l.odds.items ≡ map odd_at l.initial.odds.items ++ flat_map (odd_words_of l.opinions) (take l.line-index l.line-items)
