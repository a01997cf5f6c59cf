-- What is added so far.
use Rattle.std.proofs.Common.{◌≡◌, ◌++◌, map, take}
use Rattle.desk_text.specs.Views.{word_of}
use Rattle.desk_findings.specs.CheckOdd.{odd_at}
use Rattle.desk_findings.specs.OddWords.{odd_backslashes}
use Rattle.desk_findings.proofs.odd_words.add_backslashes.Given as goal

abbrev pub invariant-loop-index : goal.invariant-loop-index
invariant-loop-index l = map odd_at l.odds.items ≡ map odd_at l.initial.odds.items ++ odd_backslashes l.number (map word_of (take l.index l.words))
