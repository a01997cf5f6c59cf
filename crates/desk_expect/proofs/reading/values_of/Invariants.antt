use Rattle.std.proofs.Common.{◌≡◌, map, take}
use Rattle.desk_text.specs.Views.{word_of}
use Rattle.desk_text.specs.Word.{word_value}
use Rattle.desk_expect.proofs.reading.values_of.Given as goal

abbrev pub invariant-loop-word : goal.invariant-loop-word
invariant-loop-word l = l.values.items ≡ map (λ w. word_value w.raw) (map word_of (take l.word-index l.words))
