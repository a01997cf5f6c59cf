use Rattle.std.proofs.Common.{◌≡◌, map, take}
use Rattle.desk_text.specs.Views.{word_of}
use Rattle.desk_exports.specs.Grammar.{grammar_word}
use Rattle.desk_exports.proofs.grammar.grammar_words_into.Given as goal

abbrev pub invariant-loop-word : goal.invariant-loop-word
invariant-loop-word l = l.read.items ≡ map grammar_word (map word_of (take l.word-index l.words))
