use Rattle.std.proofs.Common.{◌∙◌, ◌++◌, ◌∷◌, [], List, ap, map, take}
use Rattle.desk_text.specs.declared.raw_word.Word.{Word}
use Rattle.desk_text.specs.Views.{word_of}
use Rattle.desk_exports.specs.Grammar.{grammar_word}
use Rattle.desk_exports.specs.declared.grammar.GrammarWord.{GrammarWord}
use Rattle.desk_exports.proofs.WordLemmas.{mapped_more}
use Rattle.desk_exports.proofs.grammar.grammar_words_into.Goals as goal

pub loop-word-preserved : goal.loop-word-preserved
loop-word-preserved c =
    let so_far : List GrammarWord = map grammar_word (map word_of (take c.loop-word.word-index c.args.words.now)) in
    c.in_ok-push.ensures.items
    ∙ ap (λ (words : List GrammarWord). words ++ c.in_ok-read.field-0 ∷ []) c.loop-word.invariant
    ∙ ap (λ (word : GrammarWord). so_far ++ word ∷ []) c.in_ok-read.ensures
    ∙ ap (λ (word : Word). so_far ++ grammar_word (word_of word) ∷ []) c.word-item.is
    ∙ mapped_more grammar_word word_of c.args.words.now c.loop-word.word-index c.word-item.result c.loop-word-test.true
