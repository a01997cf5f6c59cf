-- The places of all words, if each quote closes.
use Rattle.std.proofs.Common.{◌≡◌, ◌∙◌, List, Err, Ok, ap, map, sym}
use Rattle.std.proofs.lemmas.Result.{IfOk-weaker}
use Rattle.desk_text.specs.Views.{word_of}
use Rattle.desk_text.specs.Word.{read_words}
use Rattle.desk_text.specs.declared.raw_word.Word.{Word}
use Rattle.desk_findings.proofs.PlacedWords.{no_words_at, read_as, read_not, words_at}
use Rattle.desk_findings.proofs.check_odd.all_places.Goals as goal

pub returns-in-Ok-clause-words : goal.returns-in-Ok-clause-words
returns-in-Ok-clause-words c =
    let line = c.args.line.now in
    let given = c.as_slice.result.now in
    let cut : read_words line ≡ Ok (map word_of given) =
    read_as _ c.words.result _ c.in-Ok.words (sym c.split.ensures ∙ c.in_ok-words.was ∙ ap Ok c.in-Ok.is) c.words.ensures ∙ ap (λ (ws : List Word). Ok (map word_of ws)) (sym c.as_slice.ensures.value) in
    IfOk-weaker c.places_of-places.result _ _ (λ places. words_at line (map word_of given) places.items cut) c.places_of-places.ensures.words

pub returns-in-Err-clause-words : goal.returns-in-Err-clause-words
returns-in-Err-clause-words c =
    let line = c.args.line.now in
    let cut : read_words line ≡ Err c.in-Err.field-0 = read_not _ c.words.result _ c.in-Err.field-0 (sym c.split.ensures ∙ c.in_ok-words.was ∙ ap Ok c.in-Err.is) c.words.ensures in
    no_words_at line c.in-Err.field-0 c.new.result.items cut
