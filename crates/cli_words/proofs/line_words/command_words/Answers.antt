-- The loop stops at the first word that is not UTF-8.
use Rattle.std.proofs.Common.{◌∙◌, codes, ◌∷◌, ap, map, take_all, Bor, List, ℕ}
use Rattle.cli_words.specs.LineWords.{is_not_utf8}
use Rattle.cli_words.proofs.FirstBad.{first_place, none_more_of, texts_more}
use Rattle.cli_words.proofs.LineTexts.{bad_word, good_word}
use Rattle.cli_words.proofs.line_words.command_words.Goals as goal

pub returns-in-Err : goal.returns-in-Err
returns-in-Err g c =
    first_place is_not_utf8 g.S.AsSlice.items c.args.words.now c.loop-index.index c.index-words-index.result c.index-words-index.result c.loop-index-test.true c.index-words-index.is
    c.loop-index.invariant.good (bad_word _ _ c.as_slice.ensures c.in-Err.ensures.cases.0)

pub loop-index-preserved : goal.loop-index-preserved
loop-index-preserved g c =
    record {
      texts =
          ap (map (λ (word : Bor (List ℕ)). word.now)) c.in_ok-push-in-Ok.ensures.items
          ∙ texts_more g.S.AsSlice.items c.args.words.now c.loop-index.index c.index-words-index.result c.loop-index.line.items c.in-Ok.text (codes "exportdesk") c.index-words-index.result c.loop-index-test.true c.index-words-index.is
          c.loop-index.invariant.texts (c.in-Ok.ensures.cases.0 ∙ c.as_slice.ensures);
      good =
          none_more_of is_not_utf8 g.S.AsSlice.items c.args.words.now c.loop-index.index c.index-words-index.result c.index-words-index.result c.loop-index-test.true c.index-words-index.is
          c.loop-index.invariant.good (good_word _ _ c.as_slice.ensures c.in-Ok.ensures.cases.1);
    }

pub returns : goal.returns
returns g c =
    c.loop-index.invariant.texts
    ∙ ap (λ words. codes "exportdesk" ∷ map g.S.AsSlice.items words) (take_all c.loop-index.index c.args.words.now c.loop-index-test.false)
