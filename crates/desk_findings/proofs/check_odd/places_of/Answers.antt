-- One more place is on the line, at its word.
use Rattle.std.proofs.Common.{◌≡◌, ◌∙◌, ◌+◌, ◌++◌, ◌∷◌, [], List, ap, map, subst, sym, take}
use Rattle.std.proofs.lemmas.List.{map-append, take_more}
use Rattle.std.proofs.lemmas.List.Elements.{All-push}
use Rattle.std.specs.List.{All, AllZip}
use Rattle.desk_text.specs.Views.{word_of}
use Rattle.desk_text.specs.Word.{RawWord}
use Rattle.desk_text.specs.declared.place.Place.{Place}
use Rattle.desk_text.specs.declared.raw_word.Word.{Word}
use Rattle.desk_findings.specs.CheckOdd.{IsOfWord, IsOn}
use Rattle.desk_findings.proofs.PlacedWords.{zip_push}
use Rattle.desk_findings.proofs.check_odd.places_of.Goals as goal

pub loop-word-preserved : goal.loop-word-preserved
loop-word-preserved c =
    let line = c.args.line.now in
    let words = c.args.words.now in
    let i = c.loop-word.word-index in
    let word = c.word-item.result in
    let longer : take (i + 1) words ≡ take i words ++ word ∷ [] = take_more words i word c.loop-word-test.true ∙ ap (λ (w : Word). take i words ++ w ∷ []) (sym c.word-item.is) in
    let cut : map word_of (take (i + 1) words) ≡ map word_of (take i words) ++ word_of word ∷ [] = ap (map word_of) longer ∙ map-append word_of (take i words) (word ∷ []) in
    record {
      on = λ text among. subst (All (IsOn text line)) (sym {A = List Place} c.in_ok-push.ensures.items)
          (All-push (IsOn text line) c.loop-word.places.items c.of_word.result (c.loop-word.invariant.on text among)
          (record { own = c.of_word.ensures.own text among; lies = c.of_word.ensures.lies text among }));
      words = subst (λ (ws : List RawWord). AllZip (λ (w : RawWord) place. IsOfWord line place w) ws c.push.new.self.items) (sym cut)
          (subst (λ (ps : List Place). AllZip (λ (w : RawWord) place. IsOfWord line place w) (map word_of (take i words) ++ word_of word ∷ []) ps) (sym {A = List Place} c.in_ok-push.ensures.items)
          (zip_push (λ (w : RawWord) place. IsOfWord line place w) (map word_of (take i words)) c.loop-word.places.items (word_of word) c.of_word.result c.loop-word.invariant.words c.of_word.ensures.exact));
    }
