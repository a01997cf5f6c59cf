use Rattle.std.proofs.Common.{◌≡◌, ◌∙◌, ◌<◌, ◌+◌, ◌++◌, ◌∷◌, [], ℕ, List, ap, sym, map, length, take, get_or}
use Rattle.std.proofs.lemmas.List.{map-append, take_more}
use Rattle.desk_text.specs.declared.raw_word.Word.{Word}
use Rattle.desk_text.specs.Views.{word_of}
use Rattle.desk_text.specs.Word.{word_value}
use Rattle.desk_expect.proofs.reading.values_of.Goals as goal

-- one more element, under two maps
one_more : {A B C : Type 0} (g : B → C) (f : A → B) (xs : List A) (i : ℕ) (d : A) → i < length xs → map g (map f (take i xs)) ++ g (f (get_or xs i d)) ∷ [] ≡ map g (map f (take (i + 1) xs))
one_more g f xs i d below =
    sym (map-append g (map f (take i xs)) (f (get_or xs i d) ∷ []))
    ∙ ap (map g) (sym (map-append f (take i xs) (get_or xs i d ∷ [])))
    ∙ ap (λ ys. map g (map f ys)) (sym (take_more xs i d below))

pub loop-word-preserved : goal.loop-word-preserved
loop-word-preserved c =
    let so_far = map (λ w. word_value w.raw) (map word_of (take c.loop-word.word-index c.args.words.now)) in
    c.in_ok-push.ensures.items
    ∙ ap (λ (values : List (List ℕ)). values ++ c.from_string.result ∷ []) c.loop-word.invariant
    ∙ ap (λ (value : List ℕ). so_far ++ value ∷ []) (c.from_string.ensures ∙ c.in_ok-value.ensures)
    ∙ ap (λ (word : Word). so_far ++ word_value word.raw.now ∷ []) c.word-item.is
    ∙ one_more (λ w. word_value w.raw) word_of c.args.words.now c.loop-word.word-index c.word-item.result c.loop-word-test.true
