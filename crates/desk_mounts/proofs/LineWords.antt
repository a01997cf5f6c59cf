-- What a line lists whose words are a slice.
use Rattle.std.proofs.Common.{◌≡◌, ◌∙◌, ◌<◌, ◌≤◌, List, [], ◌∷◌, ap, arith, get_or, length, map}
use Rattle.desk_text.specs.Views.{word_of}
use Rattle.desk_text.specs.Word.{word_value}
use Rattle.desk_text.specs.declared.raw_word.Word.{Word}
use Rattle.desk_mounts.specs.Reading.{is_left_out, kept_answer, word_answer, words_answer}
use Rattle.desk_mounts.specs.declared.rules.Rule.TheVariants.{Second}

pub second_of_two : (words : List Word) (path : Word) → 2 ≤ length words → length words < 3 → path ≡ get_or words 1 path
    → word_answer (λ fault. Second fault) (word_value path.raw.now) ≡ words_answer (map (λ w. word_value w.raw) (map word_of words))
second_of_two [] path least below is = absurd (omega (arith, least))
second_of_two (a ∷ []) path least below is = absurd (omega (arith, least))
second_of_two (a ∷ b ∷ []) path least below is = ap (λ (w : Word). word_answer (λ fault. Second fault) (word_value w.raw.now)) is
second_of_two (a ∷ b ∷ c ∷ more) path least below is = absurd (omega (arith, below))

pub second_of_four : (words : List Word) (path kind : Word) → 4 ≤ length words → path ≡ get_or words 1 path → kind ≡ get_or words 2 kind
    → kept_answer (is_left_out (word_value kind.raw.now)) (word_value path.raw.now) ≡ words_answer (map (λ w. word_value w.raw) (map word_of words))
second_of_four [] path kind least is of = absurd (omega (arith, least))
second_of_four (a ∷ []) path kind least is of = absurd (omega (arith, least))
second_of_four (a ∷ b ∷ []) path kind least is of = absurd (omega (arith, least))
second_of_four (a ∷ b ∷ c ∷ []) path kind least is of = absurd (omega (arith, least))
second_of_four (a ∷ b ∷ c ∷ d ∷ more) path kind least is of =
    ap (λ (w : Word). kept_answer (is_left_out (word_value kind.raw.now)) (word_value w.raw.now)) is
    ∙ ap (λ (w : Word). kept_answer (is_left_out (word_value w.raw.now)) (word_value b.raw.now)) of
