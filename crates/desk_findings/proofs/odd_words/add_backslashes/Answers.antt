-- One word more.
use Rattle.std.proofs.Common.{◌≡◌, ℕ, ◌+◌, ◌<◌, ◌++◌, ◌∷◌, ◌∙◌, List, [], ap, arith, get_or, length, map, sym, take}
use Rattle.std.proofs.lemmas.List.{flat_map_more, length-map, length-take-le, map-append, take_more}
use Rattle.std.specs.List.{enumerate_from, flat_map}
use Rattle.desk_text.specs.Views.{word_of}
use Rattle.desk_text.specs.Word.{RawWord}
use Rattle.desk_text.specs.declared.raw_word.Word.{Word}
use Rattle.desk_remarks.specs.declared.remark.Remark.TheVariants.{Backslash}
use Rattle.desk_findings.specs.CheckOdd.{OddLine, odd_at}
use Rattle.desk_findings.specs.OddWords.{has_backslash, odd_backslashes, odd_if}
use Rattle.desk_findings.proofs.odd_words.add_backslashes.Goals as goal

enumerated : (n : ℕ) (xs : List RawWord) (x : RawWord) → enumerate_from n (xs ++ x ∷ []) ≡ enumerate_from n xs ++ (n + length xs, x) ∷ []
enumerated n [] x = let none : n ≡ n + 0 = omega arith in ap {B = List (ℕ × RawWord)} (λ k. (k, x) ∷ []) none
enumerated n (y ∷ xs) x =
    let on : n + 1 + length xs ≡ n + (length (y ∷ xs)) = omega arith in
    ap (λ l. (n, y) ∷ l) (enumerated (n + 1) xs x ∙ ap {B = List (ℕ × RawWord)} (λ k. enumerate_from (n + 1) xs ++ (k, x) ∷ []) on)

abbrev odd_one : ℕ → ℕ × RawWord → List OddLine
odd_one number one = odd_if (has_backslash one.1.raw) number Backslash one.0

one_more : (number : ℕ) (words : List Word) (i : ℕ) (word : Word) (before : List OddLine) → i < length words → word ≡ get_or words i word
    → (before ++ odd_backslashes number (map word_of (take i words))) ++ odd_if (has_backslash word.raw.now) number Backslash i ≡ before ++ odd_backslashes number (map word_of (take (i + 1) words))
one_more number words i word before below is =
    let so_far : List RawWord = map word_of (take i words) in
    let longer : map word_of (take (i + 1) words) ≡ so_far ++ word_of word ∷ [] = ap (map word_of) (take_more words i word below ∙ ap (λ (w : Word). take i words ++ w ∷ []) (sym is)) ∙ map-append word_of (take i words) (word ∷ []) in
    let mapped : length so_far ≡ length (take i words) = length-map (take i words) word_of in
    let count : length (take i words) ≡ i = length-take-le i words (omega (arith, below)) in
    let len : 0 + length so_far ≡ i = omega (arith, mapped, count) in
    ap (λ n. (before ++ odd_backslashes number so_far) ++ odd_if (has_backslash word.raw.now) number Backslash n) (sym len)
    ∙ flat_map_more (odd_one number) before (enumerate_from 0 so_far) (0 + length so_far, word_of word)
    ∙ ap (λ l. before ++ flat_map (odd_one number) l) (sym (enumerated 0 so_far (word_of word)) ∙ ap (enumerate_from 0) (sym longer))

pub loop-index-preserved : goal.loop-index-preserved
loop-index-preserved c =
    let number = c.args.number in
    let index = c.loop-index.index in
    let word = c.index-words-index.result in
    c.in_ok-add_if.ensures
    ∙ ap (λ made. map odd_at c.loop-index.odds.items ++ odd_if made number Backslash index) c.has_backslash.ensures
    ∙ ap (λ before. before ++ odd_if (has_backslash word.raw.now) number Backslash index) c.loop-index.invariant
    ∙ one_more number c.args.words.now index word (map odd_at c.args.odds.now.items) c.loop-index-test.true c.index-words-index.is
