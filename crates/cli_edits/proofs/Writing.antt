-- A text that a loop writes, line after line, for `init_command`.
use Rattle.std.proofs.Common.{◌≡◌, ◌∙◌, ◌+◌, ◌<◌, ◌++◌, ◌∷◌, ℕ, List, [], ap, get_or, length, sym, take}
use Rattle.std.specs.List.{flat_map}
use Rattle.std.proofs.lemmas.List.{flat_map_more, take_more}

-- the texts of the values so far after another
pub writes : {X : Type 0} (xs : List X) (i : ℕ) (x : X) → i < length xs → x ≡ get_or xs i x → (text_of : X → List ℕ) (start now next : List ℕ) → now ≡ start ++ flat_map text_of (take i xs) → next ≡ now ++ text_of x → next ≡ start ++ flat_map text_of (take (i + 1) xs)
writes xs i x below is text_of start now next before added =
    added ∙ ap (λ t. t ++ text_of x) before ∙ flat_map_more text_of start (take i xs) x
    ∙ ap (λ ys. start ++ flat_map text_of ys) (sym (take_more xs i x below ∙ ap (λ y. take i xs ++ y ∷ []) (sym is)))
