-- Values of a list that are gathered, with one more.
use Rattle.std.proofs.Common.{◌≡◌, ◌<◌, ◌+◌, ◌++◌, ◌∙◌, ℕ, List, [], ◌∷◌, ap, get_or, length, sym, take}
use Rattle.std.specs.List.{flat_map}
use Rattle.std.proofs.lemmas.List.{flat_map_more, take_more}

module _ {X : Type 0} (xs : List X) (i : ℕ) (x : X) (below : i < length xs) (is : x ≡ get_or xs i x) where
  pub take_next : take (i + 1) xs ≡ take i xs ++ x ∷ []
  take_next = take_more xs i x below ∙ ap (λ y. take i xs ++ y ∷ []) (sym is)

  pub writes : {Y : Type 0} (of : X → List Y) (start now next : List Y) → now ≡ start ++ flat_map of (take i xs) → next ≡ now ++ of x → next ≡ start ++ flat_map of (take (i + 1) xs)
  writes of start now next before added =
      added ∙ ap (λ t. t ++ of x) before ∙ flat_map_more of start (take i xs) x ∙ ap (λ ys. start ++ flat_map of ys) (sym take_next)
