-- Values of a list that are gathered by reference, or written as text, with one more.
use Rattle.std.proofs.Common.{◌≡◌, ◌<◌, ◌+◌, ◌++◌, ◌∙◌, ℕ, List, [], ◌∷◌, ap, get_or, length, map, sym, take}
use Rattle.std.specs.List.{flat_map}
use Rattle.std.proofs.lemmas.List.{append_assoc, flat_map_more, map-append, take_more}

module _ {X : Type 0} (xs : List X) (i : ℕ) (x : X) (below : i < length xs) (is : x ≡ get_or xs i x) where
  pub take_next : take (i + 1) xs ≡ take i xs ++ x ∷ []
  take_next = take_more xs i x below ∙ ap (λ y. take i xs ++ y ∷ []) (sym is)

  push_map : {B : Type 0} (old new : List B) (f : B → X) (b : B) → new ≡ old ++ b ∷ [] → f b ≡ x → map f new ≡ map f old ++ x ∷ []
  push_map old new f b pushed same = ap (map f) pushed ∙ map-append f old (b ∷ []) ∙ ap (λ y. map f old ++ y ∷ []) same

  -- the values so far behind others
  pub gathers : {B : Type 0} (old new : List B) (f : B → X) (first : List X) (b : B) → new ≡ old ++ b ∷ [] → f b ≡ x → map f old ≡ first ++ take i xs → map f new ≡ first ++ take (i + 1) xs
  gathers old new f first b pushed same before =
      push_map old new f b pushed same ∙ ap (λ ys. ys ++ x ∷ []) before ∙ append_assoc first (take i xs) (x ∷ []) ∙ ap (λ ys. first ++ ys) (sym take_next)

  -- the texts of the values so far behind another
  pub writes : (text_of : X → List ℕ) (start now next : List ℕ) → now ≡ start ++ flat_map text_of (take i xs) → next ≡ now ++ text_of x → next ≡ start ++ flat_map text_of (take (i + 1) xs)
  writes text_of start now next before added =
      added ∙ ap (λ t. t ++ text_of x) before ∙ flat_map_more text_of start (take i xs) x ∙ ap (λ ys. start ++ flat_map text_of ys) (sym take_next)
