-- Values of a list that are gathered by reference, or written as text, with one more.
use Rattle.std.proofs.Common.{◌≡◌, ◌<◌, ◌+◌, ◌++◌, ◌∙◌, ℕ, Bool, true, false, List, [], ◌∷◌, ap, filter, get_or, length, map, sym, take}
use Rattle.std.specs.List.{flat_map}
use Rattle.std.proofs.lemmas.Bool.{cond-true, cond-false}
use Rattle.std.proofs.lemmas.List.{append-nil, append_assoc, flat_map_more, map-append, take_more}
use Rattle.std.proofs.lemmas.List.Elements.{filter-append}

module _ {X : Type 0} (xs : List X) (i : ℕ) (x : X) (below : i < length xs) (is : x ≡ get_or xs i x) where
  take_next : take (i + 1) xs ≡ take i xs ++ x ∷ []
  take_next = take_more xs i x below ∙ ap (λ y. take i xs ++ y ∷ []) (sym is)

  push_map : {B : Type 0} (old new : List B) (f : B → X) (b : B) → new ≡ old ++ b ∷ [] → f b ≡ x → map f new ≡ map f old ++ x ∷ []
  push_map old new f b pushed same = ap (map f) pushed ∙ map-append f old (b ∷ []) ∙ ap (λ y. map f old ++ y ∷ []) same

  filter_next : (p : X → Bool) → filter p (take (i + 1) xs) ≡ filter p (take i xs) ++ filter p (x ∷ [])
  filter_next p = ap (filter p) take_next ∙ filter-append p (take i xs) (x ∷ [])

  -- those of the values so far that pass, behind others
  pub gathers_passing_behind : {B : Type 0} (old new : List B) (f : B → X) (p : X → Bool) (first : List X) (b : B) → new ≡ old ++ b ∷ [] → f b ≡ x → p x ≡ true → map f old ≡ first ++ filter p (take i xs)
      → map f new ≡ first ++ filter p (take (i + 1) xs)
  gathers_passing_behind old new f p first b pushed same passes before =
      push_map old new f b pushed same ∙ ap (λ ys. ys ++ x ∷ []) before ∙ append_assoc first (filter p (take i xs)) (x ∷ [])
      ∙ ap (λ ys. first ++ (filter p (take i xs) ++ ys)) (sym (cond-true (p x) (x ∷ []) [] passes)) ∙ ap (λ ys. first ++ ys) (sym (filter_next p))

  pub leaves_out_behind : {B : Type 0} (old : List B) (f : B → X) (p : X → Bool) (first : List X) → p x ≡ false → map f old ≡ first ++ filter p (take i xs) → map f old ≡ first ++ filter p (take (i + 1) xs)
  leaves_out_behind old f p first fails before =
      before ∙ ap (λ ys. first ++ ys)
      (sym (append-nil (filter p (take i xs))) ∙ ap (λ ys. filter p (take i xs) ++ ys) (sym (cond-false (p x) (x ∷ []) [] fails)) ∙ sym (filter_next p))

  -- the texts of the values so far behind another
  pub writes : (text_of : X → List ℕ) (start now next : List ℕ) → now ≡ start ++ flat_map text_of (take i xs) → next ≡ now ++ text_of x → next ≡ start ++ flat_map text_of (take (i + 1) xs)
  writes text_of start now next before added =
      added ∙ ap (λ t. t ++ text_of x) before ∙ flat_map_more text_of start (take i xs) x ∙ ap (λ ys. start ++ flat_map text_of ys) (sym take_next)
