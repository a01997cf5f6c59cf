-- What is found at the elements of a list so far, with one more, for `texts_back::exports_among`.
use Rattle.std.proofs.Common.{◌≡◌, ℕ, ◌+◌, ◌<◌, ◌++◌, List, [], ◌∷◌, Option, None, Some, ap, get_or, length, sym, take, ◌∙◌}
use Rattle.std.specs.List.{cons_option, filter_map}
use Rattle.std.proofs.lemmas.List.{append-nil, take_more}
use Rattle.std.proofs.lemmas.List.Elements.{filter_map-append}
use Rattle.desk_split.specs.Joining.{StoredFile}
use Rattle.cli_write.specs.PrivateTexts.{with_found}

module _ {X : Type 0} (xs : List X) (i : ℕ) (x d : X) (below : i < length xs) (is : x ≡ get_or xs i d) where
  take_next : take (i + 1) xs ≡ take i xs ++ x ∷ []
  take_next = take_more xs i d below ∙ ap (λ y. take i xs ++ y ∷ []) (sym is)

  module _ (f : X → Option StoredFile) (old : List StoredFile) (before : old ≡ filter_map f (take i xs)) where
    found_next : (o : Option StoredFile) → o ≡ f x → filter_map f (take (i + 1) xs) ≡ filter_map f (take i xs) ++ cons_option o []
    found_next o e = ap (filter_map f) take_next ∙ filter_map-append f (take i xs) (x ∷ []) ∙ ap (λ y. filter_map f (take i xs) ++ cons_option y []) (sym e)

    pub finds_next : (new : List StoredFile) (o : Option StoredFile) → o ≡ f x → new ≡ with_found old o → new ≡ filter_map f (take (i + 1) xs)
    finds_next new None e is = is ∙ before ∙ sym (append-nil (filter_map f (take i xs))) ∙ sym (found_next None e)
    finds_next new (Some file) e is = is ∙ ap (λ ys. ys ++ file ∷ []) before ∙ sym (found_next (Some file) e)
