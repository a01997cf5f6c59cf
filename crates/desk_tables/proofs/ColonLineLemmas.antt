-- Lemmas on the fields of a line, and on the parts of a text that are kept.
use Rattle.std.proofs.Common.{◌+◌, ◌∷◌, ◌++◌, cond, filter, take, get_or, ◌≡◌, ◌<◌, ℕ, Bool, true, false, List, [], Option, Some, None, length, ap, sym, ◌∙◌, Bor}
use Rattle.std.proofs.lemmas.List.{append-nil, take_more}
use Rattle.std.proofs.lemmas.List.Elements.{filter-append, filter_map-append}
use Rattle.std.proofs.lemmas.Option.{unwrap_or-slice_get}
use Rattle.std.specs.Option.{option_map}
use Rattle.std.specs.Prelude.{slice_get, slice_index_or, unwrap_or}
use Rattle.std.specs.List.{cons_option, filter_map}

-- the part at a place, or the empty text
pub part_or_empty : (o : Option (Bor (List ℕ))) (d : Bor (List ℕ)) (parts : List (List ℕ)) (place : ℕ) → option_map (λ x. x.now) o ≡ slice_get parts place → d.now ≡ [] → (unwrap_or o d).now ≡ slice_index_or parts place []
part_or_empty None d parts place found empty = empty ∙ ap (λ o. unwrap_or o []) found ∙ unwrap_or-slice_get parts place []
part_or_empty (Some x) d parts place found empty = ap (λ o. unwrap_or o []) found ∙ unwrap_or-slice_get parts place []

-- one more part, if it is kept and if it is dropped
module _ (p : List ℕ → Bool) (xs : List (List ℕ)) (i : ℕ) (x : List ℕ) (below : i < length xs) (is : x ≡ get_or xs i x) where
  kept_more : filter p (take (i + 1) xs) ≡ filter p (take i xs) ++ cond (p x) (x ∷ []) []
  kept_more = ap (filter p) (take_more xs i x below ∙ ap (λ y. take i xs ++ y ∷ []) (sym is)) ∙ filter-append p (take i xs) (x ∷ [])

  pub kept : p x ≡ true → filter p (take i xs) ++ x ∷ [] ≡ filter p (take (i + 1) xs)
  kept passes = ap (λ b. filter p (take i xs) ++ cond b (x ∷ []) []) (sym passes) ∙ sym kept_more

  pub dropped : p x ≡ false → filter p (take i xs) ≡ filter p (take (i + 1) xs)
  dropped fails = sym (append-nil (filter p (take i xs))) ∙ ap (λ b. filter p (take i xs) ++ cond b (x ∷ []) []) (sym fails) ∙ sym kept_more

-- one more part, if it gives a number and if it gives none
module _ (f : List ℕ → Option ℕ) (xs : List (List ℕ)) (i : ℕ) (x : List ℕ) (below : i < length xs) (is : x ≡ get_or xs i x) where
  given_more : filter_map f (take (i + 1) xs) ≡ filter_map f (take i xs) ++ cons_option (f x) []
  given_more = ap (filter_map f) (take_more xs i x below ∙ ap (λ y. take i xs ++ y ∷ []) (sym is)) ∙ filter_map-append f (take i xs) (x ∷ [])

  pub given : (n : ℕ) → f x ≡ Some n → filter_map f (take i xs) ++ n ∷ [] ≡ filter_map f (take (i + 1) xs)
  given n some = ap (λ o. filter_map f (take i xs) ++ cons_option o []) (sym some) ∙ sym given_more

  pub absent : f x ≡ None → filter_map f (take i xs) ≡ filter_map f (take (i + 1) xs)
  absent none = sym (append-nil (filter_map f (take i xs))) ∙ ap (λ o. filter_map f (take i xs) ++ cons_option o []) (sym none) ∙ sym given_more
