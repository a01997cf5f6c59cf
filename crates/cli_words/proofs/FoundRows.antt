-- The row of the code that has a name is the row of the definition that has it, for `commands`.
use Rattle.std.proofs.Common.{◌≡◌, ◌⊎◌, inl, inr, Bool, true, false, List, [], ◌∷◌, Some, find, map, refl, ap, sym, ◌∙◌}
use Rattle.std.specs.Option.{option_map}
use Rattle.std.proofs.lemmas.Bool.{cases_Bool, cond-true, cond-false}

-- the image of the first that passes is the first image that passes
pub find_of_image : {X Y : Type 0} (view : X → Y) (p : Y → Bool) (xs : List X) → option_map view (find (λ x. p (view x)) xs) ≡ find p (map view xs)
find_of_image view p [] = refl
find_of_image view p (x ∷ xs) =
    let tested : (p (view x) ≡ true) ⊎ (p (view x) ≡ false) = cases_Bool (p (view x)) in
    elim tested [
      | inl passes ↦ ap (option_map view) (cond-true (p (view x)) (Some x) (find (λ x. p (view x)) xs) passes)
          ∙ sym (cond-true (p (view x)) (Some (view x)) (find p (map view xs)) passes)
      | inr fails ↦ ap (option_map view) (cond-false (p (view x)) (Some x) (find (λ x. p (view x)) xs) fails)
          ∙ find_of_image view p xs
          ∙ sym (cond-false (p (view x)) (Some (view x)) (find p (map view xs)) fails)
    ]
