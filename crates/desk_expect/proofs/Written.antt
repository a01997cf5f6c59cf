-- What the items of a list give, one after the other.
use Rattle.std.proofs.Common.{◌≡◌, ◌<◌, ◌+◌, ◌++◌, ◌∙◌, ℕ, List, [], ◌∷◌, ap, get_or, length, map, refl, sym, take}
use Rattle.std.specs.List.{flat_map}
use Rattle.std.proofs.lemmas.List.{append_assoc, flat_map_more, take_more}

module _ {X Y : Type 0} (write : X → List Y) where
  flat_next : (xs : List X) (x : X) → flat_map write (xs ++ x ∷ []) ≡ flat_map write xs ++ write x
  flat_next xs x = sym (flat_map_more write [] xs x)

  -- those of one item more
  pub writes_next : (items : List X) (i : ℕ) (item : X) → i < length items → item ≡ get_or items i item → (start old new : List Y) → old ≡ start ++ flat_map write (take i items) → new ≡ old ++ write item
      → new ≡ start ++ flat_map write (take (i + 1) items)
  writes_next items i item below is start old new so_far added =
      let more : take (i + 1) items ≡ take i items ++ item ∷ [] = take_more items i item below ∙ ap (λ (x : X). take i items ++ x ∷ []) (sym is) in
      added ∙ ap (λ t. t ++ write item) so_far ∙ append_assoc start (flat_map write (take i items)) (write item)
      ∙ ap (λ t. start ++ t) (sym (flat_next (take i items) item)) ∙ ap (λ xs. start ++ flat_map write xs) (sym more)

-- those of values
pub by_values : {X Y Z : Type 0} (value : X → Y) (write : Y → List Z) (xs : List X) → flat_map (λ (x : X). write (value x)) xs ≡ flat_map write (map value xs)
by_values value write [] = refl
by_values value write (x ∷ xs) = ap (λ ys. write (value x) ++ ys) (by_values value write xs)
