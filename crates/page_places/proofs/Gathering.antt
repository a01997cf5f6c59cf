-- Parts that are gathered, some behind others.
use Rattle.std.proofs.Common.{◌≡◌, ◌<◌, ◌+◌, ◌++◌, ◌∙◌, ℕ, List, [], ◌∷◌, ap, append_assoc, get_or, length, map, sym, take}
use Rattle.std.specs.List.{flat_map}
use Rattle.std.proofs.lemmas.List.{flat_map_more, map-append, map_more, take_more}

module _ {X Y : Type 0} (f : X → Y) where
  -- one more value, and two more, by what they are made into
  pub one_more : (old new : List X) (a : X) (c : Y) → new ≡ old ++ a ∷ [] → f a ≡ c → map f new ≡ map f old ++ c ∷ []
  one_more old new a c grown is = ap (map f) grown ∙ map-append f old (a ∷ []) ∙ ap (λ y. map f old ++ y ∷ []) is

  pub two_more : (old one new : List X) (a b : X) (c d : Y) → one ≡ old ++ a ∷ [] → new ≡ one ++ b ∷ [] → f a ≡ c → f b ≡ d
      → map f new ≡ map f old ++ c ∷ d ∷ []
  two_more old one new a b c d first second is_a is_b =
      one_more one new b d second is_b ∙ ap (λ l. l ++ d ∷ []) (one_more old one a c first is_a) ∙ append_assoc (map f old) (c ∷ []) (d ∷ [])

-- what is made of the values so far, and of one more
pub gathers : {X Y : Type 0} (xs : List X) (i : ℕ) (d : X) (f : X → List Y) (start now next : List Y) → i < length xs
    → now ≡ start ++ flat_map f (take i xs) → next ≡ now ++ f (get_or xs i d) → next ≡ start ++ flat_map f (take (i + 1) xs)
gathers xs i d f start now next below before added =
    let x = get_or xs i d in
    added ∙ ap (λ l. l ++ f x) before ∙ flat_map_more f start (take i xs) x ∙ ap (λ ys. start ++ flat_map f ys) (sym (take_more xs i d below))

-- the same, given what the values are by value
pub gathers_values : {X Y Z : Type 0} (value_of : X → Z) (xs : List X) (i : ℕ) (d : X) (f : Z → List Y) (start now next : List Y) → i < length xs
    → now ≡ start ++ flat_map f (map value_of (take i xs)) → next ≡ now ++ f (value_of (get_or xs i d))
    → next ≡ start ++ flat_map f (map value_of (take (i + 1) xs))
gathers_values value_of xs i d f start now next below before added =
    let x = value_of (get_or xs i d) in
    added ∙ ap (λ l. l ++ f x) before ∙ flat_map_more f start (map value_of (take i xs)) x
    ∙ ap (λ ys. start ++ flat_map f ys) (sym (map_more value_of xs i d below))
