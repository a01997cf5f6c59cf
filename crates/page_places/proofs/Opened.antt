-- What the server grants at places, with one more of them.
use Rattle.std.proofs.Common.{◌≡◌, ◌++◌, ◌∙◌, Bool, true, false, cond, List, [], ◌∷◌, ap, map, refl, sym}
use Rattle.std.specs.Prelude.{◌||◌}
use Rattle.std.proofs.lemmas.List.{append-nil}
use Rattle.desk_impact.specs.Places.{Place}
use Rattle.desk_impact.specs.Sections.{PlaceBreaches}
use Rattle.page_places.specs.ListedOpenings.{is_among, same_place}

or_none : (b : Bool) → (b || false) ≡ b
or_none true = refl
or_none false = refl

or_assoc : (a b c : Bool) → (a || (b || c)) ≡ ((a || b) || c)
or_assoc true b c = refl
or_assoc false b c = refl

pub one_among : (places : List PlaceBreaches) (one : PlaceBreaches) (place : Place) → is_among (places ++ one ∷ []) place ≡ (is_among places place || same_place one.place place)
one_among [] one place = or_none (same_place one.place place)
one_among (first ∷ places) one place =
    ap (λ b. same_place first.place place || b) (one_among places one place) ∙ or_assoc (same_place first.place place) (is_among places place) (same_place one.place place)

pub map_twice : {X Y Z : Type 0} (f : X → Y) (g : Y → Z) (xs : List X) → map g (map f xs) ≡ map (λ x. g (f x)) xs
map_twice f g [] = refl
map_twice f g (x ∷ xs) = ap (λ zs. g (f x) ∷ zs) (map_twice f g xs)

-- what is added of a place that is one of these, or nothing
pub added_if : {X Y : Type 0} (value_of : X → Y) (all new : List X) (more : List Y) (b : Bool) → b ≡ true → map value_of new ≡ map value_of all ++ more → map value_of new ≡ map value_of all ++ cond b more []
added_if value_of all new more b is added = added ∙ ap (λ c. map value_of all ++ cond c more []) (sym is)

pub none_added : {X Y : Type 0} (value_of : X → Y) (all : List X) (more : List Y) (b : Bool) → b ≡ false → map value_of all ≡ map value_of all ++ cond b more []
none_added value_of all more b is = sym (append-nil (map value_of all)) ∙ ap (λ c. map value_of all ++ cond c more []) (sym is)
