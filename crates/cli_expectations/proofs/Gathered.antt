-- A list that a loop gathers, of what each element of another gives.
use Rattle.std.proofs.Common.{◌≡◌, ◌∙◌, ◌+◌, ◌<◌, ◌++◌, ◌∷◌, ℕ, List, [], ap, get_or, length, map, refl, sym, take}
use Rattle.std.specs.List.{flat_map}
use Rattle.desk_expect.specs.declared.rules.PlacedFault.{PlacedFault}
use Rattle.desk_expect.specs.declared.rules.Rule.TheVariants.{OpenQuote}
use Rattle.std.proofs.lemmas.List.{append_assoc, flat_map_more, map-append, take_more}

-- what is read where a list ends
abbrev pub no_fault : PlacedFault
no_fault = record { fault = record { line = 0; rule = OpenQuote }; place = record { line = 0; start = 0; end = 0 } }

-- one element more gives its part
pub gathers : {X Y : Type 0} (parts : X → List Y) (xs : List X) (i : ℕ) (x : X) → i < length xs → x ≡ get_or xs i x → (start now next : List Y) → now ≡ start ++ flat_map parts (take i xs) → next ≡ now ++ parts x → next ≡ start ++ flat_map parts (take (i + 1) xs)
gathers parts xs i x below is start now next before added =
    added ∙ ap (λ t. t ++ parts x) before ∙ flat_map_more parts start (take i xs) x
    ∙ ap (λ ys. start ++ flat_map parts ys) (sym (take_more xs i x below ∙ ap (λ y. take i xs ++ y ∷ []) (sym is)))

-- one element more gives one
pub gathers_one : {X Y : Type 0} (part : X → Y) (xs : List X) (i : ℕ) (x : X) → i < length xs → x ≡ get_or xs i x → (start now next : List Y) → now ≡ start ++ map part (take i xs) → next ≡ now ++ part x ∷ [] → next ≡ start ++ map part (take (i + 1) xs)
gathers_one part xs i x below is start now next before added =
    added ∙ ap (λ t. t ++ part x ∷ []) before ∙ append_assoc start (map part (take i xs)) (part x ∷ [])
    ∙ ap (λ t. start ++ t) (sym (ap (map part) (take_more xs i x below ∙ ap (λ y. take i xs ++ y ∷ []) (sym is)) ∙ map-append part (take i xs) (x ∷ [])))

-- the same, of an element that is read at its place
pub gathers_at : {X Y : Type 0} (parts : X → List Y) (xs : List X) (i : ℕ) (d : X) → i < length xs → (start now next : List Y) → now ≡ start ++ flat_map parts (take i xs) → next ≡ now ++ parts (get_or xs i d) → next ≡ start ++ flat_map parts (take (i + 1) xs)
gathers_at parts xs i d below start now next before added =
    added ∙ ap (λ t. t ++ parts (get_or xs i d)) before ∙ flat_map_more parts start (take i xs) (get_or xs i d) ∙ ap (λ ys. start ++ flat_map parts ys) (sym (take_more xs i d below))

pub gathers_one_at : {X Y : Type 0} (part : X → Y) (xs : List X) (i : ℕ) (d : X) → i < length xs → (start now next : List Y) → now ≡ start ++ map part (take i xs) → next ≡ now ++ part (get_or xs i d) ∷ [] → next ≡ start ++ map part (take (i + 1) xs)
gathers_one_at part xs i d below start now next before added =
    added ∙ ap (λ t. t ++ part (get_or xs i d) ∷ []) before ∙ append_assoc start (map part (take i xs)) (part (get_or xs i d) ∷ [])
    ∙ ap (λ t. start ++ t) (sym (ap (map part) (take_more xs i d below) ∙ map-append part (take i xs) (get_or xs i d ∷ [])))

-- the parts of elements by value
pub by_values : {X V Y : Type 0} (value : X → V) (parts : V → List Y) (xs : List X) → flat_map (λ x. parts (value x)) xs ≡ flat_map parts (map value xs)
by_values value parts [] = refl
by_values value parts (x ∷ xs) = ap (λ t. parts (value x) ++ t) (by_values value parts xs)

-- the images of elements by value
pub one_by_value : {X V Y : Type 0} (value : X → V) (part : V → Y) (xs : List X) → map (λ x. part (value x)) xs ≡ map part (map value xs)
one_by_value value part [] = refl
one_by_value value part (x ∷ xs) = ap (λ t. part (value x) ∷ t) (one_by_value value part xs)
