-- Lists that are read by value, with one more, and at a place.
use Rattle.std.proofs.Common.{◌≡◌, ℕ, ◌+◌, ◌<◌, ◌++◌, ◌∙◌, List, [], ◌∷◌, ap, arith, get_or, length, map, sym, take}
use Rattle.std.proofs.lemmas.List.{get_or-map, length-map, map-append, map_more}

pub told_more : {X Y V : Type 0} (value : Y → V) (of : X → V) (xs : List X) (i : ℕ) (x : X) (old new : List Y) (y : Y) → i < length xs → x ≡ get_or xs i x
    → map value old ≡ map of (take i xs) → new ≡ old ++ y ∷ [] → value y ≡ of x → map value new ≡ map of (take (i + 1) xs)
told_more value of xs i x old new y within is before pushed told =
    ap (map value) pushed ∙ map-append value old (y ∷ []) ∙ ap (λ vs. vs ++ value y ∷ []) before ∙ ap (λ v. map of (take i xs) ++ v ∷ []) (told ∙ ap of is)
    ∙ sym (map_more of xs i x within)

-- the same, given a value at the place
pub told_next : {X Y V : Type 0} (value : Y → V) (of : X → V) (xs : List X) (i : ℕ) (d : X) (old new : List Y) (y : Y) → i < length xs → map value old ≡ map of (take i xs)
    → new ≡ old ++ y ∷ [] → value y ≡ of (get_or xs i d) → map value new ≡ map of (take (i + 1) xs)
told_next value of xs i d old new y within before pushed told =
    ap (map value) pushed ∙ map-append value old (y ∷ []) ∙ ap (λ vs. vs ++ value y ∷ []) before ∙ ap (λ v. map of (take i xs) ++ v ∷ []) told ∙ sym (map_more of xs i d within)

pub same_at : {X Y V : Type 0} (f : X → V) (g : Y → V) (xs : List X) (ys : List Y) (i : ℕ) (x : X) (y : Y) → map f xs ≡ map g ys → i < length ys
    → x ≡ get_or xs i x → y ≡ get_or ys i y → f x ≡ g y
same_at f g xs ys i x y same within is_x is_y =
    let many : length xs ≡ length ys = sym (length-map xs f) ∙ ap length same ∙ length-map ys g in
    ap f is_x ∙ sym (get_or-map f xs i x (f x) (omega arith)) ∙ ap (λ vs. get_or vs i (f x)) same ∙ get_or-map g ys i y (f x) within ∙ ap g (sym is_y)

pub as_many : {X Y V : Type 0} (f : X → V) (g : Y → V) (xs : List X) (ys : List Y) → map f xs ≡ map g ys → length xs ≡ length ys
as_many f g xs ys same = sym (length-map xs f) ∙ ap length same ∙ length-map ys g
