-- The first word that fails a test, for `line_words::command_words` and `arguments::read_mount_points`.
use Rattle.std.proofs.Common.{◌≡◌, ℕ, ◌+◌, ◌<◌, Bool, true, false, ◌||◌, List, [], ◌∷◌, ◌++◌, map, length, get_or, take, drop, Some, None, find, refl, sym, ap, ◌∙◌, arith, drop-cons, suc, Bor}
use Rattle.std.proofs.lemmas.List.{length-map, length-take-le, map-append, map_more, take-append-drop}
use Rattle.std.specs.List.{list_any, position_from}

neither : (a b : Bool) → (a || b) ≡ false → (a ≡ false) × (b ≡ false)
neither false b e = (refl, e)
neither true b e = absurd (cc)

-- one more that passes none
pub none_more : (p : List ℕ → Bool) (xs : List (List ℕ)) (y : List ℕ) → list_any p xs ≡ false → p y ≡ false → list_any p (xs ++ y ∷ []) ≡ false
none_more p [] y none here = rw here refl
none_more p (x ∷ xs) y none here = rw ((neither (p x) (list_any p xs) none).0) (none_more p xs y (neither (p x) (list_any p xs) none).1 here)

pub find_none : (p : List ℕ → Bool) (xs : List (List ℕ)) → list_any p xs ≡ false → find p xs ≡ None
find_none p [] none = refl
find_none p (x ∷ xs) none = rw ((neither (p x) (list_any p xs) none).0) (find_none p xs (neither (p x) (list_any p xs) none).1)

pub find_at : (p : List ℕ → Bool) (xs : List (List ℕ)) (y : List ℕ) (ys : List (List ℕ)) → list_any p xs ≡ false → p y ≡ true → find p (xs ++ y ∷ ys) ≡ Some y
find_at p [] y ys none here = rw here refl
find_at p (x ∷ xs) y ys none here = rw ((neither (p x) (list_any p xs) none).0) (find_at p xs y ys (neither (p x) (list_any p xs) none).1 here)

pub place_at : (p : List ℕ → Bool) (i : ℕ) (xs : List (List ℕ)) (y : List ℕ) (ys : List (List ℕ)) → list_any p xs ≡ false → p y ≡ true → position_from p i (xs ++ y ∷ ys) ≡ Some (i + length xs)
place_at p i [] y ys none here = rw here (ap Some (omega arith))
place_at p i (x ∷ xs) y ys none here =
    rw ((neither (p x) (list_any p xs) none).0) (place_at p (i + 1) xs y ys (neither (p x) (list_any p xs) none).1 here ∙ ap Some (omega arith))

-- the texts of items, split at one of them
pub parts : {X : Type 0} (f : X → List ℕ) (xs : List X) (i : ℕ) (d : X) → i < length xs → map f xs ≡ map f (take i xs) ++ f (get_or xs i d) ∷ map f (drop (suc i) xs)
parts f xs i d within =
    ap (map f) (sym (take-append-drop i xs)) ∙ map-append f (take i xs) (drop i xs) ∙ ap (λ rest. map f (take i xs) ++ map f rest) (drop-cons xs i d within)

-- the first item whose text passes, where none before it does
pub first_found : {X : Type 0} (p : List ℕ → Bool) (f : X → List ℕ) (xs : List X) (i : ℕ) (x : X) (d : X) → i < length xs → x ≡ get_or xs i d → list_any p (map f (take i xs)) ≡ false → p (f x) ≡ true → find p (map f xs) ≡ Some (f x)
first_found p f xs i x d within is none here =
    ap (find p) (parts f xs i d within)
    ∙ find_at p (map f (take i xs)) (f (get_or xs i d)) (map f (drop (suc i) xs)) none (ap (λ y. p (f y)) (sym is) ∙ here)
    ∙ ap (λ y. Some (f y)) (sym is)

-- its place, from 1
pub first_place : {X : Type 0} (p : List ℕ → Bool) (f : X → List ℕ) (xs : List X) (i : ℕ) (x : X) (d : X) → i < length xs → x ≡ get_or xs i d → list_any p (map f (take i xs)) ≡ false → p (f x) ≡ true → position_from p 1 (map f xs) ≡ Some (i + 1)
first_place p f xs i x d within is none here =
    let before : length (map f (take i xs)) ≡ i = length-map (take i xs) f ∙ length-take-le i xs (omega arith) in
    ap (position_from p 1) (parts f xs i d within)
    ∙ place_at p 1 (map f (take i xs)) (f (get_or xs i d)) (map f (drop (suc i) xs)) none (ap (λ y. p (f y)) (sym is) ∙ here)
    ∙ ap Some (omega arith)

-- one more item that passes none
pub none_more_of : {X : Type 0} (p : List ℕ → Bool) (f : X → List ℕ) (xs : List X) (i : ℕ) (x : X) (d : X) → i < length xs → x ≡ get_or xs i d → list_any p (map f (take i xs)) ≡ false → p (f x) ≡ false → list_any p (map f (take (i + 1) xs)) ≡ false
none_more_of p f xs i x d within is none here =
    ap (list_any p) (map_more f xs i d within)
    ∙ none_more p (map f (take i xs)) (f (get_or xs i d)) none (ap (λ y. p (f y)) (sym is) ∙ here)

-- one more text behind the program's name
pub texts_more : {X : Type 0} (f : X → List ℕ) (xs : List X) (i : ℕ) (x : X) (before : List (Bor (List ℕ))) (text : Bor (List ℕ)) (name : List ℕ) (d : X) → i < length xs → x ≡ get_or xs i d → map (λ (word : Bor (List ℕ)). word.now) before ≡ name ∷ map f (take i xs) → text.now ≡ f x → map (λ (word : Bor (List ℕ)). word.now) (before ++ text ∷ []) ≡ name ∷ map f (take (i + 1) xs)
texts_more f xs i x before text name d within is prior same =
    map-append (λ (word : Bor (List ℕ)). word.now) before (text ∷ [])
    ∙ ap (λ texts. texts ++ text.now ∷ []) prior
    ∙ ap (λ t. name ∷ (map f (take i xs) ++ t ∷ [])) (same ∙ ap f is)
    ∙ ap (λ texts. name ∷ texts) (sym (map_more f xs i d within))
