-- Lists of files with one more, for `listing`.
use Rattle.std.proofs.Common.{◌≡◌, ◌∙◌, ℕ, ◌+◌, ◌<◌, ◌++◌, List, [], ◌∷◌, Option, Some, None, ap, get_or, length, map, refl, sym, take}
use Rattle.std.specs.List.{cons_option}
use Rattle.std.proofs.lemmas.List.{append-nil, append_assoc, map-append, take_more}
use Rattle.desk_core.specs.Listing.{HeldFile}
use Rattle.desk_core.specs.PrivateListing.{with_file}

abbrev Files : Type 0
Files = List HeldFile

one_more : (o : Option HeldFile) (rest now before all : Files) → now ≡ with_file before o → all ≡ now ++ rest → all ≡ before ++ cons_option o rest
one_more None rest now before all added is = is ∙ ap (λ x. x ++ rest) added
one_more (Some file) rest now before all added is = is ∙ ap (λ x. x ++ rest) added ∙ append_assoc before (file ∷ []) rest

-- seven files more, of those that are there
pub seven_added : (start : Files) (a b c d e f g : Option HeldFile) (t1 t2 t3 t4 t5 t6 t7 : Files)
    → t1 ≡ with_file start a → t2 ≡ with_file t1 b → t3 ≡ with_file t2 c → t4 ≡ with_file t3 d → t5 ≡ with_file t4 e → t6 ≡ with_file t5 f → t7 ≡ with_file t6 g
    → t7 ≡ start ++ cons_option a (cons_option b (cons_option c (cons_option d (cons_option e (cons_option f (cons_option g []))))))
seven_added start a b c d e f g t1 t2 t3 t4 t5 t6 t7 p q r s t u v =
    one_more a _ t1 start t7 p (one_more b _ t2 t1 t7 q (one_more c _ t3 t2 t7 r (one_more d _ t4 t3 t7 s (one_more e _ t5 t4 t7 t (one_more f _ t6 t5 t7 u (one_more g [] t7 t6 t7 v (sym (append-nil t7))))))))

-- one file more, of the next element of a list
pub maps_next : {X : Type 0} (file_at : X → HeldFile) (xs : List X) (i : ℕ) (x d : X) → i < length xs → x ≡ get_or xs i d → (start now next : Files)
    → now ≡ start ++ map file_at (take i xs) → next ≡ now ++ file_at x ∷ [] → next ≡ start ++ map file_at (take (i + 1) xs)
maps_next file_at xs i x d below is start now next before added =
    added ∙ ap (λ t. t ++ file_at x ∷ []) before ∙ append_assoc start (map file_at (take i xs)) (file_at x ∷ [])
    ∙ ap (λ t. start ++ t) (sym (ap (map file_at) (take_more xs i d below ∙ ap (λ y. take i xs ++ y ∷ []) (sym is)) ∙ map-append file_at (take i xs) (x ∷ [])))

-- what is made of what is made of the elements
pub map_twice : {X Y : Type 0} (f : Y → HeldFile) (g : X → Y) (xs : List X) → map (λ x. f (g x)) xs ≡ map f (map g xs)
map_twice f g [] = refl
map_twice f g (x ∷ xs) = ap (λ rest. f (g x) ∷ rest) (map_twice f g xs)
