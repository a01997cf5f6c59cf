-- A list in a strict order is told by what it has, and a list by the keys of its values, if each key has one value.
use Rattle.std.proofs.Common.{◌≡◌, ℕ, suc, ◌∙◌, true, List, [], ◌∷◌, ap, arith, drop, get_or, inl, inr, length, map, nat_cmp, refl, subst, sym, true≢false}
use Rattle.std.specs.Prelude.{All, Contains}
use Rattle.std.specs.Cmp.Lexicographic.{on_texts, slice_cmp}
use Rattle.std.specs.List.{AllPairs}
use Rattle.std.specs.Ordering.{is_lt, ordering_reverse}
use Rattle.std.specs.declared.cmp.Ordering.{Ordering}
use Rattle.std.specs.declared.cmp.Ordering.TheVariants.{Less, Equal, Greater}
use Rattle.std.proofs.lemmas.List.Elements.{All-contains, All-head, All-tail, filter_agree}
use Rattle.desk_text.specs.Path.{path_text}
use Rattle.desk_tables.specs.FileSystems.{is_before}
use Rattle.desk_impact.specs.Impact.{AreThoseThat}
use Rattle.desk_impact.specs.Places.{AreInOrder}
use Rattle.page_data.proofs.Containing.{here, here_or_there, there}
use Rattle.page_data.proofs.Keyed.{same_test}

-- ---- lists in an order in which of two values only one comes before the other
module _ {X : Type 0} (Before : X → X → Type 0) (not_both : (x y : X) → Before x y → Before y x → ⊥) where
  not_itself : (x y : X) → Before x y → x ≡ y → ⊥
  not_itself x y before same = (let itself : Before x x = subst (Before x) (sym same) before in not_both x x itself itself)

  -- the first comes before each of the others, which are in order
  first_before : (x : X) (xs : List X) (y : X) → AllPairs Before (x ∷ xs) → Contains xs y → Before x y
  first_before x xs y order has = (let lt = has.1 in subst (Before x) has.2 (order 0 (suc has.0) y (omega arith) (omega arith)))

  rest_in_order : (x : X) (xs : List X) → AllPairs Before (x ∷ xs) → AllPairs Before xs
  rest_in_order x xs order = λ i j d less within. order (suc i) (suc j) d (omega arith) (omega arith)

  -- each of one list is one of the other
  abbrev AreAmong : List X → List X → Type 0
  AreAmong xs ys = (z : X) → Contains xs z → Contains ys z

  rest_among : (x : X) (xs ys : List X) → AllPairs Before (x ∷ xs) → AreAmong (x ∷ xs) (x ∷ ys) → AreAmong xs ys
  rest_among x xs ys order among z has =
      elim (here_or_there x z ys (among z (there x z xs has))) as (λ _. Contains ys z) [
        | inl same ↦ absurd (not_itself x z (first_before x xs z order has) same)
        | inr later ↦ later
      ]

  first_same : (x : X) (xs : List X) (y : X) (ys : List X) → AllPairs Before (x ∷ xs) → AllPairs Before (y ∷ ys) → AreAmong (x ∷ xs) (y ∷ ys) → AreAmong (y ∷ ys) (x ∷ xs) → x ≡ y
  first_same x xs y ys order order' among among' =
      elim (here_or_there y x ys (among x (here x x xs refl))) as (λ _. x ≡ y) [
        | inl same ↦ sym same
        | inr later ↦
            elim (here_or_there x y xs (among' y (here y y ys refl))) as (λ _. x ≡ y) [
              | inl same ↦ same
              | inr later' ↦ absurd (not_both x y (first_before x xs y order later') (first_before y ys x order' later))
            ]
      ]

  pub one_order : (xs ys : List X) → AllPairs Before xs → AllPairs Before ys → AreAmong xs ys → AreAmong ys xs → xs ≡ ys
  one_order [] [] order order' among among' = refl
  one_order [] (y ∷ ys) order order' among among' = absurd (let lt = (among' y (here y y ys refl)).1 in omega arith)
  one_order (x ∷ xs) [] order order' among among' = absurd (let lt = (among x (here x x xs refl)).1 in omega arith)
  one_order (x ∷ xs) (y ∷ ys) order order' among among' =
      let same = first_same x xs y ys order order' among among' in
      let own = subst (λ (z : X). AreAmong (x ∷ xs) (z ∷ ys)) (sym same) among in
      let its = subst (λ (z : X). AreAmong (z ∷ ys) (x ∷ xs)) (sym same) among' in
      let order'' = subst (λ (z : X). AllPairs Before (z ∷ ys)) (sym same) order' in
      ap (λ z. z ∷ xs) same
      ∙ ap (λ zs. y ∷ zs) (one_order xs ys (rest_in_order x xs order) (rest_in_order x ys order'') (rest_among x xs ys order own) (rest_among x ys xs order'' its))

-- ---- paths in byte order
abbrev Path : Type 0
Path = List (List ℕ)

abbrev Precedes : Path → Path → Type 0
Precedes path later = is_before path later ≡ true

one_less : (r back : Ordering) → r ≡ ordering_reverse back → is_lt r ≡ true → is_lt back ≡ true → ⊥
one_less r Less e less less' = true≢false (sym less ∙ ap is_lt e)
one_less r Equal e less less' = true≢false (sym less')
one_less r Greater e less less' = true≢false (sym less')

one_before : (path other : Path) → Precedes path other → Precedes other path → ⊥
one_before path other =
    one_less (slice_cmp nat_cmp (path_text path) (path_text other)) (slice_cmp nat_cmp (path_text other) (path_text path)) ((on_texts path_text).antisymm path other)

pub one_in_order : (given ordered others : List Path) → AreInOrder given ordered → AreInOrder given others → ordered ≡ others
one_in_order given ordered others are its =
    one_order Precedes one_before ordered others are.ascend its.ascend
    (λ path has. All-contains (Contains others) given path its.all (All-contains (Contains given) ordered path are.only has))
    (λ path has. All-contains (Contains ordered) given path are.all (All-contains (Contains given) others path its.only has))

-- ---- lists of values that have their keys
module _ {X K : Type 0} (key : X → K) (Is : X → Type 0) where
  pub each_one : ((x y : X) → key x ≡ key y → Is x → Is y → x ≡ y) → (xs ys : List X) → map key xs ≡ map key ys → All Is xs → All Is ys → xs ≡ ys
  each_one one [] [] same are its = refl
  each_one one [] (y ∷ ys) same are its = absurd (let long = ap length same in omega arith)
  each_one one (x ∷ xs) [] same are its = absurd (let long = ap length same in omega arith)
  each_one one (x ∷ xs) (y ∷ ys) same are its =
      let first = one x y (ap (λ (keys : List K). get_or keys 0 (key x)) same) (All-head Is x xs are) (All-head Is y ys its) in
      let rest = each_one one xs ys (ap (λ (keys : List K). drop 1 keys) same) (All-tail Is x xs are) (All-tail Is y ys its) in
      ap (λ z. z ∷ xs) first ∙ ap (λ zs. y ∷ zs) rest

  pub each_by_value : {V : Type 0} (value : X → V) → ((x y : X) → key x ≡ key y → Is x → Is y → value x ≡ value y) → (xs ys : List X) → map key xs ≡ map key ys → All Is xs → All Is ys
      → map value xs ≡ map value ys
  each_by_value value one [] [] same are its = refl
  each_by_value value one [] (y ∷ ys) same are its = absurd (let long = ap length same in omega arith)
  each_by_value value one (x ∷ xs) [] same are its = absurd (let long = ap length same in omega arith)
  each_by_value value one (x ∷ xs) (y ∷ ys) same are its =
      let first = one x y (ap (λ (keys : List K). get_or keys 0 (key x)) same) (All-head Is x xs are) (All-head Is y ys its) in
      let rest = each_by_value value one xs ys (ap (λ (keys : List K). drop 1 keys) same) (All-tail Is x xs are) (All-tail Is y ys its) in
      ap (λ v. v ∷ map value xs) first ∙ ap (λ vs. value y ∷ vs) rest

-- ---- those of some values of which something holds
pub those_are_one : {X : Type 0} (P : X → Type 0) (values chosen others : List X) → AreThoseThat P values chosen → AreThoseThat P values others → chosen ≡ others
those_are_one P values chosen others are its =
    are.are ∙ filter_agree are.test its.test (λ x. same_test (are.test x) (its.test x) (are.decides x) (its.decides x)) values ∙ sym its.are
