-- The first value of a list that passes a test.
use Rattle.std.proofs.Common.{◌≡◌, ℕ, zero, suc, ◌<◌, ◌≤◌, ◌&&◌, ◌||◌, Bool, true, false, cond, eqb, List, [], ◌∷◌, filter, map, take, length, get_or, Some, None, sym, ◌∙◌, ap, subst, refl, inl, inr, arith}
use Rattle.std.specs.Prelude.{find}
use Rattle.std.specs.List.{AllPairs, list_any}
use Rattle.std.proofs.lemmas.Bool.{cases_Bool, cond-true, cond-false, eqb-true, true≢false}
use Rattle.std.proofs.lemmas.List.Folds.{Any-from_list_any}
use Rattle.std.proofs.lemmas.List.{get_or-map, length-map}

-- it passes
pub found_passes : {X : Type 0} (test : X → Bool) (xs : List X) (x : X) → find test xs ≡ Some x → test x ≡ true
found_passes test [] x e = cc
found_passes test (y ∷ ys) x e =
    elim (cases_Bool (test y)) [
      | inl t ↦ (let s : Some y ≡ Some x = sym (cond-true (test y) (Some y) (find test ys) t) ∙ e in let same : y ≡ x = cc in subst (λ z. test z ≡ true) same t)
      | inr f ↦ found_passes test ys x (sym (cond-false (test y) (Some y) (find test ys) f) ∙ e)
    ]

-- where none passes, none is found
pub none_found : {X : Type 0} (test : X → Bool) (xs : List X) → ((k : ℕ) (d : X) → k < length xs → test (get_or xs k d) ≡ false) → find test xs ≡ None
none_found test [] fails = refl
none_found test (x ∷ xs) fails = cond-false (test x) (Some x) (find test xs) (fails 0 x (omega arith)) ∙ none_found test xs (λ k d l. fails (suc k) d (omega arith))

-- one that passes, with none before it
pub first_found : {X : Type 0} (test : X → Bool) (xs : List X) (place : ℕ) (x : X) → place < length xs → get_or xs place x ≡ x → test x ≡ true → ((k : ℕ) (d : X) → k < place → test (get_or xs k d) ≡ false) → find test xs ≡ Some x
first_found test [] place x l at t before = absurd (omega arith)
first_found test (y ∷ ys) zero x l at t before = cond-true (test y) (Some y) (find test ys) (subst (λ z. test z ≡ true) (sym at) t) ∙ ap (λ z. Some z) at
first_found test (y ∷ ys) (suc place) x l at t before =
    cond-false (test y) (Some y) (find test ys) (before 0 y (omega arith)) ∙ first_found test ys place x (omega arith) at t (λ k d less. before (suc k) d (omega arith))

-- one more that fails, and one that passes behind those that fail
module _ {X : Type 0} (test : X → Bool) where
  none_in : (x : X) (xs : List X) → find test (x ∷ xs) ≡ None → (test x ≡ false) × (find test xs ≡ None)
  none_in x xs e =
      elim (cases_Bool (test x)) [
        | inl t ↦ absurd (let f : Some x ≡ None = sym (cond-true (test x) (Some x) (find test xs) t) ∙ e in cc)
        | inr f ↦ (f, sym (cond-false (test x) (Some x) (find test xs) f) ∙ e)
      ]

  pub none_more : (xs : List X) (i : ℕ) (d : X) → i < length xs → find test (take i xs) ≡ None → test (get_or xs i d) ≡ false → find test (take (suc i) xs) ≡ None
  none_more [] i d l none f = absurd (omega arith)
  none_more (x ∷ xs) zero d l none f = cond-false (test x) (Some x) None f
  none_more (x ∷ xs) (suc i) d l none f =
      let s = none_in x (take i xs) none in
      cond-false (test x) (Some x) (find test (take (suc i) xs)) s.0 ∙ none_more xs i d (omega arith) s.1 f

  pub found_next : (xs : List X) (i : ℕ) (d : X) → i < length xs → find test (take i xs) ≡ None → test (get_or xs i d) ≡ true → find test xs ≡ Some (get_or xs i d)
  found_next [] i d l none t = absurd (omega arith)
  found_next (x ∷ xs) zero d l none t = cond-true (test x) (Some x) (find test xs) t
  found_next (x ∷ xs) (suc i) d l none t =
      let s = none_in x (take i xs) none in
      cond-false (test x) (Some x) (find test xs) s.0 ∙ found_next xs i d (omega arith) s.1 t

-- where it is
pub record IsFoundAt {X : Type 0} (test : X → Bool) (xs : List X) (x : X) : Type 0 where
  pub place : ℕ
  pub within : place < length xs
  pub is : get_or xs place x ≡ x
  pub before : (k : ℕ) (d : X) → k < place → test (get_or xs k d) ≡ false

pub found_where : {X : Type 0} (test : X → Bool) (xs : List X) (x : X) → find test xs ≡ Some x → IsFoundAt test xs x
found_where test [] x e = cc
found_where test (y ∷ ys) x e =
    elim (cases_Bool (test y)) [
      | inl t ↦ record {
        place = 0;
        within = omega arith;
        is = (let s : Some y ≡ Some x = sym (cond-true (test y) (Some y) (find test ys) t) ∙ e in let same : y ≡ x = cc in same);
        before = λ k d less. absurd (omega arith);
      }
      | inr f ↦
          let rest = found_where test ys x (sym (cond-false (test y) (Some y) (find test ys) f) ∙ e) in
          record {
            place = suc rest.place;
            within = (let w = rest.within in omega arith);
            is = rest.is;
            before = before_next f rest.place rest.before;
          }
    ]
  where
    before_next : test y ≡ false → (place : ℕ) → ((k : ℕ) (d : _) → k < place → test (get_or ys k d) ≡ false) → (k : ℕ) (d : _) → k < suc place → test (get_or (y ∷ ys) k d) ≡ false
    before_next f place before zero d less = f
    before_next f place before (suc k) d less = before k d (omega arith)

-- the first among those that pass another test
pub find_in_filter : {X : Type 0} (p q : X → Bool) (xs : List X) → find p (filter q xs) ≡ find (λ x. q x && p x) xs
find_in_filter p q [] = refl
find_in_filter p q (x ∷ xs) =
    elim (cases_Bool (q x)) [
      | inl t ↦
          ap (find p) (cond-true (q x) (x ∷ filter q xs) (filter q xs) t) ∙ ap (cond (p x) (Some x)) (find_in_filter p q xs)
          ∙ sym (ap (λ b. cond (b && p x) (Some x) (find (λ y. q y && p y) xs)) t)
      | inr f ↦
          ap (find p) (cond-false (q x) (x ∷ filter q xs) (filter q xs) f) ∙ find_in_filter p q xs
          ∙ sym (ap (λ b. cond (b && p x) (Some x) (find (λ y. q y && p y) xs)) f)
    ]

pub same_search : {X : Type 0} (p q : X → Bool) → ((x : X) → p x ≡ q x) → (xs : List X) → find p xs ≡ find q xs
same_search p q same [] = refl
same_search p q same (x ∷ xs) = ap (λ b. cond b (Some x) (find p xs)) (same x) ∙ ap (cond (q x) (Some x)) (same_search p q same xs)

-- ---- ascending numbers

-- values whose numbers ascend
pub ascend_by : {X : Type 0} (f : X → ℕ) (xs : List X) → AllPairs (λ one later. f one < f later) xs → AllPairs (λ one later. one < later) (map f xs)
ascend_by f [] up i j d lt l = absurd (omega arith)
ascend_by f (x ∷ xs) up i j d lt l =
    let count = length-map (x ∷ xs) f in
    let a = get_or-map f (x ∷ xs) i x d (omega arith) in
    let b = get_or-map f (x ∷ xs) j x d (omega arith) in
    let h = up i j x lt (omega arith) in
    omega arith

-- a number and a test that it passes: one that is not greater is found
pub record FindsUpTo (test : ℕ → Bool) (xs : List ℕ) (n : ℕ) : Type 0 where
  pub number : ℕ
  pub found : find test xs ≡ Some number
  pub least : number ≤ n

pub finds_up_to : (test : ℕ → Bool) (xs : List ℕ) → AllPairs (λ one later. one < later) xs → (n : ℕ) → list_any (λ m. eqb m n) xs ≡ true → test n ≡ true → FindsUpTo test xs n
finds_up_to test [] up n among t = absurd (true≢false (sym among))
finds_up_to test (x ∷ xs) up n among t =
    elim (cases_Bool (test x)) [
      | inl passes ↦ record {
        number = x;
        found = cond-true (test x) (Some x) (find test xs) passes;
        least = elim (cases_Bool (eqb x n)) [
          | inl same ↦ (let e = eqb-true x n same in omega arith)
          | inr other ↦
              let any = Any-from_list_any (λ m. eqb m n) xs (sym (ap (λ b. b || list_any (λ m. eqb m n) xs) other) ∙ among) in
              let h = up 0 (suc any.0) any.1 (omega arith) (let w = any.2 in omega arith) in
              let at = any.3 in
              let e = eqb-true any.1 n any.4 in
              omega arith
        ];
      }
      | inr fails ↦
          let other : eqb x n ≡ false = elim (cases_Bool (eqb x n)) [
            | inl same ↦ absurd (true≢false (sym (subst (λ m. test m ≡ true) (sym (eqb-true x n same)) t) ∙ fails))
            | inr f ↦ f
          ] in
          let rest = finds_up_to test xs (λ i j d lt l. up (suc i) (suc j) d (omega arith) (omega arith)) n (sym (ap (λ b. b || list_any (λ m. eqb m n) xs) other) ∙ among) t in
          record { number = rest.number; found = cond-false (test x) (Some x) (find test xs) fails ∙ rest.found; least = rest.least }
    ]
