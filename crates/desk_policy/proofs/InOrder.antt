-- Paths in byte order of their printed forms, without duplicates.
use Rattle.std.proofs.Common.{◌≡◌, ℕ, zero, suc, ◌-◌, ◌<◌, ◌||◌, Bool, true, false, cond, List, [], ◌∷◌, ◌++◌, length, get_or, map, take, Some, None, sym, ◌∙◌, ap, subst, refl, inl, inr, arith, nat_cmp, Bor}
use Rattle.std.specs.Prelude.{slice_get}
use Rattle.std.specs.List.{AllByRecursion}
use Rattle.std.specs.List.Sorted.{IsPermutation, IsSorted}
use Rattle.std.specs.Ordering.{is_eq, is_lt, on, ordering_reverse}
use Rattle.std.specs.declared.cmp.Ordering.{Ordering}
use Rattle.std.specs.declared.cmp.Ordering.TheVariants.{Less, Equal, Greater}
use Rattle.std.specs.Cmp.Lexicographic.{slice_cmp, on_texts, texts_ties}
use Rattle.std.specs.Cmp.{IsTotalOrder}
use Rattle.std.specs.Str.{bytes_eq}
use Rattle.std.proofs.lemmas.Bool.{cases_Bool, and_parts, and_from, or_cases, or_left, or_right, cond-true, cond-false, true≢false}
use Rattle.std.proofs.lemmas.List.Folds.{list_any-append}
use Rattle.std.proofs.lemmas.List.Sorted.{IsPermutation-map, list_any-IsPermutation, ranks_by, sorted_far}
use Rattle.std.proofs.lemmas.Slice.Eq.{bytes_eq-Decides}
use Rattle.desk_text.specs.Path.{are_printed_alike, path_text, same_path}
use Rattle.desk_tables.specs.FileSystems.{is_before}
use Rattle.desk_policy.specs.Listings.{in_order, put_path}
use Rattle.desk_policy.specs.PrivateListings.{IsOrderOf, PrintedAsLastIsLast, Rises, last_passes, with_next}
use Rattle.desk_policy.specs.Verdict.{is_directory_among}

abbrev Path : Type 0
Path = List (List ℕ)

abbrev pub order : Path → Path → Ordering
order = on path_text (slice_cmp nat_cmp)

total : IsTotalOrder order
total = on_texts path_text

-- the same path is an equal one
pub same_is : (a b : Path) → same_path a b ≡ true → a ≡ b
same_is [] [] e = refl
same_is [] (y ∷ b) e = absurd (cc)
same_is (x ∷ a) [] e = absurd (cc)
same_is (x ∷ a) (y ∷ b) e =
    let parts = and_parts (bytes_eq x y) (same_path a b) e in
    let first : x ≡ y = (bytes_eq-Decides x y).0 parts.0 in
    let rest : a ≡ b = same_is a b parts.1 in
    cc

pub same_itself : (a : Path) → same_path a a ≡ true
same_itself [] = refl
same_itself (x ∷ a) = and_from (bytes_eq x x) (same_path a a) ((bytes_eq-Decides x x).1 refl) (same_itself a)

less_is : (o : Ordering) → is_lt o ≡ true → o ≡ Less
less_is Less e = refl
less_is Equal e = absurd (cc)
less_is Greater e = absurd (cc)

before_trans : (a b c : Path) → is_before a b ≡ true → is_before b c ≡ true → is_before a c ≡ true
before_trans a b c e f = ap is_lt (total.trans a b c (less_is (order a b) e) (less_is (order b c) f))

not_both : (o p : Ordering) → o ≡ ordering_reverse p → is_lt o ≡ true → is_lt p ≡ true → ⊥
not_both o Less e f g = let greater : is_lt o ≡ false = ap is_lt e in absurd (cc)
not_both o Equal e f g = cc
not_both o Greater e f g = cc

before_once : (a b : Path) → is_before a b ≡ true → is_before b a ≡ true → ⊥
before_once a b e f = not_both (order a b) (order b a) (total.antisymm a b) e f

-- of two paths that are not printed alike, one comes before the other
between_by : (o p : Ordering) → o ≡ ordering_reverse p → is_lt p ≡ false → (p ≡ Equal → ⊥) → is_lt o ≡ true
between_by o Less e f g = absurd (cc)
between_by o Equal e f g = absurd (g refl)
between_by o Greater e f g = ap is_lt e

between : (a b : Path) → is_before b a ≡ false → are_printed_alike a b ≡ false → is_before a b ≡ true
between a b e apart =
    between_by (order a b) (order b a) (total.antisymm a b) e
    (λ tie. let tied : order a b ≡ Equal = total.antisymm a b ∙ ap ordering_reverse tie in
    true≢false (sym (texts_ties (path_text a) (path_text b) ∙ ap is_eq tied) ∙ apart))

all_snoc : (Q : Path → Type 0) (xs : List Path) (p : Path) → AllByRecursion Q xs → Q p → AllByRecursion Q (xs ++ p ∷ [])
all_snoc Q [] p h e = (e, tt)
all_snoc Q (x ∷ xs) p h e = (h.0, all_snoc Q xs p h.1 e)

all_last : (Q : Path → Type 0) (xs : List Path) (p : Path) → AllByRecursion Q (xs ++ p ∷ []) → Q p
all_last Q [] p h = h.0
all_last Q (x ∷ xs) p h = all_last Q xs p h.1

rises_push : (xs : List Path) (p : Path) → Rises xs → AllByRecursion (λ x. is_before p x ≡ false) xs → last_passes (λ l. are_printed_alike l p) xs ≡ false → Rises (xs ++ p ∷ [])
rises_push [] p h none apart = (tt, tt)
rises_push (x ∷ []) p h none apart = ((between x p none.0 apart, tt), (tt, tt))
rises_push (x ∷ y ∷ ys) p h none apart =
    let rest = rises_push (y ∷ ys) p h.1 none.1 apart in
    let later : is_before y p ≡ true = all_last (λ l. is_before y l ≡ true) ys p rest.0 in
    (all_snoc (λ l. is_before x l ≡ true) (y ∷ ys) p h.0 (before_trans x y p h.0.0 later), rest)

last_among : (xs : List Path) (p : Path) → last_passes (λ l. same_path l p) xs ≡ true → is_directory_among p xs ≡ true
last_among [] p e = absurd (cc)
last_among (x ∷ []) p e = or_left _ _ e
last_among (x ∷ y ∷ ys) p e = or_right _ _ (last_among (y ∷ ys) p e)

among_snoc : (d p : Path) (xs : List Path) → is_directory_among d (xs ++ p ∷ []) ≡ (is_directory_among d xs || (same_path p d || false))
among_snoc d p xs = list_any-append (λ dir. same_path dir d) xs (p ∷ [])

or_true : (b : Bool) → (b || true) ≡ true
or_true true = refl
or_true false = refl

or_none : (b : Bool) → (b || (false || false)) ≡ b
or_none true = refl
or_none false = refl

-- one more path that does not come before those so far
pub next_in_order : (done ordered : List Path) (p : Path) → IsOrderOf done ordered → AllByRecursion (λ x. is_before p x ≡ false) ordered → PrintedAsLastIsLast ordered p → IsOrderOf (done ++ p ∷ []) (with_next ordered p)
next_in_order done ordered p h none alike =
    elim (cases_Bool (last_passes (λ l. same_path l p) ordered)) [
      | inl last ↦ subst (IsOrderOf (done ++ p ∷ [])) (sym (cond-true _ ordered (ordered ++ p ∷ []) last)) (record {
        rises = h.rises;
        same = λ d. elim (cases_Bool (same_path p d)) [
          | inl is ↦
              let there : is_directory_among d ordered ≡ true = subst (λ x. is_directory_among x ordered ≡ true) (same_is p d is) (last_among ordered p last) in
              there ∙ sym (among_snoc d p done ∙ ap (λ b. is_directory_among d done || (b || false)) is ∙ or_true (is_directory_among d done))
          | inr apart ↦ h.same d ∙ sym (among_snoc d p done ∙ ap (λ b. is_directory_among d done || (b || false)) apart ∙ or_none (is_directory_among d done))
        ];
      })
      | inr new ↦ subst (IsOrderOf (done ++ p ∷ [])) (sym (cond-false _ ordered (ordered ++ p ∷ []) new)) (record {
        rises = rises_push ordered p h.rises none (alike ∙ new);
        same = λ d. among_snoc d p ordered ∙ ap (λ b. b || (same_path p d || false)) (h.same d) ∙ sym (among_snoc d p done);
      })
    ]

-- what holds of all paths that are among others holds of each
all_among : (Q : Path → Type 0) (xs : List Path) → ((d : Path) → is_directory_among d xs ≡ true → Q d) → AllByRecursion Q xs
all_among Q [] h = tt
all_among Q (x ∷ xs) h = (h x (or_left _ _ (same_itself x)), all_among Q xs (λ d e. h d (or_right _ _ e)))

among_all : (Q : Path → Type 0) (xs : List Path) (d : Path) → AllByRecursion Q xs → is_directory_among d xs ≡ true → Q d
among_all Q [] d h e = absurd (cc)
among_all Q (x ∷ xs) d h e = elim (or_cases (same_path x d) (is_directory_among d xs) e) [
  | inl is ↦ subst Q (same_is x d is) h.0
  | inr later ↦ among_all Q xs d h.1 later
]

abbrev now_all : List (Bor Path) → List Path
now_all xs = map (λ x. x.now) xs

not_before_taken : (p : Path) (d : Bor Path) (xs : List (Bor Path)) (i : ℕ) → ((k : ℕ) → k < i → is_before p (get_or xs k d).now ≡ false) → AllByRecursion (λ x. is_before p x ≡ false) (now_all (take i xs))
not_before_taken p d [] zero h = tt
not_before_taken p d [] (suc i) h = tt
not_before_taken p d (x ∷ xs) zero h = tt
not_before_taken p d (x ∷ xs) (suc i) h = (h 0 (omega arith), not_before_taken p d xs i (λ k l. h (suc k) (omega arith)))

-- a path does not come before those so far, where these are in order
pub none_before : (xs : List (Bor Path)) (i : ℕ) (p : Bor Path) (ordered : List Path) → IsSorted (λ x y. order x.now y.now) xs → i < length xs → p ≡ get_or xs i p
    → IsOrderOf (now_all (take i xs)) ordered → AllByRecursion (λ x. is_before p.now x ≡ false) ordered
none_before xs i p ordered sorted below is h =
    let far : (k : ℕ) → k < i → is_before p.now (get_or xs k p).now ≡ false =
    λ k l. ap (λ (q : Bor Path). is_before q.now (get_or xs k p).now) is ∙ sorted_far (λ (x y : Bor Path). is_lt (order x.now y.now)) (ranks_by total (λ (x : Bor Path). x.now)) xs sorted k i p (omega arith) below in
    let earlier = not_before_taken p.now p xs i far in
    all_among (λ x. is_before p.now x ≡ false) ordered (λ d e. among_all (λ x. is_before p.now x ≡ false) (now_all (take i xs)) d earlier (sym (h.same d) ∙ e))

-- sorting moves paths, and none is lost
pub order_of_sorted : (given sorted : List (Bor Path)) (ordered : List Path) → IsPermutation given sorted → IsOrderOf (now_all sorted) ordered → IsOrderOf (now_all given) ordered
order_of_sorted given sorted ordered moved h = record {
  rises = h.rises;
  same = λ d. h.same d ∙ sym (list_any-IsPermutation (λ dir. same_path dir d) (now_all given) (now_all sorted) (IsPermutation-map (λ (x : Bor Path). x.now) given sorted moved));
}

-- the last of paths, as the code has it
pub last_some : (test : Path → Bool) (xs : List Path) (last : Path) → slice_get xs (length xs - 1) ≡ Some last → last_passes test xs ≡ test last
last_some test [] last e = absurd (cc)
last_some test (x ∷ []) last e = let is : x ≡ last = cc in ap test is
last_some test (x ∷ y ∷ ys) last e =
    let back : length (x ∷ y ∷ ys) - 1 ≡ suc (length (y ∷ ys) - 1) = omega arith in
    last_some test (y ∷ ys) last (sym (ap (slice_get (x ∷ y ∷ ys)) back) ∙ e)

pub last_none : (test : Path → Bool) (xs : List Path) → slice_get xs (length xs - 1) ≡ None → last_passes test xs ≡ false
last_none test [] e = refl
last_none test (x ∷ []) e = absurd (cc)
last_none test (x ∷ y ∷ ys) e =
    let back : length (x ∷ y ∷ ys) - 1 ≡ suc (length (y ∷ ys) - 1) = omega arith in
    last_none test (y ∷ ys) (sym (ap (slice_get (x ∷ y ∷ ys)) back) ∙ e)

-- a rising list does not have what comes before all of it
lacks : (x : Path) (xs : List Path) → AllByRecursion (λ l. is_before x l ≡ true) xs → is_directory_among x xs ≡ false
lacks x xs h = elim (cases_Bool (is_directory_among x xs)) [
  | inl there ↦ let self = among_all (λ l. is_before x l ≡ true) xs x h there in absurd (before_once x x self self)
  | inr e ↦ e
]

own_first : (x : Path) (xs : List Path) → is_directory_among x (x ∷ xs) ≡ true
own_first x xs = or_left _ _ (same_itself x)

tails_same : (x : Path) (xs ys : List Path) → AllByRecursion (λ l. is_before x l ≡ true) xs → AllByRecursion (λ l. is_before x l ≡ true) ys → ((d : Path) → is_directory_among d (x ∷ xs) ≡ is_directory_among d (x ∷ ys)) → (d : Path) → is_directory_among d xs ≡ is_directory_among d ys
tails_same x xs ys up vp h d = elim (cases_Bool (same_path x d)) [
  | inl is ↦ subst (λ b. is_directory_among b xs ≡ is_directory_among b ys) (same_is x d is) (lacks x xs up ∙ sym (lacks x ys vp))
  | inr apart ↦ sym (ap (λ b. b || is_directory_among d xs) apart) ∙ h d ∙ ap (λ b. b || is_directory_among d ys) apart
]

-- two rising lists with the same paths are one
one_rising : (xs ys : List Path) → Rises xs → Rises ys → ((d : Path) → is_directory_among d xs ≡ is_directory_among d ys) → xs ≡ ys
one_rising [] [] r s h = refl
one_rising [] (y ∷ ys) r s h = absurd (true≢false (sym (own_first y ys) ∙ sym (h y)))
one_rising (x ∷ xs) [] r s h = absurd (true≢false (sym (own_first x xs) ∙ h x))
one_rising (x ∷ xs) (y ∷ ys) r s h =
    let first : x ≡ y = elim (or_cases (same_path y x) (is_directory_among x ys) (sym (h x) ∙ own_first x xs)) [
      | inl is ↦ sym (same_is y x is)
      | inr x_later ↦ elim (or_cases (same_path x y) (is_directory_among y xs) (h y ∙ own_first y ys)) [
        | inl is ↦ same_is x y is
        | inr y_later ↦ absurd (before_once x y (among_all (λ l. is_before x l ≡ true) xs y r.0 y_later) (among_all (λ l. is_before y l ≡ true) ys x s.0 x_later))
      ]
    ] in
    let s' : AllByRecursion (λ l. is_before x l ≡ true) ys = subst (λ z. AllByRecursion (λ l. is_before z l ≡ true) ys) (sym first) s.0 in
    let h' : (d : Path) → is_directory_among d (x ∷ xs) ≡ is_directory_among d (x ∷ ys) = subst (λ z. (d : Path) → is_directory_among d (x ∷ xs) ≡ is_directory_among d (z ∷ ys)) (sym first) h in
    ap (λ z. z ∷ xs) first ∙ ap (λ zs. y ∷ zs) (one_rising xs ys r.1 s.1 (tails_same x xs ys r.0 s' h'))

all_put : (Q : Path → Type 0) (p : Path) (ys : List Path) → Q p → AllByRecursion Q ys → AllByRecursion Q (put_path p ys)
all_put Q p [] e h = (e, tt)
all_put Q p (y ∷ ys) e h = elim (cases_Bool (is_before p y)) [
  | inl before ↦ subst (AllByRecursion Q) (sym (cond-true (is_before p y) (p ∷ y ∷ ys) (cond (same_path p y) (y ∷ ys) (y ∷ put_path p ys)) before)) (e, h)
  | inr after ↦ elim (cases_Bool (same_path p y)) [
    | inl same ↦ subst (AllByRecursion Q) (sym (cond-false (is_before p y) (p ∷ y ∷ ys) (cond (same_path p y) (y ∷ ys) (y ∷ put_path p ys)) after ∙ cond-true (same_path p y) (y ∷ ys) (y ∷ put_path p ys) same)) h
    | inr other ↦ subst (AllByRecursion Q) (sym (cond-false (is_before p y) (p ∷ y ∷ ys) (cond (same_path p y) (y ∷ ys) (y ∷ put_path p ys)) after ∙ cond-false (same_path p y) (y ∷ ys) (y ∷ put_path p ys) other)) (h.0, all_put Q p ys e h.1)
  ]
]

all_later : (p y : Path) (ys : List Path) → is_before p y ≡ true → AllByRecursion (λ l. is_before y l ≡ true) ys → AllByRecursion (λ l. is_before p l ≡ true) ys
all_later p y [] e h = tt
all_later p y (z ∷ ys) e h = (before_trans p y z e h.0, all_later p y ys e h.1)

-- paths of which neither comes before the other are one
abbrev AreOneUnlessBefore : Path → Path → Type 0
AreOneUnlessBefore a b = is_before a b ≡ false → is_before b a ≡ false → a ≡ b

put_rises : (p : Path) (ys : List Path) → Rises ys → ((b : Path) → is_directory_among b ys ≡ true → AreOneUnlessBefore p b) → Rises (put_path p ys)
put_rises p [] h one = (tt, tt)
put_rises p (y ∷ ys) h one = elim (cases_Bool (is_before p y)) [
  | inl before ↦ subst Rises (sym (cond-true (is_before p y) (p ∷ y ∷ ys) (cond (same_path p y) (y ∷ ys) (y ∷ put_path p ys)) before)) ((before, all_later p y ys before h.0), h)
  | inr after ↦ elim (cases_Bool (same_path p y)) [
    | inl same ↦ subst Rises (sym (cond-false (is_before p y) (p ∷ y ∷ ys) (cond (same_path p y) (y ∷ ys) (y ∷ put_path p ys)) after ∙ cond-true (same_path p y) (y ∷ ys) (y ∷ put_path p ys) same)) h
    | inr other ↦
        let first : is_before y p ≡ true = elim (cases_Bool (is_before y p)) [
          | inl e ↦ e
          | inr e ↦ absurd (true≢false (sym (same_itself p) ∙ ap (same_path p) (one y (own_first y ys) after e) ∙ other))
        ] in
        subst Rises (sym (cond-false (is_before p y) (p ∷ y ∷ ys) (cond (same_path p y) (y ∷ ys) (y ∷ put_path p ys)) after ∙ cond-false (same_path p y) (y ∷ ys) (y ∷ put_path p ys) other))
        (all_put (λ l. is_before y l ≡ true) p ys first h.0, put_rises p ys h.1 (λ b e. one b (or_right _ _ e)))
  ]
]

or_swap : (a b c : Bool) → (a || (b || c)) ≡ (b || (a || c))
or_swap true true c = refl
or_swap true false c = refl
or_swap false b c = refl

or_twice : (b c : Bool) → (b || c) ≡ (b || (b || c))
or_twice true c = refl
or_twice false c = refl

put_has : (d p : Path) (ys : List Path) → is_directory_among d (put_path p ys) ≡ is_directory_among d (p ∷ ys)
put_has d p [] = refl
put_has d p (y ∷ ys) = elim (cases_Bool (is_before p y)) [
  | inl before ↦ ap (is_directory_among d) (cond-true (is_before p y) (p ∷ y ∷ ys) (cond (same_path p y) (y ∷ ys) (y ∷ put_path p ys)) before)
  | inr after ↦ elim (cases_Bool (same_path p y)) [
    | inl same ↦
        ap (is_directory_among d) (cond-false (is_before p y) (p ∷ y ∷ ys) (cond (same_path p y) (y ∷ ys) (y ∷ put_path p ys)) after ∙ cond-true (same_path p y) (y ∷ ys) (y ∷ put_path p ys) same)
        ∙ or_twice (same_path y d) (is_directory_among d ys) ∙ ap (λ (z : Path). same_path z d || is_directory_among d (y ∷ ys)) (sym (same_is p y same))
    | inr other ↦
        ap (is_directory_among d) (cond-false (is_before p y) (p ∷ y ∷ ys) (cond (same_path p y) (y ∷ ys) (y ∷ put_path p ys)) after ∙ cond-false (same_path p y) (y ∷ ys) (y ∷ put_path p ys) other)
        ∙ ap (λ b. same_path y d || b) (put_has d p ys) ∙ or_swap (same_path y d) (same_path p d) (is_directory_among d ys)
  ]
]

pub in_order_has : (d : Path) (xs : List Path) → is_directory_among d (in_order xs) ≡ is_directory_among d xs
in_order_has d [] = refl
in_order_has d (x ∷ xs) = put_has d x (in_order xs) ∙ ap (λ b. same_path x d || b) (in_order_has d xs)

in_order_rises : (xs : List Path) → ((a b : Path) → is_directory_among a xs ≡ true → is_directory_among b xs ≡ true → AreOneUnlessBefore a b) → Rises (in_order xs)
in_order_rises [] one = tt
in_order_rises (x ∷ xs) one =
    put_rises x (in_order xs) (in_order_rises xs (λ a b e f. one a b (or_right _ _ e) (or_right _ _ f)))
    (λ b e. one x b (own_first x xs) (or_right _ _ (sym (in_order_has b xs) ∙ e)))

rises_apart : (ys : List Path) → Rises ys → (a b : Path) → is_directory_among a ys ≡ true → is_directory_among b ys ≡ true → AreOneUnlessBefore a b
rises_apart [] h a b e f = absurd (cc)
rises_apart (y ∷ ys) h a b e f = λ g k. elim (or_cases (same_path y a) (is_directory_among a ys) e) [
  | inl a_is ↦ elim (or_cases (same_path y b) (is_directory_among b ys) f) [
    | inl b_is ↦ sym (same_is y a a_is) ∙ same_is y b b_is
    | inr b_later ↦ absurd (true≢false (sym (subst (λ z. is_before z b ≡ true) (same_is y a a_is) (among_all (λ l. is_before y l ≡ true) ys b h.0 b_later)) ∙ g))
  ]
  | inr a_later ↦ elim (or_cases (same_path y b) (is_directory_among b ys) f) [
    | inl b_is ↦ absurd (true≢false (sym (subst (λ z. is_before z a ≡ true) (same_is y b b_is) (among_all (λ l. is_before y l ≡ true) ys a h.0 a_later)) ∙ k))
    | inr b_later ↦ rises_apart ys h.1 a b a_later b_later g k
  ]
]

-- the order of paths is that of others that are the same
pub order_is : (given listed ordered : List Path) → IsOrderOf given ordered → ((d : Path) → is_directory_among d given ≡ is_directory_among d listed) → ordered ≡ in_order listed
order_is given listed ordered h same =
    let all : (d : Path) → is_directory_among d ordered ≡ is_directory_among d listed = λ d. h.same d ∙ same d in
    one_rising ordered (in_order listed) h.rises (in_order_rises listed (λ a b e f. rises_apart ordered h.rises a b (all a ∙ e) (all b ∙ f)))
    (λ d. all d ∙ sym (in_order_has d listed))
