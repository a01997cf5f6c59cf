-- Values in groups of those that are alike: each is in one group, and a group grows by one more value.
use Rattle.std.proofs.Common.{◌≡◌, suc, ◌<◌, ◌++◌, ◌∙◌, Bool, true, false, cond, List, [], ◌∷◌, Some, ap, arith, get_or, inl, inr, length, refl, subst, sym}
use Rattle.std.specs.Prelude.{◌↔◌, Contains, filter, not, slice_get}
use Rattle.std.proofs.lemmas.Bool.{cases_Bool, not-true, not_from_false, true≢false}
use Rattle.std.proofs.lemmas.List.{append-nil, get_or_default}
use Rattle.std.proofs.lemmas.List.Elements.{filter-append}
use Rattle.desk_policy.specs.Policy.{Content}
use Rattle.desk_impact.specs.Places.{Place}
use Rattle.page_data.specs.Groups.{AreGrouped, AreGroups}
use Rattle.page_data.specs.Laws.{GroupsAreOfAlike, IsGroupedOnce}
use Rattle.page_data.proofs.Containing.{here, here_or_there, there}

-- ---- what a filter keeps
module _ {X : Type 0} (test : X → Bool) where
  pub kept_in : (xs : List X) (x : X) → Contains (filter test xs) x → Contains xs x × (test x ≡ true)
  kept_in [] x has = absurd (let lt = has.1 in omega arith)
  kept_in (first ∷ xs) x has =
      elim (cases_Bool (test first)) as (λ _. Contains (first ∷ xs) x × (test x ≡ true)) [
        | inl kept ↦ elim (here_or_there first x (filter test xs) (subst (λ ys. Contains ys x) (ap (λ b. cond b (first ∷ filter test xs) (filter test xs)) kept) has)) as (λ _. Contains (first ∷ xs) x × (test x ≡ true)) [
          | inl is ↦ (here first x xs is, ap test (sym is) ∙ kept)
          | inr later ↦ (let rest = kept_in xs x later in (there first x xs rest.0, rest.1))
        ]
        | inr left ↦
            let rest = kept_in xs x (subst (λ ys. Contains ys x) (ap (λ b. cond b (first ∷ filter test xs) (filter test xs)) left) has) in
            (there first x xs rest.0, rest.1)
      ]

  kept_first : (first x : X) (xs : List X) → first ≡ x → test x ≡ true → Contains (filter test (first ∷ xs)) x
  kept_first first x xs is passes =
      subst (λ ys. Contains ys x) (sym (ap (λ b. cond b (first ∷ filter test xs) (filter test xs)) (ap test is ∙ passes))) (here first x (filter test xs) is)

  kept_later : (first x : X) (xs : List X) → Contains (filter test xs) x → Contains (filter test (first ∷ xs)) x
  kept_later first x xs rest =
      elim (cases_Bool (test first)) as (λ _. Contains (filter test (first ∷ xs)) x) [
        | inl kept ↦ subst (λ ys. Contains ys x) (sym (ap (λ b. cond b (first ∷ filter test xs) (filter test xs)) kept)) (there first x (filter test xs) rest)
        | inr left ↦ subst (λ ys. Contains ys x) (sym (ap (λ b. cond b (first ∷ filter test xs) (filter test xs)) left)) rest
      ]

  pub in_kept : (xs : List X) (x : X) → Contains xs x → test x ≡ true → Contains (filter test xs) x
  in_kept [] x has passes = absurd (let lt = has.1 in omega arith)
  in_kept (first ∷ xs) x has passes =
      elim (here_or_there first x xs has) as (λ _. Contains (filter test (first ∷ xs)) x) [
        | inl is ↦ kept_first first x xs is passes
        | inr later ↦ kept_later first x xs (in_kept xs x later passes)
      ]

-- a value is in just one of the groups, and with it just those that are alike
pub record OneGroup {A : Type 0} (alike : A → A → Bool) (values : List A) (groups : List (List A)) (value : A) : Type 0 where
  pub group : List A
  pub listed : Contains groups group
  pub has : Contains group value
  pub only : (other : List A) → Contains groups other → Contains other value → other ≡ group
  pub same : (other : A) → Contains group other ↔ (Contains values other × (alike value other ≡ true))

module _ {A : Type 0} (alike : A → A → Bool) (itself : (x : A) → alike x x ≡ true) (back : (x y : A) → alike x y ≡ true → alike y x ≡ true)
    (along : (x y z : A) → alike x y ≡ true → alike y z ≡ true → alike x z ≡ true) where
  abbrev not_alike : A → A → Bool
  not_alike first value = not (alike first value)

  -- what is in a group is one of the values
  pub in_group : (values : List A) (groups : List (List A)) → AreGrouped alike values groups → (group : List A) → Contains groups group → (x : A) → Contains group x → Contains values x
  in_group values [] are group listed x has = absurd (let lt = listed.1 in omega arith)
  in_group values ([] ∷ groups) are group listed x has = absurd are
  in_group values ((first ∷ others) ∷ groups) are group listed x has =
      elim (here_or_there (first ∷ others) group groups listed) as (λ _. Contains values x) [
        | inl is ↦ (kept_in (alike first) values x (subst (λ ys. Contains ys x) (sym is ∙ are.1) has)).0
        | inr later ↦ (kept_in (not_alike first) values x (in_group (filter (not_alike first) values) groups are.2 group later x has)).0
      ]

  pub one_group : (values : List A) (groups : List (List A)) → AreGrouped alike values groups → (x : A) → Contains values x → OneGroup alike values groups x
  one_group values [] are x has = absurd (let lt = subst (λ ys. has.0 < length ys) are has.1 in omega arith)
  one_group values ([] ∷ groups) are x has = absurd are
  one_group values ((first ∷ others) ∷ groups) are x has =
      elim (cases_Bool (alike first x)) as (λ _. OneGroup alike values ((first ∷ others) ∷ groups) x) [
        | inl is ↦ own is
        | inr apart ↦ later apart (one_group (filter (not_alike first) values) groups are.2 x (in_kept (not_alike first) values x has (not_from_false (alike first x) apart)))
      ]
    where
      own : alike first x ≡ true → OneGroup alike values ((first ∷ others) ∷ groups) x
      own is = record {
        group = first ∷ others;
        listed = (0, omega arith, refl);
        has = subst (λ ys. Contains ys x) (sym are.1) (in_kept (alike first) values x has is);
        only = λ other listed has_other. elim (here_or_there (first ∷ others) other groups listed) as (λ _. other ≡ first ∷ others) [
          | inl same ↦ sym same
          | inr rest ↦
              let out = kept_in (not_alike first) values x (in_group (filter (not_alike first) values) groups are.2 other rest x has_other) in
              absurd (true≢false (sym is ∙ not-true (alike first x) out.1))
        ];
        same = λ other. (
          λ has_other. (let kept = kept_in (alike first) values other (subst (λ ys. Contains ys other) are.1 has_other) in (kept.0, along x first other (back first x is) kept.1)),
          λ both. subst (λ ys. Contains ys other) (sym are.1) (in_kept (alike first) values other both.0 (along first x other is both.1)),
        );
      }

      later : alike first x ≡ false → OneGroup alike (filter (not_alike first) values) groups x → OneGroup alike values ((first ∷ others) ∷ groups) x
      later apart one = record {
        group = one.group;
        listed = (let lt = one.listed.1 in (suc one.listed.0, omega arith, one.listed.2));
        has = one.has;
        only = λ other listed has_other. elim (here_or_there (first ∷ others) other groups listed) as (λ _. other ≡ one.group) [
          | inl same ↦
              let kept = kept_in (alike first) values x (subst (λ ys. Contains ys x) (sym same ∙ are.1) has_other) in
              absurd (true≢false (sym kept.1 ∙ apart))
          | inr rest ↦ one.only other rest has_other
        ];
        same = λ other. (
          λ has_other. (let both = (one.same other).0 has_other in ((kept_in (not_alike first) values other both.0).0, both.1)),
          λ both.
              let out : alike first other ≡ false =
              elim (cases_Bool (alike first other)) as (λ _. alike first other ≡ false) [
                | inl is ↦ absurd (true≢false (sym (along first other x is (back x other both.1)) ∙ apart))
                | inr out' ↦ out'
              ] in
              (one.same other).1 (in_kept (not_alike first) values other both.0 (not_from_false (alike first other) out), both.1),
        );
      }

  -- ---- one more value
  abbrev pub added : A → List (List A) → List (List A)
  added x [] = (x ∷ []) ∷ []
  added x ([] ∷ groups) = [] ∷ added x groups
  added x ((first ∷ others) ∷ groups) = cond (alike first x) ((first ∷ others ++ x ∷ []) ∷ groups) ((first ∷ others) ∷ added x groups)

  first_stays : (values : List A) (first x : A) → slice_get values 0 ≡ Some first → slice_get (values ++ x ∷ []) 0 ≡ Some first
  first_stays [] first x is = absurd (cc)
  first_stays (value ∷ values) first x is = is

  filter_more : (test : A → Bool) (values : List A) (x : A) → test x ≡ true → filter test (values ++ x ∷ []) ≡ filter test values ++ x ∷ []
  filter_more test values x passes = filter-append test values (x ∷ []) ∙ ap (λ b. filter test values ++ cond b (x ∷ []) []) passes

  filter_stays : (test : A → Bool) (values : List A) (x : A) → test x ≡ false → filter test (values ++ x ∷ []) ≡ filter test values
  filter_stays test values x fails = filter-append test values (x ∷ []) ∙ ap (λ b. filter test values ++ cond b (x ∷ []) []) fails ∙ append-nil (filter test values)

  pub grouped_more : (values : List A) (groups : List (List A)) (x : A) → AreGrouped alike values groups → AreGrouped alike (values ++ x ∷ []) (added x groups)
  grouped_more values [] x are =
      subst (λ vs. AreGrouped alike (vs ++ x ∷ []) ((x ∷ []) ∷ [])) (sym are)
      (refl, sym (ap (λ b. cond b (x ∷ []) []) (itself x)), ap (λ b. cond (not b) (x ∷ []) []) (itself x))
  grouped_more values ([] ∷ groups) x are = absurd are
  grouped_more values ((first ∷ others) ∷ groups) x are =
      elim (cases_Bool (alike first x)) as (λ _. AreGrouped alike (values ++ x ∷ []) (added x ((first ∷ others) ∷ groups))) [
        | inl is ↦
            subst (AreGrouped alike (values ++ x ∷ [])) (sym (ap (λ b. cond b ((first ∷ others ++ x ∷ []) ∷ groups) ((first ∷ others) ∷ added x groups)) is)) (
              first_stays values first x are.0,
              ap (λ ys. ys ++ x ∷ []) are.1 ∙ sym (filter_more (alike first) values x is),
              subst (λ vs. AreGrouped alike vs groups) (sym (filter_stays (not_alike first) values x (ap not is))) are.2,
            )
        | inr apart ↦
            subst (AreGrouped alike (values ++ x ∷ [])) (sym (ap (λ b. cond b ((first ∷ others ++ x ∷ []) ∷ groups) ((first ∷ others) ∷ added x groups)) apart)) (
              first_stays values first x are.0,
              are.1 ∙ sym (filter_stays (alike first) values x apart),
              subst (λ vs. AreGrouped alike vs (added x groups)) (sym (filter_more (not_alike first) values x (ap not apart))) (grouped_more (filter (not_alike first) values) groups x are.2),
            )
      ]

-- ---- places that are granted alike
module _ (content : Content) (places : List Place) (groups : List (List Place)) (are : AreGroups content places groups) where
  itself : (place : Place) → are.alike place place ≡ true
  itself place = (are.decides place place).1 (λ address fits. refl)

  back : (place other : Place) → are.alike place other ≡ true → are.alike other place ≡ true
  back place other is = (are.decides other place).1 (λ address fits. sym ((are.decides place other).0 is address fits))

  along : (place other third : Place) → are.alike place other ≡ true → are.alike other third ≡ true → are.alike place third ≡ true
  along place other third is is' = (are.decides place third).1 (λ address fits. (are.decides other third).0 is' address fits ∙ (are.decides place other).0 is address fits)

  pub grouped_once : (place : Place) → Contains places place → IsGroupedOnce content places groups place
  grouped_once place has =
      let one = one_group are.alike itself back along places groups are.are place has in
      record {
        group = one.group;
        listed = one.listed;
        has = one.has;
        only = one.only;
        alike = λ other. (
          λ has_other. (let both = (one.same other).0 has_other in (both.0, (are.decides place other).0 both.1)),
          λ both. (one.same other).1 (both.0, (are.decides place other).1 both.1),
        );
      }

pub groups_are_of_alike : GroupsAreOfAlike
groups_are_of_alike content places groups are k d within =
    grouped_once content places groups are (get_or places k d) (k, within, get_or_default places k (get_or places k d) d within)
