-- The line that grants by mountd's rule, group by group of lighter lines.
use Rattle.std.proofs.Common.{◌≡◌, ◌∙◌, ℕ, suc, ◌<◌, ◌≤◌, ◌&&◌, Bool, true, false, cond, eqb, List, [], ◌∷◌, Option, Some, None, ap, arith, inl, inr, refl, subst, sym}
use Rattle.std.specs.Prelude.{filter, find, nat_lt, slice_get}
use Rattle.std.specs.List.{All, Contains, list_all, list_any}
use Rattle.std.proofs.lemmas.Bool.{and_from, cases_Bool, cases_lt, cond-true, cond-false, eq-eqb, eqb-true, le-leb, lt-ltb}
use Rattle.std.proofs.lemmas.List.Elements.{All-contains}
use Rattle.std.proofs.lemmas.List.Folds.{list_any_at}
use Rattle.desk_policy.specs.Keys.{HasBlock}
use Rattle.desk_policy.specs.Weights.{is_at_most, weight_of}
use Rattle.desk_policy.specs.declared.row.Row.{Row}
use Rattle.desk_index.specs.Lighter.{AreHeaviestBelow, IsHeaviestBelow, is_weight, weighing}
use Rattle.desk_index.specs.declared.lighter.Weighed.{Weighed}
use Rattle.desk_idle.proofs.Heaviest.{few_by, filter_from, filter_has, none_has, some_numbered, weight_is}
use Rattle.desk_idle.proofs.Looks.{none_passes}
use Rattle.desk_idle.proofs.Removal.{selected-some, weighs}
use Rattle.desk_server.specs.Server.{asked, for_everybody, granting, is_everybody, is_named, named, or_others}
use Rattle.desk_server.proofs.Lighter.{found_has}
use Rattle.desk_server.proofs.Widening.{everybody_weight, named_weight, or_either, selected_from}

-- ---- lists

first_kept : (p : Row → Bool) (xs : List Row) → slice_get (filter p xs) 0 ≡ find p xs
first_kept p [] = refl
first_kept p (x ∷ xs) =
    elim (cases_Bool (p x)) [
      | inl passes ↦ ap (λ b. slice_get (cond b (x ∷ filter p xs) (filter p xs)) 0) passes ∙ sym (cond-true (p x) (Some x) (find p xs) passes)
      | inr fails ↦ ap (λ b. slice_get (cond b (x ∷ filter p xs) (filter p xs)) 0) fails ∙ first_kept p xs ∙ sym (cond-false (p x) (Some x) (find p xs) fails)
    ]

find_kept : (p q : Row → Bool) (xs : List Row) → find p (filter q xs) ≡ find (λ x. q x && p x) xs
find_kept p q [] = refl
find_kept p q (x ∷ xs) =
    elim (cases_Bool (q x)) [
      | inl passes ↦
          ap (λ b. find p (cond b (x ∷ filter q xs) (filter q xs))) passes ∙ ap (λ o. cond (p x) (Some x) o) (find_kept p q xs)
          ∙ sym (ap (λ b. cond (b && p x) (Some x) (find (λ y. q y && p y) xs)) passes)
      | inr fails ↦ ap (λ b. find p (cond b (x ∷ filter q xs) (filter q xs))) fails ∙ find_kept p q xs ∙ sym (ap (λ b. cond (b && p x) (Some x) (find (λ y. q y && p y) xs)) fails)
    ]

find_alike : (p q : Row → Bool) → ((x : Row) → p x ≡ q x) → (xs : List Row) → find p xs ≡ find q xs
find_alike p q h [] = refl
find_alike p q h (x ∷ xs) = ap (λ b. cond b (Some x) (find p xs)) (h x) ∙ ap (λ o. cond (q x) (Some x) o) (find_alike p q h xs)

all_pass : (p : Row → Bool) (xs : List Row) → ((x : Row) → Contains xs x → p x ≡ true) → list_all p xs ≡ true
all_pass p [] h = refl
all_pass p (x ∷ xs) h = and_from _ _ (h x (0, omega arith, refl)) (all_pass p xs (λ y has. h y (suc has.0, (let b = has.1 in omega arith), has.2)))

-- ---- lines that mountd asks

named_test : (o : Option ℕ) (weight : ℕ) (lists : Bool) → 0 < weight → (is_named o && (lists && is_weight weight o)) ≡ (is_weight weight o && lists)
named_test None weight true names = refl
named_test None weight false names = refl
named_test (Some own) weight lists names =
    elim (cases_Bool (eqb own weight)) [
      | inl same ↦
          let e = eqb-true own weight same in
          ap (λ b. b && (lists && eqb own weight)) (lt-ltb 0 own (omega arith)) ∙ ap (λ b. lists && b) same ∙ and_true lists ∙ sym (ap (λ b. b && lists) same)
      | inr apart ↦ ap (λ b. nat_lt 0 own && (lists && b)) apart ∙ ap (λ b. nat_lt 0 own && b) (and_false lists) ∙ and_false (nat_lt 0 own) ∙ sym (ap (λ b. b && lists) apart)
    ]
  where
    and_true : (b : Bool) → (b && true) ≡ b
    and_true true = refl
    and_true false = refl

    and_false : (b : Bool) → (b && false) ≡ false
    and_false true = refl
    and_false false = refl

everybody_test : (o : Option ℕ) (lists : Bool) → (is_everybody o && (lists && is_weight 0 o)) ≡ (is_weight 0 o && lists)
everybody_test None true = refl
everybody_test None false = refl
everybody_test (Some own) true = elim (cases_Bool (eqb own 0)) [ inl same ↦ ap (λ b. b && (true && b)) same ∙ sym (ap (λ b. b && true) same) | inr apart ↦ ap (λ b. b && (true && b)) apart ∙ sym (ap (λ b. b && true) apart) ]
everybody_test (Some own) false = elim (cases_Bool (eqb own 0)) [ inl same ↦ ap (λ b. b && (false && b)) same ∙ sym (ap (λ b. b && false) same) | inr apart ↦ ap (λ b. b && (false && b)) apart ∙ sym (ap (λ b. b && false) apart) ]

or_named : (ns es : List Row) (row : Row) → Contains ns row → or_others ns es ≡ ns
or_named [] es row has = absurd (let b = has.1 in omega arith)
or_named (n ∷ ns) es row has = refl

or_none : (ns es : List Row) → ns ≡ [] → or_others ns es ≡ es
or_none [] es none = refl
or_none (n ∷ ns) es none = let wrong : n ∷ ns ≡ [] = none in cc

asked_named : (rows : List Row) (address : ℕ) (row : Row) → Contains (named rows address) row → asked rows address ≡ named rows address
unfolding asked
asked_named rows address row has = or_named (named rows address) (for_everybody rows address) row has

asked_everybody : (rows : List Row) (address : ℕ) → named rows address ≡ [] → asked rows address ≡ for_everybody rows address
unfolding asked
asked_everybody rows address none = or_none (named rows address) (for_everybody rows address) none

-- ---- group by group

module _ (listing : Row → Bool) (rows : List Row) (address : ℕ) where
  abbrev listed : List Row
  listed = filter listing (asked rows address)

  -- All lines that are asked and list the path are lighter than this; and if this is below the greatest weight and above none, a line
  -- names the client.
  pub record AskedBelow (below : ℕ) : Type 0 where
    pub all : (row : Row) (own : ℕ) → Contains listed row → weight_of row address ≡ Some own → own < below
    pub names : below < 35 → 0 < below → (row : Row) × Contains (named rows address) row

  -- a line that is asked is one of the lines, and matches
  asked_matches : (row : Row) → Contains (asked rows address) row → Contains rows row × ((own : ℕ) × (weight_of row address ≡ Some own))
  unfolding asked
  asked_matches row has =
      elim (or_either (named rows address) (for_everybody rows address) row has) [
        | inl by_name ↦
            let f = filter_from (λ (other : Row). is_named (weight_of other address)) rows row by_name in
            let w = named_weight (weight_of row address) f.1 in
            (f.0, (w.0, w.1))
        | inr none ↦
            let f = filter_from (λ (other : Row). is_everybody (weight_of other address)) rows row none.1 in
            (f.0, (0, everybody_weight (weight_of row address) f.1))
      ]

  pub all_asked : All (λ (row : Row). HasBlock row.entry.clients) rows → AskedBelow 35
  all_asked blocks = record {
    all = λ row own has e.
        let f = filter_from listing (asked rows address) row has in
        let m = asked_matches row f.0 in
        few_by row.entry.clients row.addrs address own (All-contains (λ (r : Row). HasBlock r.entry.clients) rows row blocks m.0) e;
    names = λ few some. absurd (omega arith);
  }

  none_granting : ((row : Row) → Contains listed row → ⊥) → None ≡ slice_get (granting listing rows address) 0
  none_granting none =
      let empty : listed ≡ [] = none_has listed none in
      let nothing : granting listing rows address ≡ [] = none_has (granting listing rows address) (λ row has. none row (selected_from listed address row has)) in
      sym (ap (λ (rs : List Row). slice_get rs 0) nothing)

  pub none_asked : (below : ℕ) → AskedBelow below → AreHeaviestBelow rows address below None → None ≡ slice_get (granting listing rows address) 0
  none_asked below asked_are none = none_granting (λ row has.
      let f = filter_from listing (asked rows address) row has in
      let m = asked_matches row f.0 in
      none row m.1.0 m.0 m.1.1 (asked_are.all row m.1.0 has m.1.1))

  module _ (below : ℕ) (are : AskedBelow below) (group : Weighed) (is : IsHeaviestBelow rows address below group) where
    at_most : (row : Row) (own : ℕ) → Contains listed row → weight_of row address ≡ Some own → own ≤ group.weight
    at_most row own has e =
        let f = filter_from listing (asked rows address) row has in
        let m = asked_matches row f.0 in
        is.most row own m.0 e (are.all row own has e)

    -- lines for everybody are not asked where one names the client
    pub none_for_everybody : group.weight ≡ 0 → below < 35 → None ≡ slice_get (granting listing rows address) 0
    none_for_everybody weightless few =
        let lt = is.weight in
        let by = are.names few (omega arith) in
        none_granting (λ row has.
        let f = filter_from listing (asked rows address) row has in
        let g = filter_from (λ (other : Row). is_named (weight_of other address)) rows row (subst (λ (rs : List Row). Contains rs row) (asked_named rows address by.0 by.1) f.0) in
        let w = named_weight (weight_of row address) g.1 in
        let le = at_most row w.0 has w.1 in
        let names = w.2 in
        absurd (omega arith))

    -- a line of the group is asked, if the group names the client, or is the first
    named_group : 0 < group.weight → (row : Row) → Contains (weighing rows address group.weight) row → Contains (named rows address) row
    named_group names row has =
        let f = filter_from (λ (r : Row). is_weight group.weight (weight_of r address)) rows row has in
        filter_has (λ (r : Row). is_named (weight_of r address)) rows row f.0 (ap is_named (weight_is (weight_of row address) group.weight f.1) ∙ lt-ltb 0 group.weight names)

    -- no line names the client, if the first group is for everybody
    none_named : All (λ (row : Row). HasBlock row.entry.clients) rows → group.weight ≡ 0 → 35 ≤ below → named rows address ≡ []
    none_named blocks weightless first = none_has (named rows address) (λ row has.
        let f = filter_from (λ (r : Row). is_named (weight_of r address)) rows row has in
        let w = named_weight (weight_of row address) f.1 in
        let few = few_by row.entry.clients row.addrs address w.0 (All-contains (λ (r : Row). HasBlock r.entry.clients) rows row blocks f.0) w.1 in
        let le = is.most row w.0 f.0 w.1 (omega arith) in
        let names = w.2 in
        absurd (omega arith))

    -- of the lines of the group those that list are those that are asked, and list
    same_found : All (λ (row : Row). HasBlock row.entry.clients) rows → (group.weight ≡ 0 → 35 ≤ below) → (row : Row) → Contains (weighing rows address group.weight) row
        → find (weighs address group.weight) listed ≡ find listing (weighing rows address group.weight)
    same_found blocks first row has =
        find_kept (weighs address group.weight) listing (asked rows address)
        ∙ elim (cases_lt 0 group.weight) as (λ _. find (λ (x : Row). listing x && weighs address group.weight x) (asked rows address) ≡ find listing (weighing rows address group.weight)) [
          | inl names ↦
              ap (find (λ (x : Row). listing x && weighs address group.weight x)) (asked_named rows address row (named_group names row has))
              ∙ find_kept (λ (x : Row). listing x && weighs address group.weight x) (λ (x : Row). is_named (weight_of x address)) rows
              ∙ find_alike _ _ (λ x. named_test (weight_of x address) group.weight (listing x) names) rows
              ∙ sym (find_kept listing (λ (x : Row). is_weight group.weight (weight_of x address)) rows)
          | inr le ↦
              let weightless : group.weight ≡ 0 = omega arith in
              ap (find (λ (x : Row). listing x && weighs address group.weight x)) (asked_everybody rows address (none_named blocks weightless (first weightless)))
              ∙ find_kept (λ (x : Row). listing x && weighs address group.weight x) (λ (x : Row). is_everybody (weight_of x address)) rows
              ∙ find_alike _ _ (λ x. ap (λ n. is_everybody (weight_of x address) && (listing x && is_weight n (weight_of x address))) weightless ∙ everybody_test (weight_of x address) (listing x)
              ∙ ap (λ n. is_weight n (weight_of x address) && listing x) (sym weightless)) rows
              ∙ sym (find_kept listing (λ (x : Row). is_weight group.weight (weight_of x address)) rows)
        ]

    all_at_most : list_all (λ row. is_at_most (weight_of row address) group.weight) listed ≡ true
    all_at_most = all_pass (λ row. is_at_most (weight_of row address) group.weight) listed (λ row has. by_weight row has (weight_of row address) refl)
      where
        by_weight : (row : Row) → Contains listed row → (o : Option ℕ) → weight_of row address ≡ o → is_at_most (weight_of row address) group.weight ≡ true
        by_weight row has None e = ap (λ o. is_at_most o group.weight) e
        by_weight row has (Some own) e = ap (λ o. is_at_most o group.weight) e ∙ le-leb own group.weight (at_most row own has e)

    -- the first of the group that lists the path grants
    pub first_grants : All (λ (row : Row). HasBlock row.entry.clients) rows → (group.weight ≡ 0 → 35 ≤ below) → (row : Row) → find listing (weighing rows address group.weight) ≡ Some row
        → Some row ≡ slice_get (granting listing rows address) 0
    first_grants blocks first row found =
        let f = found_has listing (weighing rows address group.weight) row found in
        let same = same_found blocks first row f.0 ∙ found in
        let g = found_has (weighs address group.weight) listed row same in
        let any : list_any (weighs address group.weight) listed ≡ true = list_any_at (weighs address group.weight) listed g.0.0 row g.0.1 (ap (weighs address group.weight) g.0.2 ∙ g.1) in
        sym (ap (λ (rs : List Row). slice_get rs 0) (selected-some listed address group.weight any all_at_most) ∙ first_kept (weighs address group.weight) listed ∙ same)

    -- if none of the group lists it, all that do are lighter
    pub lighter_asked : All (λ (row : Row). HasBlock row.entry.clients) rows → (group.weight ≡ 0 → 35 ≤ below) → (row : Row) → Contains (weighing rows address group.weight) row
        → find listing (weighing rows address group.weight) ≡ None → AskedBelow group.weight
    lighter_asked blocks first some has none = record {
      all = λ row own is_listed e. elim (cases_lt own group.weight) [
        | inl lt ↦ lt
        | inr le ↦
            let most = at_most row own is_listed e in
            let same : own ≡ group.weight = omega arith in
            let passes : weighs address group.weight row ≡ true = ap (is_weight group.weight) e ∙ eq-eqb own group.weight same in
            absurd (none_passes (weighs address group.weight) listed (same_found blocks first some has ∙ none)
            (list_any_at (weighs address group.weight) listed is_listed.0 row is_listed.1 (ap (weighs address group.weight) is_listed.2 ∙ passes)))
      ];
      names = λ few names. (some, named_group names some has);
    }

    -- a group has a line
    pub some_line : (row : Row) × Contains (weighing rows address group.weight) row
    some_line = some_numbered (weighing rows address group.weight) group.lines.now is.lines is.some
