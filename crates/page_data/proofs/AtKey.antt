-- The groups' places by their keys, as one more section comes.
use Rattle.std.proofs.Common.{◌≡◌, ℕ, suc, ◌+◌, ◌<◌, ◌++◌, ◌∙◌, Bool, true, false, cond, List, [], ◌∷◌, Option, None, Some, ap, arith, get_or, inl, inr, length, refl, set, subst, sym}
use Rattle.std.specs.List.{position_from}
use Rattle.std.specs.Prelude.{Vec}
use Rattle.std.specs.BTreeMap.{BTreeMap, Updates, get}
use Rattle.std.specs.Cmp.Lexicographic.{slice_cmp}
use Rattle.std.specs.Ordering.{nat_cmp}
use Rattle.std.specs.Str.{bytes_eq}
use Rattle.std.proofs.lemmas.Bool.{cases_Bool, true≢false}
use Rattle.std.proofs.lemmas.Map.Text.{is_eq-slice_cmp}
use Rattle.std.proofs.lemmas.Slice.Eq.{bytes_eq-Decides}
use Rattle.desk_impact.specs.Sections.{PlaceBreaches}
use Rattle.page_data.specs.PrivateGroups.{AreNumbered, has_key, key_of, with_section}

-- ---- a list with one more element
module _ {A : Type 0} (test : A → Bool) where
  still : (i : ℕ) (xs : List A) (x : A) (place : ℕ) → position_from test i xs ≡ Some place → position_from test i (xs ++ x ∷ []) ≡ Some place
  still i [] x place is = absurd (cc)
  still i (first ∷ xs) x place is =
      elim (cases_Bool (test first)) as (λ _. position_from test i (first ∷ xs ++ x ∷ []) ≡ Some place) [
        | inl passes ↦ ap (λ b. cond b (Some i) (position_from test (i + 1) (xs ++ x ∷ []))) passes ∙ sym (ap (λ b. cond b (Some i) (position_from test (i + 1) xs)) passes) ∙ is
        | inr fails ↦
            ap (λ b. cond b (Some i) (position_from test (i + 1) (xs ++ x ∷ []))) fails
            ∙ still (i + 1) xs x place (sym (ap (λ b. cond b (Some i) (position_from test (i + 1) xs)) fails) ∙ is)
      ]

  at_end : (i : ℕ) (xs : List A) (x : A) → position_from test i xs ≡ None → position_from test i (xs ++ x ∷ []) ≡ cond (test x) (Some (i + length xs)) None
  at_end i [] x none = ap (λ n. cond (test x) (Some n) None) (plus_none i)
    where
      plus_none : (n : ℕ) → n ≡ n + 0
      plus_none n = omega arith
  at_end i (first ∷ xs) x none =
      elim (cases_Bool (test first)) as (λ _. position_from test i (first ∷ xs ++ x ∷ []) ≡ cond (test x) (Some (i + length (first ∷ xs))) None) [
        | inl passes ↦ absurd (some_none (sym (ap (λ b. cond b (Some i) (position_from test (i + 1) xs)) passes) ∙ none))
        | inr fails ↦
            ap (λ b. cond b (Some i) (position_from test (i + 1) (xs ++ x ∷ []))) fails
            ∙ at_end (i + 1) xs x (sym (ap (λ b. cond b (Some i) (position_from test (i + 1) xs)) fails) ∙ none)
            ∙ ap (λ n. cond (test x) (Some n) None) (omega arith)
      ]
    where
      some_none : {n : ℕ} → Some n ≡ None → ⊥
      some_none e = cc

-- ---- a group that has the key
abbrev pub grown : PlaceBreaches → List (List PlaceBreaches) → ℕ → List (List PlaceBreaches)
grown section groups place = set groups place (get_or groups place [] ++ section ∷ [])

-- the first group with the key of a section stands here, and grows by it
pub record Grows (section : PlaceBreaches) (i : ℕ) (groups : List (List PlaceBreaches)) (place : ℕ) : Type 0 where
  pub at : ℕ
  pub is : place ≡ i + at
  pub within : at < length groups
  pub grows : with_section section groups ≡ grown section groups at
  pub keeps : (key : List ℕ) (j : ℕ) → position_from (has_key key) j (grown section groups at) ≡ position_from (has_key key) j groups

module _ (section : PlaceBreaches) where
  abbrev own_key : List ℕ
  own_key = key_of section.ranges

  same_first : (group : List PlaceBreaches) → has_key own_key group ≡ true → (key : List ℕ) → has_key key (group ++ section ∷ []) ≡ has_key key group
  same_first [] has key = absurd (true≢false (sym has))
  same_first (first ∷ others) has key = refl

  pub grows : (i : ℕ) (groups : List (List PlaceBreaches)) (place : ℕ) → position_from (has_key own_key) i groups ≡ Some place → Grows section i groups place
  grows i [] place is = absurd (cc)
  grows i (group ∷ groups) place is =
      elim (cases_Bool (has_key own_key group)) as (λ _. Grows section i (group ∷ groups) place) [
        | inl passes ↦ record {
          at = 0;
          is = sym (same_place (sym (ap (λ b. cond b (Some i) (position_from (has_key own_key) (i + 1) groups)) passes) ∙ is));
          within = omega arith;
          grows = ap (λ b. cond b ((group ++ section ∷ []) ∷ groups) (group ∷ with_section section groups)) passes;
          keeps = λ key j. ap (λ b. cond b (Some j) (position_from (has_key key) (j + 1) groups)) (same_first group passes key);
        }
        | inr fails ↦
            let rest = grows (i + 1) groups place (sym (ap (λ b. cond b (Some i) (position_from (has_key own_key) (i + 1) groups)) fails) ∙ is) in
            record {
              at = suc rest.at;
              is = (let e = rest.is in omega arith);
              within = (let lt = rest.within in omega arith);
              grows = ap (λ b. cond b ((group ++ section ∷ []) ∷ groups) (group ∷ with_section section groups)) fails ∙ ap (λ gs. group ∷ gs) rest.grows;
              keeps = λ key j. ap (λ o. cond (has_key key group) (Some j) o) (rest.keeps key (j + 1));
            }
      ]
    where
      same_place : {n m : ℕ} → Some n ≡ Some m → n + 0 ≡ m
      same_place {n} {m} e = (let is : n ≡ m = cc in omega arith)

  pub new_group : (i : ℕ) (groups : List (List PlaceBreaches)) → position_from (has_key own_key) i groups ≡ None → with_section section groups ≡ groups ++ (section ∷ []) ∷ []
  new_group i [] none = refl
  new_group i (group ∷ groups) none =
      elim (cases_Bool (has_key own_key group)) as (λ _. with_section section (group ∷ groups) ≡ group ∷ groups ++ (section ∷ []) ∷ []) [
        | inl passes ↦ absurd (some_none (sym (ap (λ b. cond b (Some i) (position_from (has_key own_key) (i + 1) groups)) passes) ∙ none))
        | inr fails ↦
            ap (λ b. cond b ((group ++ section ∷ []) ∷ groups) (group ∷ with_section section groups)) fails
            ∙ ap (λ gs. group ∷ gs) (new_group (i + 1) groups (sym (ap (λ b. cond b (Some i) (position_from (has_key own_key) (i + 1) groups)) fails) ∙ none))
      ]
    where
      some_none : {n : ℕ} → Some n ≡ None → ⊥
      some_none e = cc

-- ---- the map of places, with the key of a new group
module _ {Z : Type 0} (old new : BTreeMap (Vec ℕ Z) ℕ) (groups : List (List PlaceBreaches)) (section : PlaceBreaches) (key : Vec ℕ Z) (own : key.items ≡ key_of section.ranges)
    (numbered : AreNumbered old groups) (none : position_from (has_key key.items) 0 groups ≡ None)
    (updates : Updates (λ (one other : Vec ℕ Z). slice_cmp nat_cmp one.items other.items) old new key (Some (length groups))) where
  abbrev more : List (List PlaceBreaches)
  more = groups ++ (section ∷ []) ∷ []

  at_other : (other : List ℕ) → bytes_eq key.items other ≡ false → (found : Option ℕ) → position_from (has_key other) 0 groups ≡ found → position_from (has_key other) 0 more ≡ found
  at_other other apart None is = at_end (has_key other) 0 groups (section ∷ []) is ∙ ap (λ b. cond b (Some (0 + length groups)) None) (ap (λ k. bytes_eq k other) (sym own) ∙ apart)
  at_other other apart (Some place) is = still (has_key other) 0 groups (section ∷ []) place is

  pub numbered_more : AreNumbered new more
  numbered_more other =
      updates.0 other ∙ ap (λ b. cond b (Some (length groups)) (get (λ (one other : Vec ℕ Z). slice_cmp nat_cmp one.items other.items) old other)) (is_eq-slice_cmp key.items other.items)
      ∙ elim (cases_Bool (bytes_eq key.items other.items)) as (λ _. cond (bytes_eq key.items other.items) (Some (length groups)) (get (λ (one other : Vec ℕ Z). slice_cmp nat_cmp one.items other.items) old other) ≡ position_from (has_key other.items) 0 more) [
        | inl passes ↦
            let same : key.items ≡ other.items = (bytes_eq-Decides key.items other.items).0 passes in
            ap (λ b. cond b (Some (length groups)) (get (λ (one other : Vec ℕ Z). slice_cmp nat_cmp one.items other.items) old other)) passes
            ∙ sym (at_end (has_key other.items) 0 groups (section ∷ []) (subst (λ k. position_from (has_key k) 0 groups ≡ None) same none)
            ∙ ap (λ b. cond b (Some (0 + length groups)) None) (ap (λ k. bytes_eq k other.items) (sym own) ∙ passes) ∙ ap Some (omega arith))
        | inr fails ↦
            ap (λ b. cond b (Some (length groups)) (get (λ (one other : Vec ℕ Z). slice_cmp nat_cmp one.items other.items) old other)) fails ∙ numbered other
            ∙ sym (at_other other.items fails (position_from (has_key other.items) 0 groups) refl)
      ]
