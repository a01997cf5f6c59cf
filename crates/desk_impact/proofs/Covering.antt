-- The places of two policies leave out no path.
use Rattle.std.proofs.Common.{◌≡◌, ℕ, zero, suc, ◌<◌, ◌&&◌, not, Bool, true, false, cond, List, [], ◌∷◌, ◌++◌, length, map, refl, sym, ap, ◌∙◌, subst, arith, inl, inr}
use Rattle.std.specs.Prelude.{All, Contains, filter, slice_index_or}
use Rattle.std.specs.List.{flat_map, list_all}
use Rattle.std.proofs.lemmas.Bool.{and_from, and_parts, cases_Bool, cond-true}
use Rattle.std.proofs.lemmas.List.Elements.{All-contains, Contains-append_left, Contains-append_right}
use Rattle.std.proofs.lemmas.List.Sums.{AllPass-from_list_all, list_all-from_AllPass}
use Rattle.desk_text.specs.Path.{is_under, same_path}
use Rattle.desk_policy.specs.Policy.{Content}
use Rattle.desk_policy.specs.Verdict.{is_directory_among}
use Rattle.desk_impact.specs.Impact.{verdicts_at}
use Rattle.desk_impact.specs.Places.{ArePlaces, Directory, HasPlace, Others, Place, PlacesTellAll, dirs_below, dirs_of_both, is_home, mounts_of_both, places_at}
use Rattle.desk_impact.proofs.Elsewhere.{decided_as_others}
use Rattle.desk_impact.proofs.Same.{Path, contained, contains_first, contains_later, contains_map, same_is}
use Rattle.desk_impact.proofs.Under.{is_above}

-- ---- values of lists
pub flat_at : {X Y : Type 0} (f : X → List Y) (xs : List X) (x : X) (y : Y) (k : ℕ) → k < length xs → slice_index_or xs k x ≡ x → Contains (f x) y → Contains (flat_map f xs) y
flat_at f [] x y k below is at = absurd (omega arith)
flat_at f (z ∷ xs) x y zero below is at = Contains-append_left (f z) (flat_map f xs) y (subst (λ w. Contains (f w) y) (sym is) at)
flat_at f (z ∷ xs) x y (suc k) below is at = Contains-append_right (f z) (flat_map f xs) y (flat_at f xs x y k (omega arith) is at)

pub filter_at : {X : Type 0} (p : X → Bool) (xs : List X) (x : X) (k : ℕ) → k < length xs → slice_index_or xs k x ≡ x → p x ≡ true → Contains (filter p xs) x
filter_at p [] x k below is passes = absurd (omega arith)
filter_at p (z ∷ xs) x zero below is passes =
    subst (λ ys. Contains ys x) (sym (cond-true (p z) (z ∷ filter p xs) (filter p xs) (ap p is ∙ passes))) (subst (λ w. Contains (w ∷ filter p xs) x) (sym is) (contains_first x (filter p xs)))
filter_at p (z ∷ xs) x (suc k) below is passes =
    let rest = filter_at p xs x k (omega arith) is passes in
    step (p z) rest
  where
    step : (b : Bool) → Contains (filter p xs) x → Contains (cond b (z ∷ filter p xs) (filter p xs)) x
    step true at = contains_later z (filter p xs) x at
    step false at = at

-- a test that all of a list pass is passed by those of another that has no others
pub pass_too : {X : Type 0} (test : X → Bool) (xs ys : List X) → All (Contains xs) ys → list_all test xs ≡ true → list_all test ys ≡ true
pass_too test xs ys only all =
    list_all-from_AllPass test ys (λ k d below. All-contains (λ x. test x ≡ true) xs _ (AllPass-from_list_all test xs all) (only k d below))

-- ---- the places
module _ (before after : Content) (places : List Place) (are : ArePlaces before after places) (mount path : Path) (listed : Contains (mounts_of_both before after) mount)
    (home : is_home (mounts_of_both before after) path mount ≡ true) where
  at_home : is_home are.mounts path mount ≡ true
  at_home =
      let p = and_parts (is_under path mount) (list_all (is_above path mount) (mounts_of_both before after)) home in
      and_from (is_under path mount) (list_all (is_above path mount) are.mounts) p.0 (pass_too (is_above path mount) (mounts_of_both before after) are.mounts are.mounts_are.only p.1)

  in_places : (place : Place) → Contains (places_at are.mounts are.dirs mount) place → Contains places place
  in_places place at =
      let ordered : Contains are.mounts mount = All-contains (Contains are.mounts) (mounts_of_both before after) mount are.mounts_are.all listed in
      subst (λ ps. Contains ps place) (sym are.are) (flat_at (places_at are.mounts are.dirs) are.mounts mount place ordered.0 ordered.1 ordered.2 at)

  by_itself : same_path path mount ≡ true → HasPlace before after places path
  by_itself same = record {
    place = Directory mount;
    listed = in_places (Directory mount) (contains_first (Directory mount) (map Directory (dirs_below are.mounts are.dirs mount) ++ Others mount ∷ []));
    same = λ address. ap (λ (p : Path). verdicts_at before after p address) (same_is path mount same);
  }

  by_line : same_path path mount ≡ false → is_directory_among path (dirs_of_both before after) ≡ true → HasPlace before after places path
  by_line apart writes =
      let dir : Contains are.dirs path = All-contains (Contains are.dirs) (dirs_of_both before after) path are.dirs_are.all (contained path (dirs_of_both before after) writes) in
      let below : (is_home are.mounts path mount && not (same_path path mount)) ≡ true = and_from (is_home are.mounts path mount) (not (same_path path mount)) at_home (ap not apart) in
      let kept : Contains (dirs_below are.mounts are.dirs mount) path = filter_at (λ d. is_home are.mounts d mount && not (same_path d mount)) are.dirs path dir.0 dir.1 dir.2 below in
      record {
        place = Directory path;
        listed = in_places (Directory path) (contains_later (Directory mount) (map Directory (dirs_below are.mounts are.dirs mount) ++ Others mount ∷ []) (Directory path)
            (Contains-append_left (map Directory (dirs_below are.mounts are.dirs mount)) (Others mount ∷ []) (Directory path) (contains_map Directory (dirs_below are.mounts are.dirs mount) path kept)));
        same = λ address. refl;
      }

  by_others : is_directory_among path (dirs_of_both before after) ≡ false → HasPlace before after places path
  by_others lacks = record {
    place = Others mount;
    listed = in_places (Others mount) (contains_later (Directory mount) (map Directory (dirs_below are.mounts are.dirs mount) ++ Others mount ∷ []) (Others mount)
        (Contains-append_right (map Directory (dirs_below are.mounts are.dirs mount)) (Others mount ∷ []) (Others mount) (contains_first (Others mount) [])));
    same = λ address. decided_as_others before after mount path home lacks address;
  }

  has_place : HasPlace before after places path
  has_place =
      elim (cases_Bool (same_path path mount)) as (λ _. HasPlace before after places path) [
        | inl same ↦ by_itself same
        | inr apart ↦ elim (cases_Bool (is_directory_among path (dirs_of_both before after))) as (λ _. HasPlace before after places path) [
          | inl writes ↦ by_line apart writes
          | inr lacks ↦ by_others lacks
        ]
      ]

pub places_tell_all : PlacesTellAll
places_tell_all before after places are mount path listed home = has_place before after places are mount path listed home
