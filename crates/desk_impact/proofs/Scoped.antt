-- The places of a directory and of all below it leave out no path, and have no other.
use Rattle.std.proofs.Common.{zero, suc, ◌≡◌, ℕ, ◌<◌, ◌^◌, ◌&&◌, ◌||◌, not, Bool, true, false, cond, eqb, List, [], ◌∷◌, ◌++◌, length, map, refl, sym, ap, ◌∙◌, subst, arith, inl, inr}
use Rattle.std.specs.Prelude.{All, Contains, None, Option, filter, slice_index_or}
use Rattle.std.specs.List.{AllByRecursion, flat_map, list_all, list_any}
use Rattle.std.proofs.lemmas.Bool.{and_from, and_parts, cases_Bool, ne_eqb, or_left, or_right, true≢false}
use Rattle.std.proofs.lemmas.List.Elements.{All-append, All-cons, All-contains, All-from_recursion, All-nil, Contains-append_left, Contains-append_right, recursion_from_All}
use Rattle.std.proofs.lemmas.List.Folds.{list_all-append, list_any-append}
use Rattle.desk_text.specs.Path.{is_under, same_path}
use Rattle.desk_tables.specs.FileSystems.{mount_points}
use Rattle.desk_policy.specs.Policy.{Content}
use Rattle.desk_policy.specs.Verdict.{is_directory_among}
use Rattle.desk_who.specs.Runs.{NoRunIsNoValue, Run}
use Rattle.desk_who.specs.Searching.{AsksThoseThatMatch, Rule, found_at}
use Rattle.desk_impact.specs.Impact.{TwoVerdicts}
use Rattle.desk_impact.specs.Places.{Directory, Others, Place, all_written, dirs_below, dirs_of_both, is_home, mounts_of_both, places_at}
use Rattle.desk_impact.specs.Sections.{AreFoundAt, AreFoundIn, ArePlacesBelow, ArePlacesIn, NoSectionIsNothingFound, PlaceFound, PlacesTellScope, StandsFor, found_of, has_some, is_in_scope, roots_below}
use Rattle.desk_impact.proofs.Covering.{filter_at, flat_at, pass_too}
use Rattle.desk_impact.proofs.Elsewhere.{decided_as_others}
use Rattle.desk_impact.proofs.FoundElsewhere.{as_others}
use Rattle.desk_impact.proofs.HavingOthers.{mounts_have_others}
use Rattle.desk_impact.proofs.Same.{Path, contained, contains_first, contains_later, contains_map, is_same, same_is}
use Rattle.desk_impact.proofs.Under.{is_above, nested, passes_apart, paths_have_homes, under_itself, under_trans}

-- one of the places stands for a path, and a place for a path of the scope, by whichever relation of the two
record PlaceWith (Stands : Place → Path → Type 0) (places : List Place) (path : Path) : Type 0 where
  pub place : Place
  pub listed : Contains places place
  pub stands : Stands place path

record PathWith (Stands : Place → Path → Type 0) (dir : Path) (below : Bool) (place : Place) : Type 0 where
  pub path : Path
  pub inside : is_in_scope dir below path ≡ true
  pub stands : Stands place path

-- ---- the roots are under the directory
kept_pass : {X : Type 0} (test : X → Bool) (xs : List X) → AllByRecursion (λ x. test x ≡ true) (filter test xs)
kept_pass test [] = tt
kept_pass {X} test (x ∷ xs) =
    let Pass : List X → Type 0 = λ ys. AllByRecursion (λ (y : X). test y ≡ true) ys in
    elim (cases_Bool (test x)) as (λ _. AllByRecursion (λ (y : X). test y ≡ true) (filter test (x ∷ xs))) [
      | inl is ↦ subst (λ b. Pass (cond b (x ∷ filter test xs) (filter test xs))) (sym is) (is, kept_pass test xs)
      | inr fails ↦ subst (λ b. Pass (cond b (x ∷ filter test xs) (filter test xs))) (sym fails) (kept_pass test xs)
    ]

roots_under : (content : Content) (dir : Path) → All (λ root. is_under root dir ≡ true) (roots_below content dir)
roots_under content dir =
    All-from_recursion (λ root. is_under root dir ≡ true) (roots_below content dir) (under_itself dir, kept_pass (λ mount. is_under mount dir) (mount_points content.table))

root_under : (content : Content) (dir root : Path) → Contains (roots_below content dir) root → is_under root dir ≡ true
root_under content dir root at = All-contains (λ one. is_under one dir ≡ true) (roots_below content dir) root (roots_under content dir) at

-- ---- a mount point that is no root stands between the path and no root
outside : (dir root path mount : Path) → is_under path root ≡ true → is_under root dir ≡ true → is_under mount dir ≡ false → is_above path root mount ≡ true
outside dir root path mount here below apart =
    elim (cases_Bool (is_under path mount)) as (λ _. is_above path root mount ≡ true) [
      | inl under ↦ elim (nested path mount dir under (under_trans path root dir here below)) as (λ _. is_above path root mount ≡ true) [
        | inl inside ↦ absurd (true≢false (sym inside ∙ apart))
        | inr above ↦ or_right (not (is_under path mount)) (is_under root mount) (under_trans root dir mount below above)
      ]
      | inr away ↦ passes_apart path root mount away
    ]

all_above : (dir root path : Path) → is_under path root ≡ true → is_under root dir ≡ true → (mounts : List Path)
    → list_all (is_above path root) (filter (λ mount. is_under mount dir) mounts) ≡ true → list_all (is_above path root) mounts ≡ true
all_above dir root path here below [] all = refl
all_above dir root path here below (mount ∷ mounts) all =
    let some : List Path = filter (λ one. is_under one dir) mounts in
    elim (cases_Bool (is_under mount dir)) as (λ _. list_all (is_above path root) (mount ∷ mounts) ≡ true) [
      | inl inside ↦
          let p = and_parts (is_above path root mount) (list_all (is_above path root) some) (sym (ap (λ b. list_all (is_above path root) (cond b (mount ∷ some) some)) inside) ∙ all) in
          and_from (is_above path root mount) (list_all (is_above path root) mounts) p.0 (all_above dir root path here below mounts p.1)
      | inr apart ↦
          and_from (is_above path root mount) (list_all (is_above path root) mounts) (outside dir root path mount here below apart)
          (all_above dir root path here below mounts (sym (ap (λ b. list_all (is_above path root) (cond b (mount ∷ some) some)) apart) ∙ all))
    ]

-- a path at home at a root, among the roots, is so among all mount points
home_in_both : (content : Content) (dir root path : Path) → is_under root dir ≡ true → is_home (roots_below content dir) path root ≡ true → is_home (mounts_of_both content content) path root ≡ true
home_in_both content dir root path below home =
    let mounts = mount_points content.table in
    let p = and_parts (is_under path root) (list_all (is_above path root) (roots_below content dir)) home in
    let q = and_parts (is_above path root dir) (list_all (is_above path root) (filter (λ mount. is_under mount dir) mounts)) p.1 in
    let all = all_above dir root path p.0 below mounts q.1 in
    and_from (is_under path root) (list_all (is_above path root) (mounts_of_both content content)) p.0
    (list_all-append (is_above path root) mounts mounts ∙ and_from (list_all (is_above path root) mounts) (list_all (is_above path root) mounts) all all)

-- a place stands for a path: a directory for itself, and others for each unwritten path at home at their root
abbrev DirectoriesStand : (Place → Path → Type 0) → Type 0
DirectoriesStand Stands = (path : Path) → Stands (Directory path) path

abbrev OthersStand : Content → (Place → Path → Type 0) → Type 0
OthersStand content Stands =
    (root path : Path) → is_home (mounts_of_both content content) path root ≡ true → is_directory_among path (dirs_of_both content content) ≡ false → Stands (Others root) path

lacks_both : (content : Content) (path : Path) → is_directory_among path (all_written content) ≡ false → is_directory_among path (dirs_of_both content content) ≡ false
lacks_both content path lacks =
    let written = all_written content in
    list_any-append (λ dir. same_path dir path) written written ∙ ap (λ b. b || is_directory_among path written) lacks ∙ lacks

-- ---- a path has a place
module _ (content : Content) (Stands : Place → Path → Type 0) (own : DirectoriesStand Stands) (other_paths : OthersStand content Stands) (dir : Path) (places : List Place) (are : ArePlacesBelow content dir places) where
  in_places : (root : Path) → Contains (roots_below content dir) root → (place : Place) → Contains (places_at are.roots are.dirs root) place → Contains places place
  in_places root listed place at =
      let ordered : Contains are.roots root = All-contains (Contains are.roots) (roots_below content dir) root are.roots_are.all listed in
      subst (λ ps. Contains ps place) (sym are.are) (flat_at (places_at are.roots are.dirs) are.roots root place ordered.0 ordered.1 ordered.2 at)

  of_root : (root : Path) → Contains (roots_below content dir) root → PlaceWith Stands places root
  of_root root listed = record {
    place = Directory root;
    listed = in_places root listed (Directory root) (contains_first (Directory root) (map Directory (dirs_below are.roots are.dirs root) ++ Others root ∷ []));
    stands = own root;
  }

  module _ (root path : Path) (listed : Contains (roots_below content dir) root) (home : is_home (roots_below content dir) path root ≡ true) where
    at_home : is_home are.roots path root ≡ true
    at_home =
        let p = and_parts (is_under path root) (list_all (is_above path root) (roots_below content dir)) home in
        and_from (is_under path root) (list_all (is_above path root) are.roots) p.0 (pass_too (is_above path root) (roots_below content dir) are.roots are.roots_are.only p.1)

    of_written : is_directory_among path (all_written content) ≡ true → PlaceWith Stands places path
    of_written writes =
        elim (cases_Bool (same_path path root)) as (λ _. PlaceWith Stands places path) [
          | inl same ↦ subst (PlaceWith Stands places) (sym (same_is path root same)) (of_root root listed)
          | inr apart ↦
              let one : Contains are.dirs path = All-contains (Contains are.dirs) (all_written content) path are.dirs_are.all (contained path (all_written content) writes) in
              let below : (is_home are.roots path root && not (same_path path root)) ≡ true = and_from (is_home are.roots path root) (not (same_path path root)) at_home (ap not apart) in
              let kept : Contains (dirs_below are.roots are.dirs root) path = filter_at (λ d. is_home are.roots d root && not (same_path d root)) are.dirs path one.0 one.1 one.2 below in
              record {
                place = Directory path;
                listed = in_places root listed (Directory path) (contains_later (Directory root) (map Directory (dirs_below are.roots are.dirs root) ++ Others root ∷ []) (Directory path)
                    (Contains-append_left (map Directory (dirs_below are.roots are.dirs root)) (Others root ∷ []) (Directory path) (contains_map Directory (dirs_below are.roots are.dirs root) path kept)));
                stands = own path;
              }
        ]

    of_others : is_directory_among path (all_written content) ≡ false → PlaceWith Stands places path
    of_others lacks = record {
      place = Others root;
      listed = in_places root listed (Others root) (contains_later (Directory root) (map Directory (dirs_below are.roots are.dirs root) ++ Others root ∷ []) (Others root)
          (Contains-append_right (map Directory (dirs_below are.roots are.dirs root)) (Others root ∷ []) (Others root) (contains_first (Others root) [])));
      stands = other_paths root path (home_in_both content dir root path (root_under content dir root listed) home) (lacks_both content path lacks);
    }

  has_place : (path : Path) → is_under path dir ≡ true → PlaceWith Stands places path
  has_place path inside =
      let home = paths_have_homes (roots_below content dir) path (or_left (is_under path dir) (list_any (is_under path) (filter (λ mount. is_under mount dir) (mount_points content.table))) inside) in
      elim (cases_Bool (is_directory_among path (all_written content))) as (λ _. PlaceWith Stands places path) [
        | inl writes ↦ of_written home.mount path home.listed home.home writes
        | inr lacks ↦ of_others home.mount path home.listed home.home lacks
      ]

-- ---- a place has a path
module _ (content : Content) (Stands : Place → Path → Type 0) (own : DirectoriesStand Stands) (other_paths : OthersStand content Stands) (dir : Path) where
  of_directory : (path : Path) → is_under path dir ≡ true → PathWith Stands dir true (Directory path)
  of_directory path inside = record { path = path; inside = inside; stands = own path }

  of_free : (root : Path) → is_under root dir ≡ true → PathWith Stands dir true (Others root)
  of_free root below =
      let other = mounts_have_others (mounts_of_both content content) (dirs_of_both content content) root in
      let p = and_parts (is_under other.path root) (list_all (is_above other.path root) (mounts_of_both content content)) other.home in
      record {
        path = other.path;
        inside = under_trans other.path root dir p.0 below;
        stands = other_paths root other.path other.home other.unwritten;
      }

  of_dirs : (roots : List Path) (root : Path) → is_under root dir ≡ true → (dirs : List Path) → AllByRecursion (λ d. (is_home roots d root && not (same_path d root)) ≡ true) dirs
      → All (PathWith Stands dir true) (map Directory dirs)
  of_dirs roots root below [] homes = All-nil (PathWith Stands dir true)
  of_dirs roots root below (d ∷ dirs) homes =
      let home = and_parts (is_home roots d root) (not (same_path d root)) homes.0 in
      let under = and_parts (is_under d root) (list_all (is_above d root) roots) home.0 in
      All-cons (PathWith Stands dir true) (Directory d) (map Directory dirs) (of_directory d (under_trans d root dir under.0 below)) (of_dirs roots root below dirs homes.1)

  of_places : (roots dirs some : List Path) → AllByRecursion (λ root. is_under root dir ≡ true) some → All (PathWith Stands dir true) (flat_map (places_at roots dirs) some)
  of_places roots dirs [] under = All-nil (PathWith Stands dir true)
  of_places roots dirs (root ∷ some) under =
      All-append (PathWith Stands dir true) (places_at roots dirs root) (flat_map (places_at roots dirs) some)
      (All-cons (PathWith Stands dir true) (Directory root) (map Directory (dirs_below roots dirs root) ++ Others root ∷ []) (of_directory root under.0)
      (All-append (PathWith Stands dir true) (map Directory (dirs_below roots dirs root)) (Others root ∷ [])
      (of_dirs roots root under.0 (dirs_below roots dirs root) (kept_pass (λ d. is_home roots d root && not (same_path d root)) dirs))
      (All-cons (PathWith Stands dir true) (Others root) [] (of_free root under.0) (All-nil (PathWith Stands dir true)))))
      (of_places roots dirs some under.1)

  have_paths : (places : List Place) → ArePlacesBelow content dir places → All (PathWith Stands dir true) places
  have_paths places are =
      let under : All (λ root. is_under root dir ≡ true) are.roots =
      λ k d below. All-contains (λ root. is_under root dir ≡ true) (roots_below content dir) _ (roots_under content dir) (are.roots_are.only k d below) in
      subst (All (PathWith Stands dir true)) (sym are.are) (of_places are.roots are.dirs are.roots (recursion_from_All (λ root. is_under root dir ≡ true) are.roots under))

-- ---- both
module _ (content : Content) (Stands : Place → Path → Type 0) (own : DirectoriesStand Stands) (other_paths : OthersStand content Stands) (dir : Path) where
  tell : (below : Bool) (places : List Place) → ArePlacesIn content dir below places
      → ((path : Path) → is_in_scope dir below path ≡ true → PlaceWith Stands places path) × All (PathWith Stands dir below) places
  tell true places are = (λ path inside. has_place content Stands own other_paths dir places are path inside, have_paths content Stands own other_paths dir places are)
  tell false places are = (
    λ path inside. record {
      place = Directory dir;
      listed = subst (λ ps. Contains ps (Directory dir)) (sym are) (contains_first (Directory dir) []);
      stands = subst (Stands (Directory dir)) (sym (same_is path dir inside)) (own dir);
    },
    subst (All (PathWith Stands dir false)) (sym are)
        (All-cons (PathWith Stands dir false) (Directory dir) [] (record { path = dir; inside = is_same dir dir refl; stands = own dir }) (All-nil (PathWith Stands dir false))),
  )

pub places_tell_scope : PlacesTellScope
places_tell_scope content dir below places are =
    let both = tell content (λ place path. StandsFor content place path) (λ path address. refl)
    (λ root path home lacks address. ap (λ (v : TwoVerdicts). v.before) (decided_as_others content content root path home lacks address)) dir below places are in (
      λ path inside. let place = both.0 path inside in record { place = place.place; listed = place.listed; stands = place.stands },
      λ k d fits. let path = both.1 k d fits in record { path = path.path; inside = path.inside; stands = path.stands },
    )

-- ---- sections
module _ {A : Type 0} where
  empty_of : (found : PlaceFound A) → has_some found ≡ false → found.ranges ≡ []
  empty_of found none = from found.ranges none
    where
      from : (ranges : List (Run A)) → has_some (record { place = found.place; ranges = ranges }) ≡ false → ranges ≡ []
      from [] e = refl
      from (range ∷ ranges) e = (let some : eqb (length (range ∷ ranges)) 0 ≡ false = ne_eqb (length (range ∷ ranges)) 0 (λ none. omega arith) in absurd (true≢false (sym (ap not some) ∙ e)))

  none_of : (found : PlaceFound A) → found.ranges ≡ [] → has_some found ≡ false
  none_of found empty = ap (λ ranges. has_some (record { place = found.place; ranges = ranges })) empty

  nothing_found : (all : List (PlaceFound A)) → filter has_some all ≡ [] → AllByRecursion (λ one. has_some one ≡ false) all
  nothing_found [] none = tt
  nothing_found (one ∷ all) none =
      elim (cases_Bool (has_some one)) as (λ _. AllByRecursion (λ (found : PlaceFound A). has_some found ≡ false) (one ∷ all)) [
        | inl is ↦ absurd (first_of_some one (filter has_some all) (sym (ap (λ b. cond b (one ∷ filter has_some all) (filter has_some all)) is) ∙ none))
        | inr not ↦ (not, nothing_found all (sym (ap (λ b. cond b (one ∷ filter has_some all) (filter has_some all)) not) ∙ none))
      ]
    where
      first_of_some : (x : PlaceFound A) (xs : List (PlaceFound A)) → x ∷ xs ≡ [] → ⊥
      first_of_some x xs e = cc

  all_empty : (all : List (PlaceFound A)) → AllByRecursion (λ one. has_some one ≡ false) all → filter has_some all ≡ []
  all_empty [] none = refl
  all_empty (one ∷ all) none = ap (λ b. cond b (one ∷ filter has_some all) (filter has_some all)) none.0 ∙ all_empty all none.1

-- what is found at one of the places
record FoundAt {A : Type 0} (all : List (PlaceFound A)) (place : Place) : Type 0 where
  pub found : PlaceFound A
  pub there : Contains all found
  pub is : found.place ≡ place

found_from : {A : Type 0} (all : List (PlaceFound A)) (place : Place) (k : ℕ) → k < length (map (λ (f : PlaceFound A). f.place) all) → slice_index_or (map (λ (f : PlaceFound A). f.place) all) k place ≡ place
    → FoundAt all place
found_from [] place k below is = absurd (omega arith)
found_from (one ∷ all) place zero below is = record { found = one; there = contains_first one all; is = is }
found_from (one ∷ all) place (suc k) below is =
    let later = found_from all place k (omega arith) is in
    record { found = later.found; there = contains_later one all later.found later.there; is = later.is }

module _ {A : Type 0} (law : NoRunIsNoValue A) (rule : Rule (Option A)) (asks : AsksThoseThatMatch rule) (content : Content) (dir : Path) (below : Bool) (sections : List (PlaceFound A))
    (are : AreFoundIn rule content dir below sections) where
  abbrev IsNothing : Type 0
  IsNothing = (address : ℕ) (path : Path) → address < 2 ^ 32 → is_in_scope dir below path ≡ true → found_at rule content path address ≡ None

  abbrev Stands : Place → Path → Type 0
  Stands place path = (address : ℕ) → found_at rule content path address ≡ found_of rule content place address

  abbrev places : List Place
  places = map (λ (f : PlaceFound A). f.place) are.found

  both : ((path : Path) → is_in_scope dir below path ≡ true → PlaceWith Stands places path) × All (PathWith Stands dir below) places
  both = tell content Stands (λ path address. refl) (λ root path home lacks address. as_others rule asks content path address root home lacks) dir below places are.places

  all_nothing : sections ≡ [] → IsNothing
  all_nothing none address path fits inside =
      let place = both.0 path inside in
      let own = found_from are.found place.place place.listed.0 place.listed.1 place.listed.2 in
      let empties = nothing_found are.found (sym are.are ∙ none) in
      let empty = empty_of own.found (All-contains (λ one. has_some one ≡ false) are.found own.found (All-from_recursion (λ one. has_some one ≡ false) are.found empties) own.there) in
      let at : AreFoundAt rule content own.found = All-contains (AreFoundAt rule content) are.found own.found are.each own.there in
      place.stands address ∙ ap (λ p. found_of rule content p address) (sym own.is) ∙ (law (found_of rule content own.found.place) own.found.ranges at).0 empty address fits

  none_found : IsNothing → sections ≡ []
  none_found nothing =
      let own : (one : PlaceFound A) → Contains are.found one → has_some one ≡ false = λ one there.
      let path : PathWith Stands dir below one.place = All-contains (PathWith Stands dir below) places one.place both.1 (contains_map (λ (f : PlaceFound A). f.place) are.found one there) in
      let at : AreFoundAt rule content one = All-contains (AreFoundAt rule content) are.found one are.each there in
      none_of one ((law (found_of rule content one.place) one.ranges at).1
      (λ address fits. sym (path.stands address) ∙ nothing address path.path fits path.inside)) in
      are.are ∙ all_empty are.found (each are.found (λ one there. own one there))
    where
      each : (all : List (PlaceFound A)) → ((one : PlaceFound A) → Contains all one → has_some one ≡ false) → AllByRecursion (λ one. has_some one ≡ false) all
      each [] none = tt
      each (one ∷ all) none = (none one (contains_first one all), each all (λ other there. none other (contains_later one all other there)))

pub no_section_is_nothing_found : {A : Type 0} → NoRunIsNoValue A → NoSectionIsNothingFound A
no_section_is_nothing_found law rule content dir below sections asks are =
    (all_nothing law rule asks content dir below sections are, none_found law rule asks content dir below sections are)
