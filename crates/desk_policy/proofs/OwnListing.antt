-- A listing shows of each file system only its own directories, and so just what is written and granted.
use Rattle.std.proofs.Common.{◌≡◌, ℕ, ◌&&◌, Bool, true, List, [], ◌∷◌, Option, Some, None, sym, ◌∙◌, ap, refl, inl, inr}
use Rattle.std.specs.Prelude.{option_and_then}
use Rattle.std.specs.List.{AllByRecursion, cons_option, filter_map, list_any}
use Rattle.std.proofs.lemmas.Bool.{and_from, and_parts, eq-eqb, or_cases, or_left, or_right}
use Rattle.desk_text.specs.Path.{same_path}
use Rattle.desk_tables.specs.FileSystems.{fs_of}
use Rattle.desk_tables.specs.declared.filesystems.Mount.{Mount}
use Rattle.desk_policy.specs.Listings.{in_order, is_shown, listed, listing_of, ListingsShowTheirOwn, ListingsShowWhatIsGranted, shown_of_mount, shown_of_selected, shown_of_system, shows, WriteTheirOwn, written}
use Rattle.desk_policy.specs.Policy.{Content, rows_of}
use Rattle.desk_policy.specs.Verdict.{is_directory_among, lists}
use Rattle.desk_policy.specs.Weights.{selected}
use Rattle.desk_policy.specs.declared.listings.Shown.{Shown}
use Rattle.desk_policy.specs.declared.row.Row.{Row}
use Rattle.desk_policy.proofs.GrantedListing.{listed_are_granted}
use Rattle.desk_policy.proofs.InOrder.{in_order_has, same_is, same_itself}
use Rattle.desk_policy.proofs.ShownLines.{among_filter}

abbrev Path : Type 0
Path = List (List ℕ)

module _ (content : Content) where
  abbrev IsIn : ℕ → Path → Type 0
  IsIn fs dir = fs_of content.table dir ≡ Some fs

  abbrev ShowsOwn : Shown → Type 0
  ShowsOwn shown = AllByRecursion (IsIn shown.fs.0) shown.dirs

  among_own : (fs : ℕ) (path : Path) (dirs : List Path) → AllByRecursion (IsIn fs) dirs → is_directory_among path dirs ≡ true → IsIn fs path
  among_own fs path [] own e = absurd (cc)
  among_own fs path (dir ∷ dirs) own e = elim (or_cases (same_path dir path) (is_directory_among path dirs) e) [
    | inl here ↦ ap (fs_of content.table) (sym (same_is dir path here)) ∙ own.0
    | inr later ↦ among_own fs path dirs own.1 later
  ]

  each_own : (fs : ℕ) (dirs : List Path) → ((dir : Path) → is_directory_among dir dirs ≡ true → IsIn fs dir) → AllByRecursion (IsIn fs) dirs
  each_own fs [] h = tt
  each_own fs (dir ∷ dirs) h = (
    h dir (or_left (same_path dir dir) (is_directory_among dir dirs) (same_itself dir)),
    each_own fs dirs (λ other e. h other (or_right (same_path dir other) (is_directory_among other dirs) e)),
  )

  -- ---- each directory is in the file system that it is shown of

  abbrev ShowsOwnIfAny : Option Shown → Type 0
  ShowsOwnIfAny None = Unit {0}
  ShowsOwnIfAny (Some shown) = ShowsOwn shown

  one_more : (o : Option Shown) (more : List Shown) → ShowsOwnIfAny o → AllByRecursion ShowsOwn more → AllByRecursion ShowsOwn (cons_option o more)
  one_more None more own others = others
  one_more (Some shown) more own others = (own, others)

  module _ (own : WriteTheirOwn content) where
    by_lines : (fs : ℕ) (chosen : List Row) → ShowsOwnIfAny (shown_of_selected content fs chosen)
    by_lines fs [] = tt
    by_lines fs (first ∷ others) =
        let all : List Path = written (rows_of content fs) in
        let passes : Path → Bool = λ dir. list_any (lists content fs dir) (first ∷ others) in
        let both : (dir : Path) → is_directory_among dir (in_order (listed content fs (first ∷ others))) ≡ (is_directory_among dir all && passes dir) =
        λ dir. in_order_has dir (listed content fs (first ∷ others)) ∙ among_filter passes dir all in
        each_own fs (in_order (listed content fs (first ∷ others))) (λ dir e. among_own fs dir all (own fs) (and_parts (is_directory_among dir all) (passes dir) (sym (both dir) ∙ e)).0)

    by_mount : (address : ℕ) (o : Option ℕ) → ShowsOwnIfAny (option_and_then (shown_of_system content address) o)
    by_mount address None = tt
    by_mount address (Some fs) = by_lines fs (selected (rows_of content fs) address)

    of_mounts : (address : ℕ) (mounts : List Mount) → AllByRecursion ShowsOwn (filter_map (λ mount. shown_of_mount content address mount.path) mounts)
    of_mounts address [] = tt
    of_mounts address (mount ∷ mounts) =
        one_more (shown_of_mount content address mount.path) (filter_map (λ m. shown_of_mount content address m.path) mounts) (by_mount address (fs_of content.table mount.path)) (of_mounts address mounts)

  -- ---- a path is shown of its own file system if it is shown at all

  module _ (path : Path) where
    abbrev has : Shown → Bool
    has shown = is_directory_among path shown.dirs

    shown_anywhere : (fs : ℕ) (listing : List Shown) → list_any (shows fs path) listing ≡ true → is_shown path listing ≡ true
    shown_anywhere fs [] e = absurd (cc)
    shown_anywhere fs (shown ∷ more) e = elim (or_cases (shows fs path shown) (list_any (shows fs path) more) e) [
      | inl here ↦ or_left (has shown) (is_shown path more) (and_parts _ (has shown) here).1
      | inr later ↦ or_right (has shown) (is_shown path more) (shown_anywhere fs more later)
    ]

    record IsShownAtHome (listing : List Shown) : Type 0 where
      fs : ℕ
      home : IsIn fs path
      shown : list_any (shows fs path) listing ≡ true

    shown_at_home : (listing : List Shown) → AllByRecursion ShowsOwn listing → is_shown path listing ≡ true → IsShownAtHome listing
    shown_at_home [] own e = absurd (cc)
    shown_at_home (shown ∷ more) own e = elim (or_cases (has shown) (is_shown path more) e) [
      | inl here ↦
          let fs = shown.fs.0 in
          record { fs = fs; home = among_own fs path shown.dirs own.0 here; shown = or_left (shows fs path shown) (list_any (shows fs path) more) (and_from _ (has shown) (eq-eqb fs fs refl) here) }
      | inr later ↦
          let found = shown_at_home more own.1 later in
          record { fs = found.fs; home = found.home; shown = or_right (shows found.fs path shown) (list_any (shows found.fs path) more) found.shown }
    ]

pub listings_show_their_own : ListingsShowTheirOwn
unfolding listing_of
listings_show_their_own content address own = of_mounts content own address content.table

pub listings_show_what_is_granted : ListingsShowWhatIsGranted
listings_show_what_is_granted content address path own = (
  λ e. (let found = shown_at_home content path (listing_of content address) (listings_show_their_own content address own) e in
      let granted = (listed_are_granted content address found.fs path found.home).0 found.shown in
      record { fs = found.fs; home = found.home; by_line = granted.0; granted = granted.1 }),
  λ h. shown_anywhere content path h.fs (listing_of content address) ((listed_are_granted content address h.fs path h.home).1 (h.by_line, h.granted)),
)
