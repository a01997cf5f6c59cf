-- Each place of a mount point is in its file system.
use Rattle.std.proofs.Common.{◌≡◌, ◌∙◌, ℕ, ◌++◌, true, List, [], ◌∷◌, ap, get_or, inl, inr, map, refl, sym}
use Rattle.std.specs.Prelude.{All, Contains, None, Option, Some, not, slice_get}
use Rattle.std.specs.Option.{option_map}
use Rattle.std.proofs.lemmas.Bool.{eqb-true, true≢false}
use Rattle.std.proofs.lemmas.List.Elements.{All-append, All-cons, All-filter, All-map, All-nil, Contains-append_cases}
use Rattle.std.proofs.lemmas.Option.{get_or_from_slice_get, same_Some, slice_get_within}
use Rattle.desk_text.specs.Path.{same_path}
use Rattle.desk_tables.specs.FileSystems.{AreAscending, fs_of}
use Rattle.desk_tables.specs.declared.filesystems.Mount.{Mount}
use Rattle.desk_policy.specs.Listings.{written}
use Rattle.desk_policy.specs.Policy.{Content, rows_of}
use Rattle.desk_policy.specs.Verdict.{is_in}
use Rattle.desk_impact.specs.Places.{AreInOrder, Directory, Others, Place}
use Rattle.desk_impact.specs.PrivatePlaces.{path_of}
use Rattle.desk_impact.proofs.Same.{Path}
use Rattle.page_data.proofs.Grouped.{kept_in}
use Rattle.page_data.proofs.Homes.{own_home}
use Rattle.page_places.specs.Directories.{below, own_dirs, own_of, places_with}

-- ---- a mount point is in its own file system
mount_home_of : (table : List Mount) (fs : ℕ) (found : Option Mount) (mount : Path) → slice_get table fs ≡ found → option_map (λ (one : Mount). one.path) found ≡ Some mount → AreAscending table → fs_of table mount ≡ Some fs
mount_home_of table fs None mount at is up = absurd (cc)
mount_home_of table fs (Some one) mount at is up =
    let path = same_Some one.path mount is in
    ap (fs_of table) (sym path) ∙ own_home table up fs one (slice_get_within table fs one at) (get_or_from_slice_get table fs one one at)

pub mount_home : (table : List Mount) → AreAscending table → (fs : ℕ) (mount : Path) → option_map (λ (one : Mount). one.path) (slice_get table fs) ≡ Some mount → fs_of table mount ≡ Some fs
mount_home table up fs mount is = mount_home_of table fs (slice_get table fs) mount refl is up

-- ---- the places of a mount point
in_place : (found : Option ℕ) (fs : ℕ) → is_in found fs ≡ true → found ≡ Some fs
in_place None fs is = absurd (true≢false (sym is))
in_place (Some own) fs is = ap Some (eqb-true own fs is)

module _ (before after : Content) (fs : ℕ) where
  abbrev IsHere : Path → Type 0
  IsHere path = fs_of before.table path ≡ Some fs

  own_here : (dirs : List Path) (dir : Path) → Contains (own_of before.table fs dirs) dir → IsHere dir
  own_here dirs dir has = in_place (fs_of before.table dir) fs (kept_in (λ one. is_in (fs_of before.table one) fs) dirs dir has).1

  either_here : (dir : Path) → Contains (own_dirs before after fs) dir → IsHere dir
  either_here dir has =
      elim (Contains-append_cases (own_of before.table fs (written (rows_of before fs))) (own_of before.table fs (written (rows_of after fs))) dir has) as (λ _. IsHere dir) [
        | inl old ↦ own_here (written (rows_of before fs)) dir old
        | inr new ↦ own_here (written (rows_of after fs)) dir new
      ]

  dirs_here : (dirs : List Path) → AreInOrder (own_dirs before after fs) dirs → All IsHere dirs
  dirs_here dirs order k d inside = either_here (get_or dirs k d) (order.only k d inside)

  pub places_here : (mount : Path) (dirs : List Path) → IsHere mount → AreInOrder (own_dirs before after fs) dirs → All (λ place. IsHere (path_of place)) (places_with mount dirs)
  places_here mount dirs home order =
      let here : Place → Type 0 = λ place. IsHere (path_of place) in
      All-cons here (Directory mount) (map Directory (below mount dirs) ++ Others mount ∷ []) home
      (All-append here (map Directory (below mount dirs)) (Others mount ∷ [])
      (All-map here Directory (below mount dirs) (All-filter (λ dir. not (same_path dir mount)) IsHere dirs (dirs_here dirs order)))
      (All-cons here (Others mount) [] home (All-nil here)))
