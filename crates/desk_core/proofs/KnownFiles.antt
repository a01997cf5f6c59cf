-- For the laws `known_files_are_listed` and `guarded_files_are_marked`: the mount point whose exports file a file is.
use Rattle.std.proofs.Common.{◌≡◌, ◌∙◌, sym, ap, refl, inl, inr, ℕ, ◌<◌, ◌++◌, Bool, true, false, cond, List, [], ◌∷◌, Option, Some, None, codes, get_or, length, arith}
use Rattle.std.specs.Prelude.{is_some, nat_lt, position, slice_get}
use Rattle.std.specs.List.{position_or_len}
use Rattle.std.specs.Option.{option_map_or}
use Rattle.std.specs.Str.{bytes_eq}
use Rattle.std.proofs.lemmas.Bool.{cases_Bool, false≢true, ltb-false}
use Rattle.std.proofs.lemmas.List.Quantifiers.{position-Some}
use Rattle.std.proofs.lemmas.List.Sums.{fails_before_first}
use Rattle.std.proofs.lemmas.Option.{get_or_from_slice_get, slice_get-get_or}
use Rattle.std.proofs.lemmas.Slice.Eq.{bytes_eq-Decides}
use Rattle.desk_text.specs.Path.{path_text}
use Rattle.desk_tables.specs.FileSystemsText.{is_guarded}
use Rattle.desk_tables.specs.declared.filesystems.Mount.{Mount}
use Rattle.desk_policy.specs.SiteFault.{exports_name}
use Rattle.desk_policy.specs.SiteFile.{exports_place, is_of_seven}
use Rattle.desk_core.specs.Laws.{GuardedFilesAreMarked, IsExportsOf, KnownFilesAreListed}

abbrev is_named : List ℕ → Mount → Bool
is_named file mount = bytes_eq (exports_name mount.path) file

-- the mount point at the place of a file
at_place : (table : List Mount) (file : List ℕ) (at : ℕ) → exports_place table file ≡ Some at → (mount : Mount) × IsExportsOf table mount file × (slice_get table at ≡ Some mount)
at_place [] file at is = absurd (cc)
at_place (first ∷ table) file at is =
    let found = position-Some (is_named file) (first ∷ table) at first is in
    let mount : Mount = get_or (first ∷ table) at first in
    let own : slice_get (first ∷ table) at ≡ Some mount = slice_get-get_or (first ∷ table) at first found.0 in
    (mount, ((at, found.0, get_or_from_slice_get (first ∷ table) at mount mount own), sym ((bytes_eq-Decides (exports_name mount.path) file).0 found.1)), own)

-- a test that one passes has a first that does
has_first : (p : Mount → Bool) (xs : List Mount) (k : ℕ) (d : Mount) → k < length xs → p (get_or xs k d) ≡ true → is_some (position p xs) ≡ true
has_first p xs k d below passes =
    let n : ℕ = position_or_len p xs in
    elim (cases_Bool (nat_lt n (length xs))) [
      | inl within ↦ ap (λ (b : Bool). is_some (cond b (Some n) None)) within
      | inr past ↦ absurd (false≢true (sym (fails_before_first p xs k d (let end = ltb-false n (length xs) past in omega (arith, below, end))) ∙ passes))
    ]

placed : (table : List Mount) (mount : Mount) (file : List ℕ) → IsExportsOf table mount file → is_some (exports_place table file) ≡ true
placed table mount file ((k, below, at), is) =
    has_first (is_named file) table k mount below (ap (is_named file) at ∙ (bytes_eq-Decides (exports_name mount.path) file).1 (sym is))

or_known : (b c : Bool) → c ≡ true → cond b true c ≡ true
or_known true c h = refl
or_known false c h = h

listed : (table : List Mount) (file : List ℕ) (place : Option ℕ) → exports_place table file ≡ place → is_some place ≡ true → (mount : Mount) × IsExportsOf table mount file
listed table file None is h = absurd (cc)
listed table file (Some at) is h = let found = at_place table file at is in (found.0, found.1)

pub known_files_are_listed : KnownFilesAreListed
known_files_are_listed table file =
    let rest : Bool = is_some (exports_place table file) in (
      λ known. elim (cases_Bool (is_of_seven file)) [
        | inl own ↦ inl own
        | inr other ↦ inr (listed table file (exports_place table file) refl (sym (ap (λ b. cond b true rest) other) ∙ known))
      ],
      λ either. elim either [
        | inl own ↦ ap (λ b. cond b true rest) own
        | inr of ↦ or_known (is_of_seven file) rest (placed table of.0 file of.1)
      ],
    )

not_of_seven : (rest : List ℕ) → is_of_seven (codes "exports:" ++ rest) ≡ false
not_of_seven rest = refl

pub guarded_files_are_marked : GuardedFilesAreMarked
guarded_files_are_marked table file guarded = by_place (exports_place table file) refl guarded
  where
    by_place : (place : Option ℕ) → exports_place table file ≡ place → option_map_or (is_guarded table) place false ≡ true
        → (is_of_seven file ≡ false) × ((mount : Mount) × IsExportsOf table mount file × (mount.guarded ≡ true))
    by_place None is h = absurd (cc)
    by_place (Some at) is h =
        let found = at_place table file at is in
        let mount : Mount = found.0 in
        let marked : mount.guarded ≡ true = sym (ap (λ o. option_map_or (λ (m : Mount). m.guarded) o false) found.2) ∙ h in
        (ap is_of_seven found.1.1 ∙ not_of_seven (path_text mount.path), (mount, found.1, marked))
