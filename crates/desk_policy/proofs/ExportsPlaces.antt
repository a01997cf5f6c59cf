-- Names of files that are not exports files of listed mount points.
use Rattle.std.proofs.Common.{◌≡◌, ◌∙◌, sym, ap, inl, inr, refl, ℕ, ◌+◌, Bool, true, false, cond, not, List, [], ◌∷◌, Some, None, length, arith}
use Rattle.std.specs.Prelude.{nat_lt, position}
use Rattle.std.specs.List.{position_or_len, prefix_len}
use Rattle.std.specs.Str.{bytes_eq}
use Rattle.std.proofs.lemmas.Bool.{cases_Bool, cond-false, le-ltb}
use Rattle.std.proofs.lemmas.Slice.Eq.{bytes_eq-Decides}
use Rattle.desk_text.specs.Path.{path_text}
use Rattle.desk_tables.specs.declared.filesystems.Mount.{Mount}
use Rattle.desk_policy.specs.SiteFile.{exports_file_name, exports_place, ExportsFilesAreNotOfTheSeven, is_of_seven, NamesNoMount, TheSevenHaveNoPlace}

none_pass : (p : Mount → Bool) (xs : List Mount) → ((x : Mount) → p x ≡ false) → prefix_len (λ x. not (p x)) xs ≡ length xs
none_pass p [] h = refl
none_pass p (x ∷ xs) h =
    let rest = none_pass p xs h in
    ap (λ b. cond (not b) (1 + prefix_len (λ y. not (p y)) xs) 0) (h x) ∙ omega (arith, rest)

no_place : (p : Mount → Bool) (xs : List Mount) → ((x : Mount) → p x ≡ false) → position p xs ≡ None
no_place p xs h =
    let all = none_pass p xs h in
    let n = position_or_len p xs in
    cond-false (nat_lt n (length xs)) (Some n) None (le-ltb n (length xs) (omega (arith, all)))

-- a name that is not that of any mount point's exports file
pub none_named : (table : List Mount) (name : List ℕ) → NamesNoMount name → exports_place table name ≡ None
none_named table name h = no_place (λ mount. bytes_eq (exports_file_name (path_text mount.path)) name) table each
  where
    each : (mount : Mount) → bytes_eq (exports_file_name (path_text mount.path)) name ≡ false
    each mount = elim (cases_Bool (bytes_eq (exports_file_name (path_text mount.path)) name)) [
      | inl same ↦ absurd (h (path_text mount.path) (sym ((bytes_eq-Decides (exports_file_name (path_text mount.path)) name).0 same)))
      | inr other ↦ other
    ]

pub not_of_the_seven : ExportsFilesAreNotOfTheSeven
not_of_the_seven mount = refl

pub no_place_of_the_seven : TheSevenHaveNoPlace
no_place_of_the_seven table name own =
    none_named table name (λ mount is. (let other : false ≡ true = sym (not_of_the_seven mount) ∙ ap is_of_seven (sym is) ∙ own in cc))
