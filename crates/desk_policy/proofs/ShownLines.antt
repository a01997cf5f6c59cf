-- What the selected lines of a file system show.
use Rattle.std.proofs.Common.{◌≡◌, ℕ, ◌&&◌, ◌||◌, Bool, true, false, cond, List, [], ◌∷◌, Option, Some, None, sym, ◌∙◌, ap, refl, inl, inr}
use Rattle.std.specs.Prelude.{filter, option_and_then}
use Rattle.std.specs.List.{list_any}
use Rattle.std.specs.Option.{option_map}
use Rattle.std.proofs.lemmas.Bool.{cases_Bool, cond-true, cond-false, or_cases, or_left, or_right, true≢false}
use Rattle.std.proofs.lemmas.List.Folds.{list_any-append}
use Rattle.desk_text.specs.Path.{same_path}
use Rattle.desk_tables.specs.FileSystems.{fs_of}
use Rattle.desk_tables.specs.declared.filesystems.FsId.{FsId}
use Rattle.desk_tables.specs.declared.filesystems.Mount.{Mount}
use Rattle.desk_exports.specs.declared.entry.Terms.{Terms}
use Rattle.desk_policy.specs.Listings.{in_order, listed, shown_of_mount, shown_of_selected, shown_of_system, written}
use Rattle.desk_policy.specs.Policy.{Content, rows_of}
use Rattle.desk_policy.specs.PrivateListings.{IsShownBy, gathered, own_dirs}
use Rattle.desk_policy.specs.PrivateWeights.{IsGreatest, has_weight}
use Rattle.desk_policy.specs.Verdict.{is_directory_among, is_in, lists}
use Rattle.desk_policy.specs.Weights.{selected}
use Rattle.desk_policy.specs.declared.listings.Shown.{Shown}
use Rattle.desk_policy.specs.declared.row.Row.{Row}
use Rattle.desk_policy.proofs.GreatestWeight.{selected-none, selected-some}
use Rattle.desk_policy.proofs.InOrder.{order_is, same_is}

abbrev Path : Type 0
Path = List (List ℕ)

-- what is among those that pass a test is there and passes it
pub among_filter : (q : Path → Bool) (d : Path) (xs : List Path) → is_directory_among d (filter q xs) ≡ (is_directory_among d xs && q d)
among_filter q d [] = refl
among_filter q d (x ∷ xs) =
    let rest = among_filter q d xs in
    elim (cases_Bool (same_path x d)) [
      | inl is ↦
          let at : q x ≡ q d = ap q (same_is x d is) in
          elim (cases_Bool (q d)) [
            | inl keep ↦
                ap (is_directory_among d) (cond-true (q x) (x ∷ filter q xs) (filter q xs) (at ∙ keep)) ∙ or_left _ _ is
                ∙ sym (ap (λ b. (b || is_directory_among d xs) && q d) is ∙ keep)
            | inr lose ↦
                ap (is_directory_among d) (cond-false (q x) (x ∷ filter q xs) (filter q xs) (at ∙ lose)) ∙ rest
                ∙ ap (λ b. is_directory_among d xs && b) lose ∙ and_false (is_directory_among d xs)
                ∙ sym (ap (λ b. (same_path x d || is_directory_among d xs) && b) lose ∙ and_false (same_path x d || is_directory_among d xs))
          ]
      | inr apart ↦
          elim (cases_Bool (q x)) [
            | inl keep ↦ ap (is_directory_among d) (cond-true (q x) (x ∷ filter q xs) (filter q xs) keep) ∙ ap (λ b. b || is_directory_among d (filter q xs)) apart ∙ rest ∙ sym (ap (λ b. (b || is_directory_among d xs) && q d) apart)
            | inr lose ↦ ap (is_directory_among d) (cond-false (q x) (x ∷ filter q xs) (filter q xs) lose) ∙ rest ∙ sym (ap (λ b. (b || is_directory_among d xs) && q d) apart)
          ]
    ]
  where
    and_false : (b : Bool) → (b && false) ≡ false
    and_false true = refl
    and_false false = refl

-- a test that either holds of a line itself, or of any line that has a flag
any_or : (a b : Row → Bool) (c : Bool) (rows : List Row) → list_any (λ row. a row || (b row && c)) rows ≡ (list_any a rows || (list_any b rows && c))
any_or a b c [] = refl
any_or a b c (row ∷ rows) = ap (λ x. (a row || (b row && c)) || x) (any_or a b c rows) ∙ join (a row) (b row) c (list_any a rows) (list_any b rows)
  where
    join : (p q c x y : Bool) → ((p || (q && c)) || (x || (y && c))) ≡ ((p || x) || ((q || y) && c))
    join true q c x y = refl
    join false true true true y = refl
    join false true true false y = refl
    join false true false x true = refl
    join false true false x false = refl
    join false false c x y = refl

among_written : (d : Path) (rows : List Row) → list_any (λ row. is_directory_among d row.entry.dirs) rows ≡ is_directory_among d (written rows)
among_written d [] = refl
among_written d (row ∷ rows) =
    ap (λ b. is_directory_among d row.entry.dirs || b) (among_written d rows)
    ∙ sym (list_any-append (λ dir. same_path dir d) row.entry.dirs (written rows))

-- the lines that pass a test write nothing that all lines do not write
pub written_filter : (p : Row → Bool) (d : Path) (rows : List Row) → is_directory_among d (written (filter p rows)) ≡ true → is_directory_among d (written rows) ≡ true
written_filter p d [] e = e
written_filter p d (row ∷ rows) e =
    let own : Bool = is_directory_among d row.entry.dirs in
    list_any-append (λ dir. same_path dir d) row.entry.dirs (written rows)
    ∙ elim (cases_Bool (p row)) [
      | inl keep ↦
          let here : (own || is_directory_among d (written (filter p rows))) ≡ true =
          sym (list_any-append (λ dir. same_path dir d) row.entry.dirs (written (filter p rows))) ∙ sym (ap (λ rs. is_directory_among d (written rs)) (cond-true (p row) (row ∷ filter p rows) (filter p rows) keep)) ∙ e in
          elim (or_cases own (is_directory_among d (written (filter p rows))) here) [
            | inl first ↦ or_left own (is_directory_among d (written rows)) first
            | inr later ↦ or_right own (is_directory_among d (written rows)) (written_filter p d rows later)
          ]
      | inr lose ↦
          or_right own (is_directory_among d (written rows))
          (written_filter p d rows (sym (ap (λ rs. is_directory_among d (written rs)) (cond-false (p row) (row ∷ filter p rows) (filter p rows) lose)) ∙ e))
    ]

module _ (content : Content) (fs : ℕ) (chosen : List Row) (within : (d : Path) → is_directory_among d (written chosen) ≡ true → is_directory_among d (written (rows_of content fs)) ≡ true) where
  among_own : (d : Path) (flag : Bool) → is_directory_among d (cond flag (own_dirs content.table fs (written (rows_of content fs))) []) ≡ (flag && (is_directory_among d (written (rows_of content fs)) && is_in (fs_of content.table d) fs))
  among_own d true = among_filter (λ dir. is_in (fs_of content.table dir) fs) d (written (rows_of content fs))
  among_own d false = refl

  join : (a b flag own : Bool) → (a ≡ true → b ≡ true) → (a || (flag && (b && own))) ≡ (b && (a || (flag && own)))
  join true true flag own h = refl
  join true false flag own h = absurd (true≢false (sym (h refl)))
  join false true flag own h = refl
  join false false true own h = refl
  join false false false own h = refl

  -- what is gathered is what is listed
  gathered_is : (d : Path) → is_directory_among d (gathered content fs chosen) ≡ is_directory_among d (listed content fs chosen)
  gathered_is d =
      let flag : Bool = list_any (λ row. row.entry.alldirs) chosen in
      let own : Bool = is_in (fs_of content.table d) fs in
      list_any-append (λ dir. same_path dir d) (written chosen) (cond flag (own_dirs content.table fs (written (rows_of content fs))) [])
      ∙ ap (λ b. is_directory_among d (written chosen) || b) (among_own d flag)
      ∙ join (is_directory_among d (written chosen)) (is_directory_among d (written (rows_of content fs))) flag own (within d)
      ∙ ap (λ b. is_directory_among d (written (rows_of content fs)) && (b || (flag && own))) (sym (among_written d chosen))
      ∙ ap (λ b. is_directory_among d (written (rows_of content fs)) && b) (sym (any_or (λ row. is_directory_among d row.entry.dirs) (λ row. row.entry.alldirs) own chosen))
      ∙ sym (among_filter (λ path. list_any (lists content fs path) chosen) d (written (rows_of content fs)))

shown_with : FsId → List Path → Bool → Terms → List ℕ → Shown
shown_with fs dirs alldirs terms lines = record { fs = fs; dirs = dirs; alldirs = alldirs; terms = terms; lines = lines }

pub shown_is : (content : Content) (fs : FsId) (chosen : List Row) → ((d : Path) → is_directory_among d (written chosen) ≡ true → is_directory_among d (written (rows_of content fs.0)) ≡ true)
    → (shown : Option Shown) → IsShownBy content fs chosen shown → shown ≡ shown_of_selected content fs.0 chosen
unfolding shown_with
shown_is content fs [] within None h = refl
shown_is content fs [] within (Some shown) h = absurd h
shown_is content fs (first ∷ others) within None h = absurd h
shown_is content fs (first ∷ others) within (Some shown) h =
    let dirs : shown.dirs ≡ in_order (listed content fs.0 (first ∷ others)) = order_is (gathered content fs.0 (first ∷ others)) (listed content fs.0 (first ∷ others)) shown.dirs h.dirs (gathered_is content fs.0 (first ∷ others) within) in
    ap Some
    (ap (λ f. shown_with f shown.dirs shown.alldirs shown.terms shown.lines) h.own_fs
    ∙ ap (λ ds. shown_with fs ds shown.alldirs shown.terms shown.lines) dirs
    ∙ ap (λ a. shown_with fs (in_order (listed content fs.0 (first ∷ others))) a shown.terms shown.lines) h.alldirs
    ∙ ap (λ t. shown_with fs (in_order (listed content fs.0 (first ∷ others))) (list_any (λ row. row.entry.alldirs) (first ∷ others)) t shown.lines) h.terms
    ∙ ap (shown_with fs (in_order (listed content fs.0 (first ∷ others))) (list_any (λ row. row.entry.alldirs) (first ∷ others)) first.entry.terms) h.lines)

-- what lines that were gathered by a test show
pub shown_of_passing : (content : Content) (fs : FsId) (p : Row → Bool) (chosen : List Row) → chosen ≡ filter p (rows_of content fs.0)
    → (shown : Option Shown) → IsShownBy content fs chosen shown → shown ≡ shown_of_selected content fs.0 (filter p (rows_of content fs.0))
shown_of_passing content fs p chosen are shown h =
    shown_is content fs chosen (λ d e. written_filter p d (rows_of content fs.0) (sym (ap (λ rs. is_directory_among d (written rs)) are) ∙ e)) shown h
    ∙ ap (shown_of_selected content fs.0) are

module _ (content : Content) (fs : ℕ) (address : ℕ) (rows : List Row) (is : rows ≡ rows_of content fs) where
  -- the lines of the greatest weight are selected
  pub shown_of_greatest : (weight : ℕ) → IsGreatest rows address (Some weight) → shown_of_selected content fs (filter (has_weight address weight) (rows_of content fs)) ≡ shown_of_system content address fs
  shown_of_greatest weight greatest =
      ap (shown_of_selected content fs) (ap (filter (has_weight address weight)) (sym is) ∙ sym (selected-some rows address weight greatest) ∙ ap (λ rs. selected rs address) is)

  pub shown_of_none : IsGreatest rows address None → None ≡ shown_of_system content address fs
  shown_of_none none = ap (shown_of_selected content fs) (sym (selected-none rows address none) ∙ ap (λ rs. selected rs address) is)

abbrev no_fs : Option FsId
no_fs = None

none_found : (o : Option ℕ) → no_fs ≡ option_map (λ i. record { 0 = i }) o → o ≡ None
none_found None e = cc
none_found (Some i) e = cc

module _ (content : Content) (address : ℕ) (mount : Path) (table : List Mount) (is : table ≡ content.table) where
  pub shown_nowhere : no_fs ≡ option_map (λ i. record { 0 = i }) (fs_of table mount) → None ≡ shown_of_mount content address mount
  shown_nowhere e = sym (ap (option_and_then (shown_of_system content address)) (ap (λ t. fs_of t mount) (sym is) ∙ none_found (fs_of table mount) e))
