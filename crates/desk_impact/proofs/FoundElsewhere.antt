-- What is found for a path where no line that writes it matches is what is found for all paths there that no line writes.
use Rattle.std.proofs.Common.{◌≡◌, ℕ, true, false, List, [], ◌∷◌, refl, sym, ap, ◌∙◌, inl, inr}
use Rattle.std.specs.Prelude.{Option, Some, None}
use Rattle.std.specs.List.{AllByRecursion, list_all}
use Rattle.std.proofs.lemmas.Bool.{and_parts, cases_Bool, or_parts, true≢false}
use Rattle.std.proofs.lemmas.List.Folds.{list_all-append, list_any-append}
use Rattle.desk_text.specs.Path.{is_under, same_path}
use Rattle.desk_tables.specs.FileSystems.{fs_of, mount_points}
use Rattle.desk_policy.specs.Policy.{Content, rows_of}
use Rattle.desk_policy.specs.Verdict.{is_directory_among, lists}
use Rattle.desk_policy.specs.Weights.{weight_of}
use Rattle.desk_policy.specs.declared.row.Row.{Row}
use Rattle.desk_who.specs.Searching.{AsksThoseThatMatch, Rule, found_at, found_in}
use Rattle.desk_who.proofs.Asked.{AgreeAt}
use Rattle.desk_impact.specs.Places.{Others, all_written, dirs_of_both, is_home, mounts_of_both}
use Rattle.desk_impact.specs.Sections.{found_elsewhere, found_of}
use Rattle.desk_impact.proofs.Elsewhere.{LacksPath, by_alldirs, lack, lacks_rows, same_above, same_fs}
use Rattle.desk_impact.proofs.Same.{Path}
use Rattle.desk_impact.proofs.Under.{is_above}

-- a line that writes the path does not match
abbrev pub IsSilent : Path → ℕ → Row → Type 0
IsSilent path address row = is_directory_among path row.entry.dirs ≡ true → weight_of row address ≡ None

silent_if_unwritten : (path : Path) (address : ℕ) (rows : List Row) → AllByRecursion (LacksPath path) rows → AllByRecursion (IsSilent path address) rows
unfolding LacksPath
silent_if_unwritten path address [] lacks = tt
silent_if_unwritten path address (row ∷ rows) lacks = (λ writes. absurd (true≢false (sym writes ∙ lacks.0)), silent_if_unwritten path address rows lacks.1)

module _ {A : Type 0} (rule : Rule A) (asks : AsksThoseThatMatch rule) (content : Content) (path : Path) (address : ℕ) where
  agree : (fs : ℕ) → fs_of content.table path ≡ Some fs → (row : Row) → IsSilent path address row → AgreeAt (lists content fs path) (λ one. one.entry.alldirs) address row
  unfolding LacksPath
  agree fs home row silent =
      elim (cases_Bool (is_directory_among path row.entry.dirs)) as (λ _. AgreeAt (lists content fs path) (λ one. one.entry.alldirs) address row) [
        | inl writes ↦ inl (silent writes)
        | inr lacks ↦ inr (by_alldirs content fs path home row lacks)
      ]

  all_agree : (fs : ℕ) → fs_of content.table path ≡ Some fs → (rows : List Row) → AllByRecursion (IsSilent path address) rows → AllByRecursion (AgreeAt (lists content fs path) (λ one. one.entry.alldirs) address) rows
  all_agree fs home [] silent = tt
  all_agree fs home (row ∷ rows) silent = (agree fs home row silent.0, all_agree fs home rows silent.1)

  in_fs : (fs : Option ℕ) → fs_of content.table path ≡ fs → ((own : ℕ) → AllByRecursion (IsSilent path address) (rows_of content own)) → found_in rule content path fs address ≡ found_elsewhere rule content fs address
  in_fs None home silent = refl
  in_fs (Some fs) home silent = asks (record { 0 = fs }) (lists content fs path) (λ one. one.entry.alldirs) (rows_of content fs) address (all_agree fs home (rows_of content fs) (silent fs))

  pub outside : ((own : ℕ) → AllByRecursion (IsSilent path address) (rows_of content own)) → found_at rule content path address ≡ found_elsewhere rule content (fs_of content.table path) address
  outside silent = in_fs (fs_of content.table path) refl silent

  -- so it is for a path at home at a mount point that no line writes
  pub as_others : (mount : Path) → is_home (mounts_of_both content content) path mount ≡ true → is_directory_among path (dirs_of_both content content) ≡ false
      → found_at rule content path address ≡ found_of rule content (Others mount) address
  as_others mount home lacks =
      let mounts = mount_points content.table in
      let p = and_parts (is_under path mount) (list_all (is_above path mount) (mounts_of_both content content)) home in
      let above = and_parts (list_all (is_above path mount) mounts) (list_all (is_above path mount) mounts) (sym (list_all-append (is_above path mount) mounts mounts) ∙ p.1) in
      let dirs = or_parts (is_directory_among path (all_written content)) (is_directory_among path (all_written content))
      (sym (list_any-append (λ dir. same_path dir path) (all_written content) (all_written content)) ∙ lacks) in
      outside (λ own. silent_if_unwritten path address (rows_of content own) (lack path (rows_of content own) (lacks_rows path content.rows own dirs.0)))
      ∙ ap (λ fs. found_elsewhere rule content fs address) (same_fs path mount content.table (same_above path mount p.0 content.table above.0))
