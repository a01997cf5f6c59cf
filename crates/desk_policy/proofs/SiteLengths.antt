-- The texts of a site are within a limit exactly if each file is, and each value of the map of exports files.
use Rattle.std.proofs.Common.{◌≡◌, ◌≤◌, ℕ, Bool, true, false, Decides, List, Option, Some, None, String, arith, get_or, length, subst, sym, unwrap_or, ◌∙◌}
use Rattle.std.specs.BTreeMap.{BTreeMap, get_by_text, IsOrdered, values}
use Rattle.std.specs.List.{AllPass, list_all}
use Rattle.std.specs.Option.{IfSome}
use Rattle.std.specs.String.{string_bytes, string_cmp, string_cmp_total}
use Rattle.std.proofs.lemmas.Bool.{le-leb, leb-true, true≢false}
use Rattle.std.proofs.lemmas.List.Folds.{list_all-map}
use Rattle.std.proofs.lemmas.List.Sums.{AllPass-from_list_all, list_all-from_AllPass}
use Rattle.std.proofs.lemmas.Map.Entries.{All-lookup, btree_map_get_place}
use Rattle.std.proofs.lemmas.Option.{slice_get-get_or}
use Rattle.desk_policy.specs.PerSite.{of_file}
use Rattle.desk_policy.specs.PrivateSite.{are_files_within, has_body_within, is_within}
use Rattle.desk_policy.specs.Site.{HaveLengthsWithin, no_exports, texts_of}
use Rattle.desk_policy.specs.SiteFile.{all_files}
use Rattle.desk_policy.specs.declared.site.ExportsText.{ExportsText}
use Rattle.desk_policy.specs.declared.site.Site.{Site}
use Rattle.desk_policy.specs.declared.site_file.SiteFile.{SiteFile}
use Rattle.desk_policy.specs.declared.site_file.SiteFile.TheVariants.{Custodians, Filesystems, Group, Hosts, Netgroup, Networks, Passwd}

found_fits : (limit : ℕ) (found : Option ExportsText) → IfSome found (λ text. has_body_within limit text ≡ true) → length (unwrap_or found no_exports).body ≤ limit
found_fits limit None fits = omega arith
found_fits limit (Some text) fits = leb-true (length text.body) limit fits

module _ {Y : Type 0} (limit : ℕ) (exports : BTreeMap (String Y) ExportsText) where
  abbrev EachFits : Type 0
  EachFits = (mount : List ℕ) → length (unwrap_or (get_by_text exports mount) no_exports).body ≤ limit

  values_fit : list_all (has_body_within limit) (values exports) ≡ true → EachFits
  values_fit all mount =
      let each = AllPass-from_list_all (λ e. has_body_within limit e.1) exports.entries (sym (list_all-map (has_body_within limit) (λ e. e.1) exports.entries) ∙ all) in
      found_fits limit (get_by_text exports mount) (All-lookup (λ text. has_body_within limit text ≡ true) _ exports.entries each)

  fit_values : IsOrdered string_cmp exports → EachFits → list_all (has_body_within limit) (values exports) ≡ true
  fit_values ordered fits =
      list_all-map (has_body_within limit) (λ e. e.1) exports.entries ∙ list_all-from_AllPass (λ e. has_body_within limit e.1) exports.entries (λ i d below.
      let entry = get_or exports.entries i d in
      let found = btree_map_get_place string_cmp_total exports i entry.0 entry.1 ordered (slice_get-get_or exports.entries i d below) in
      le-leb (length entry.1.body) limit (subst (λ (o : Option ExportsText). length (unwrap_or o no_exports).body ≤ limit) found (fits (string_bytes entry.0))))

module _ (limit : ℕ) (site : Site) where
  abbrev fits : SiteFile → Bool
  fits file = is_within limit (of_file site.files file)

  files_fit : HaveLengthsWithin limit (texts_of site) → are_files_within limit site.files ≡ true
  files_fit texts = list_all-from_AllPass fits all_files (λ i d below. le-leb _ _ (texts.files (get_or all_files i d)))

  -- each of the files has its place among all
  one_fits : AllPass fits all_files → (file : SiteFile) → fits file ≡ true
  one_fits all Custodians = all 0 Custodians (omega arith)
  one_fits all Filesystems = all 1 Custodians (omega arith)
  one_fits all Hosts = all 2 Custodians (omega arith)
  one_fits all Networks = all 3 Custodians (omega arith)
  one_fits all Passwd = all 4 Custodians (omega arith)
  one_fits all Group = all 5 Custodians (omega arith)
  one_fits all Netgroup = all 6 Custodians (omega arith)

  texts_fit : are_files_within limit site.files ≡ true → EachFits limit site.exports → HaveLengthsWithin limit (texts_of site)
  texts_fit files exports = record {
    files = λ file. leb-true _ _ (one_fits (AllPass-from_list_all fits all_files files) file);
    exports = exports;
  }

  -- no file is too long: it depends on the exports files
  pub by_exports : (fit : Bool) → are_files_within limit site.files ≡ true → fit ≡ list_all (has_body_within limit) (values site.exports) → IsOrdered string_cmp site.exports
      → Decides fit (HaveLengthsWithin limit (texts_of site))
  by_exports fit files is ordered =
      (λ yes. texts_fit files (values_fit limit site.exports (sym is ∙ yes)), λ texts. is ∙ fit_values limit site.exports ordered (texts.exports))

  -- a file is too long
  pub too_long : (fit : Bool) → fit ≡ are_files_within limit site.files → fit ≡ false → Decides fit (HaveLengthsWithin limit (texts_of site))
  too_long fit is none = (λ yes. absurd (true≢false (sym yes ∙ none)), λ texts. is ∙ files_fit texts)
