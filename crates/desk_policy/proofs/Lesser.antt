-- The first line that names an unlisted custodian, with one mount point more.
use Rattle.std.proofs.Common.{◌≡◌, ◌<◌, ◌+◌, ℕ, true, false, List, [], ◌∷◌, ◌++◌, Option, Some, None, ap, arith, get_or, length, map, take, refl, sym, ◌∙◌}
use Rattle.std.specs.Prelude.{filter, min}
use Rattle.std.specs.Option.{option_map_or}
use Rattle.std.proofs.lemmas.Bool.{cond-true, cond-false}
use Rattle.std.proofs.lemmas.List.{append-nil, map-append, take_more}
use Rattle.std.proofs.lemmas.List.Elements.{filter-append}
use Rattle.desk_tables.specs.declared.custodians.Custodian.{Custodian}
use Rattle.desk_tables.specs.declared.filesystems.Mount.{Mount}
use Rattle.desk_policy.specs.UnlistedCustodians.{has_unlisted, least, unlisted_line}

abbrev pub lesser : ℕ → Option ℕ → ℕ
lesser n other = option_map_or (min n) other n

swapped : (x n : ℕ) (other : Option ℕ) → lesser x (Some (lesser n other)) ≡ lesser n (Some (lesser x other))
swapped x n None = omega arith
swapped x n (Some m) = omega arith

least_push : (ns : List ℕ) (n : ℕ) → least (ns ++ n ∷ []) ≡ Some (lesser n (least ns))
least_push [] n = refl
least_push (x ∷ ns) n = ap (λ o. Some (lesser x o)) (least_push ns n) ∙ ap (λ (k : ℕ). Some k) (swapped x n (least ns))

module _ (custodians : List Custodian) (table : List Mount) (i : ℕ) (mount : Mount) (below : i < length table) (is : mount ≡ get_or table i mount) where
  abbrev line : Mount → ℕ
  line m = m.line

  more : unlisted_line custodians (take (i + 1) table) ≡ least (map line (filter (has_unlisted custodians) (take i table)) ++ map line (filter (has_unlisted custodians) (mount ∷ [])))
  more =
      ap (unlisted_line custodians) (take_more table i mount below ∙ ap (λ m. take i table ++ m ∷ []) (sym is))
      ∙ ap (λ ms. least (map line ms)) (filter-append (has_unlisted custodians) (take i table) (mount ∷ []))
      ∙ ap least (map-append line (filter (has_unlisted custodians) (take i table)) _)

  pub one_more : has_unlisted custodians mount ≡ true → unlisted_line custodians (take (i + 1) table) ≡ Some (lesser mount.line (unlisted_line custodians (take i table)))
  one_more e =
      more ∙ ap (λ ms. least (map line (filter (has_unlisted custodians) (take i table)) ++ map line ms)) (cond-true (has_unlisted custodians mount) (mount ∷ []) [] e)
      ∙ least_push (map line (filter (has_unlisted custodians) (take i table))) mount.line

  pub none_more : has_unlisted custodians mount ≡ false → unlisted_line custodians (take (i + 1) table) ≡ unlisted_line custodians (take i table)
  none_more e =
      more ∙ ap (λ ms. least (map line (filter (has_unlisted custodians) (take i table)) ++ map line ms)) (cond-false (has_unlisted custodians mount) (mount ∷ []) [] e)
      ∙ ap least (append-nil (map line (filter (has_unlisted custodians) (take i table))))
