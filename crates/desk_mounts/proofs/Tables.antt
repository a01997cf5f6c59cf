-- The table of different mount points is the one of all that are given.
use Rattle.std.proofs.Common.{◌≡◌, ◌<◌, ℕ, true, List, [], ◌∷◌, ap, length, map, refl, subst, sym, ◌∙◌}
use Rattle.std.proofs.lemmas.List.{length-map}
use Rattle.std.proofs.lemmas.List.Elements.{All-contains_itself}
use Rattle.std.proofs.lemmas.List.Folds.{list_any-from_Any}
use Rattle.std.proofs.lemmas.Slice.Eq.{bytes_eq-Decides}
use Rattle.std.specs.List.{All, Contains, list_any}
use Rattle.desk_text.specs.Path.{IsPath, are_printed_alike, path_text}
use Rattle.desk_tables.specs.FileSystems.{IsTableOf, TooMany, mount_points, unkept}
use Rattle.desk_tables.specs.Laws.{TableIsUnique}
use Rattle.desk_tables.specs.declared.filesystems.Mount.{Mount}
use Rattle.desk_mounts.specs.Table.{TooManyBy}

abbrev Paths : Type 0
Paths = List (List (List ℕ))

points_of_unkept : (paths : Paths) → mount_points (map unkept paths) ≡ paths
points_of_unkept [] = refl
points_of_unkept (path ∷ paths) = ap (λ ps. path ∷ ps) (points_of_unkept paths)

-- a path is printed as one of those among which it is
listed_itself : (paths : Paths) (path : List (List ℕ)) → Contains paths path → list_any (are_printed_alike path) paths ≡ true
listed_itself paths path (k, inside, is) =
    let alike : are_printed_alike path path ≡ true = (bytes_eq-Decides (path_text path) (path_text path)).1 refl in
    list_any-from_Any (are_printed_alike path) paths (k, path, inside, is, alike)

module _ (unique : TableIsUnique) (given kept : Paths) (paths : All IsPath kept) (of_given : IsTableOf given (map unkept kept)) where
  of_itself : IsTableOf kept (map unkept kept)
  of_itself = record {
    listed = subst (λ ps. All (λ path. list_any (are_printed_alike path) ps ≡ true) kept) (sym (points_of_unkept kept)) (λ k d inside. listed_itself kept _ (All-contains_itself kept k d inside));
    only = subst (λ ps. All (Contains kept) ps) (sym (points_of_unkept kept)) (λ k d inside. All-contains_itself kept k d inside);
    ascending = of_given.ascending;
    unkept = of_given.unkept;
    unguarded = of_given.unguarded;
    unwritten = of_given.unwritten;
  }

  -- the table of the different ones
  pub same_table : (table : List Mount) → IsTableOf kept table → IsTableOf given table
  same_table table of_kept = subst (IsTableOf given) (unique kept (map unkept kept) table paths of_itself of_kept) of_given

  pub too_many : TooMany kept → TooManyBy given (length kept)
  too_many none =
      let same : none.table ≡ map unkept kept = unique kept none.table (map unkept kept) paths none.is_table of_itself in
      let counted : length (map unkept kept) ≡ length kept = length-map kept unkept in
      record {
        table = map unkept kept;
        is_table = of_given;
        counted = counted;
        many = subst (λ n. 256 < n) (ap length same ∙ counted) none.many;
      }
