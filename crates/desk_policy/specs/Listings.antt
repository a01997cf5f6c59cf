-- What a client may mount: of each file system the directories, and on what terms. (showmount(8), in this project's own
-- form)
use Rattle.std.specs.Prelude.{◌≡◌, ◌↔◌, ℕ, ◌==◌, ◌&&◌, Bool, true, List, [], ◌∷◌, Option, Some, None, IsOk, filter, map, option_and_then, if◌then◌else◌}
use Rattle.std.specs.List.{AllByRecursion, filter_map, flat_map, list_any}
use Rattle.desk_text.specs.Path.{same_path}
use Rattle.desk_tables.specs.FileSystems.{fs_of, is_before}
use Rattle.desk_policy.specs.Policy.{Content, rows_of}
use Rattle.desk_policy.specs.Verdict.{is_directory_among, lists, verdict_of}
use Rattle.desk_policy.specs.Weights.{selected}
use Rattle.desk_policy.specs.declared.listings.Shown.{Shown}
use Rattle.desk_policy.specs.declared.row.Row.{Row}

-- paths in order with one more in its place, unless it is there already
abbrev pub put_path : List (List ℕ) → List (List (List ℕ)) → List (List (List ℕ))
put_path path [] = path ∷ []
put_path path (first ∷ others) =
    if is_before path first then path ∷ first ∷ others
    else (if same_path path first then first ∷ others
    else first ∷ put_path path others)

-- paths in byte order of their printed forms, without duplicates
abbrev pub in_order : List (List (List ℕ)) → List (List (List ℕ))
in_order [] = []
in_order (path ∷ paths) = put_path path (in_order paths)

-- the directories that lines write
abbrev pub written : List Row → List (List (List ℕ))
written rows = flat_map (λ row. row.entry.dirs) rows

-- the directories that a file system's lines write and one of these lines lists
abbrev pub listed : Content → ℕ → List Row → List (List (List ℕ))
listed content fs chosen = filter (λ path. list_any (lists content fs path) chosen) (written (rows_of content fs))

-- What is shown of a file system of which these lines are selected: the directories that any of its lines writes and a
-- selected line lists; whether a selected line has -alldirs; the terms, which all selected lines of a policy in force
-- have; and the selected lines. Nothing is shown if none is selected.
abbrev pub shown_of_selected : Content → ℕ → List Row → Option Shown
shown_of_selected content fs [] = None
shown_of_selected content fs (first ∷ others) = Some (record {
  fs = record { 0 = fs };
  dirs = in_order (listed content fs (first ∷ others));
  alldirs = list_any (λ row. row.entry.alldirs) (first ∷ others);
  terms = first.entry.terms;
  lines = map (λ row. row.entry.line) (first ∷ others);
})

-- what is shown of a file system to a client
abbrev pub shown_of_system : Content → ℕ → ℕ → Option Shown
shown_of_system content address fs = shown_of_selected content fs (selected (rows_of content fs) address)

-- what is shown of a mount point's file system to a client
abbrev pub shown_of_mount : Content → ℕ → List (List ℕ) → Option Shown
shown_of_mount content address mount = option_and_then (shown_of_system content address) (fs_of content.table mount)

-- the listing for a client, by mount point
unfoldable pub listing_of : Content → ℕ → List Shown
listing_of content address = filter_map (λ mount. shown_of_mount content address mount.path) content.table

-- the path is shown of this file system
abbrev pub shows : ℕ → List (List ℕ) → Shown → Bool
shows fs path shown = (shown.fs.0 == fs) && is_directory_among path shown.dirs

-- a line of the file system writes the path
abbrev pub is_written : Content → ℕ → List (List ℕ) → Bool
is_written content fs path = is_directory_among path (written (rows_of content fs))

-- The lines of each file system write only its own directories.
abbrev pub WriteTheirOwn : Content → Type 0
WriteTheirOwn content = (fs : ℕ) → AllByRecursion (λ dir. fs_of content.table dir ≡ Some fs) (written (rows_of content fs))

-- A directory is shown to a client of its own file system exactly if a line of that file system writes it and a mount of it is
-- granted to that client.
abbrev pub ListedAreGranted : Type 0
ListedAreGranted =
    (content : Content) (address fs : ℕ) (path : List (List ℕ)) → fs_of content.table path ≡ Some fs
    → list_any (shows fs path) (listing_of content address) ≡ true ↔ ((is_written content fs path ≡ true) × IsOk (verdict_of content address path))

-- If the lines of each file system write only its own directories, a listing shows of each only its own.
abbrev pub ListingsShowTheirOwn : Type 0
ListingsShowTheirOwn =
    (content : Content) (address : ℕ) → WriteTheirOwn content → AllByRecursion (λ shown. AllByRecursion (λ dir. fs_of content.table dir ≡ Some shown.fs.0) shown.dirs) (listing_of content address)

-- a listing shows the path, of whichever file system
abbrev pub is_shown : List (List ℕ) → List Shown → Bool
is_shown path listing = list_any (λ shown. is_directory_among path shown.dirs) listing

-- a line of the path's file system writes it, and a mount of it is granted to the client
pub record IsWrittenAndGranted (content : Content) (address : ℕ) (path : List (List ℕ)) : Type 0 where
  pub fs : ℕ
  pub home : fs_of content.table path ≡ Some fs
  pub by_line : is_written content fs path ≡ true
  pub granted : IsOk (verdict_of content address path)

-- If the lines of each file system write only its own directories, a listing shows a directory exactly if a line of the
-- directory's file system writes it and a mount of it is granted to the client.
abbrev pub ListingsShowWhatIsGranted : Type 0
ListingsShowWhatIsGranted =
    (content : Content) (address : ℕ) (path : List (List ℕ)) → WriteTheirOwn content → is_shown path (listing_of content address) ≡ true ↔ IsWrittenAndGranted content address path
