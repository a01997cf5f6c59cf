-- The files in the folder of a site. (this project's own)
use Rattle.std.specs.Prelude.{◌⊎◌, ℕ, ◌==◌, ◌-◌, ◌≤◌, ◌++◌, Bool, true, List, [], ◌∷◌, Option, Some, Result, Ok, Err, codes, length, map, slice_get, if◌then◌else◌}
use Rattle.std.specs.Option.{option_map_or}
use Rattle.std.specs.String.{string_bytes}
use Rattle.desk_policy.specs.SiteFile.{all_files, file_name}
use Rattle.desk_findings.specs.declared.check_site.SiteSources.{SiteSources}
use Rattle.cli_output.specs.declared.failure.Failure.{Failure}
use Rattle.cli_files.specs.Files.{HasText, LacksText, Leaves, ReadsInTurn}
use Rattle.cli_files.specs.FolderSystems.{LeavesBehind, ReadsSystemsText, systems_at}
use Rattle.cli_files.specs.declared.site_folder.SiteFiles.{SiteFiles}

-- a name may follow the path of a folder as it is: that ends with a slash, or is empty
abbrev pub needs_no_slash : List ℕ → Bool
needs_no_slash folder = option_map_or (λ b. b == 47) (slice_get folder (length folder - 1)) true

-- the path of a file in a folder; the empty path is the current folder
abbrev pub path_in : List ℕ → List ℕ → List ℕ
path_in folder name = if needs_no_slash folder then folder ++ name else folder ++ codes "/" ++ name

-- the paths of a site's files, in the order in which they are read
abbrev pub site_paths : List ℕ → List (List ℕ)
site_paths folder = map (λ file. path_in folder (file_name file)) all_files ++ path_in folder (codes "exports") ∷ []

-- files of a site to be read
abbrev pub site_words : List ℕ → List (List ℕ) → List (List ℕ × Option (List ℕ))
site_words argument paths = map (λ path. (argument, Some path)) paths

-- what stands for each file, in that order
abbrev pub site_list : SiteFiles → List (List ℕ)
site_list files =
    string_bytes files.custodians ∷ string_bytes files.filesystems ∷ string_bytes files.hosts ∷ string_bytes files.networks ∷ string_bytes files.passwd ∷ string_bytes files.group ∷ string_bytes files.netgroup ∷ string_bytes files.exports ∷ []

-- none of them is over the limit
pub record AreShortFiles (files : SiteFiles) : Type 0 where
  pub custodians : length (string_bytes files.custodians) ≤ 16777216
  pub filesystems : length (string_bytes files.filesystems) ≤ 16777216
  pub hosts : length (string_bytes files.hosts) ≤ 16777216
  pub networks : length (string_bytes files.networks) ≤ 16777216
  pub passwd : length (string_bytes files.passwd) ≤ 16777216
  pub group : length (string_bytes files.group) ≤ 16777216
  pub netgroup : length (string_bytes files.netgroup) ≤ 16777216
  pub exports : length (string_bytes files.exports) ≤ 16777216

-- the paths and the texts of a site's files, in that order
abbrev pub site_paths_in : SiteSources → List (List ℕ)
site_paths_in sources =
    sources.custodians.path.now ∷ sources.filesystems.path.now ∷ sources.whole.tables.hosts.path.now ∷ sources.whole.tables.networks.path.now ∷ sources.whole.tables.passwd.path.now ∷ sources.whole.tables.group.path.now ∷ sources.whole.tables.netgroup.path.now ∷ sources.whole.exports.path.now ∷ []

abbrev pub site_texts_in : SiteSources → List (List ℕ)
site_texts_in sources =
    sources.custodians.text.now ∷ sources.filesystems.text.now ∷ sources.whole.tables.hosts.text.now ∷ sources.whole.tables.networks.text.now ∷ sources.whole.tables.passwd.text.now ∷ sources.whole.tables.group.text.now ∷ sources.whole.tables.netgroup.text.now ∷ sources.whole.exports.text.now ∷ []

-- The texts of a site's files, which are read in turn; that of the file systems, the second, may be that of the mount points in the file
-- mounts. Or why the first without a text has none.
abbrev pub ReadsSite : List ℕ → List (List ℕ) → List ℕ → Option (List ℕ) → Result (List (List ℕ)) Failure → Type 0
ReadsSite argument (custodians ∷ filesystems ∷ rest) mounts known (Ok (first ∷ second ∷ texts)) =
    HasText argument custodians known first × ((left : Option (List ℕ)) × (Leaves (Some custodians) known left
    × (ReadsSystemsText argument (systems_at filesystems mounts) (Ok second)
    × ((after : Option (List ℕ)) × (LeavesBehind (systems_at filesystems mounts) left after × ReadsInTurn (site_words argument rest) after (Ok texts))))))
ReadsSite argument (custodians ∷ filesystems ∷ rest) mounts known (Err failure) =
    LacksText argument custodians known failure
    ⊎ ((first : List ℕ) × (left : Option (List ℕ)) × (HasText argument custodians known first × (Leaves (Some custodians) known left
    × (ReadsSystemsText argument (systems_at filesystems mounts) (Err failure)
    ⊎ ((second : List ℕ) × (after : Option (List ℕ)) × (ReadsSystemsText argument (systems_at filesystems mounts) (Ok second)
    × (LeavesBehind (systems_at filesystems mounts) left after × ReadsInTurn (site_words argument rest) after (Err failure))))))))
ReadsSite argument paths mounts known result = ⊥
