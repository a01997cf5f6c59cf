-- The names of a site's files. (this project's own)
use Rattle.std.specs.Prelude.{◌≡◌, ◌++◌, ℕ, Bool, true, false, List, [], ◌∷◌, Option, None, codes, find, is_some, position}
use Rattle.std.specs.Str.{bytes_eq}
use Rattle.desk_text.specs.Path.{path_text}
use Rattle.desk_tables.specs.declared.filesystems.Mount.{Mount}
use Rattle.desk_policy.specs.declared.site_file.SiteFile.{SiteFile}
use Rattle.desk_policy.specs.declared.site_file.SiteFile.TheVariants.{Custodians, Filesystems, Group, Hosts, Netgroup, Networks, Passwd}

-- the seven files that are not of one file system, in the order in which they are judged
abbrev pub all_files : List SiteFile
all_files = Custodians ∷ Filesystems ∷ Hosts ∷ Networks ∷ Passwd ∷ Group ∷ Netgroup ∷ []

-- the name of one of the seven files
abbrev pub file_name : SiteFile → List ℕ
file_name Custodians = codes "custodians"
file_name Filesystems = codes "filesystems"
file_name Hosts = codes "hosts"
file_name Networks = codes "networks"
file_name Passwd = codes "passwd"
file_name Group = codes "group"
file_name Netgroup = codes "netgroup"

-- the one of the seven files that has this name
abbrev pub file_of : List ℕ → Option SiteFile
file_of name = find (λ file. bytes_eq name (file_name file)) all_files

-- a name is that of one of the seven files
abbrev pub is_of_seven : List ℕ → Bool
is_of_seven name = is_some (file_of name)

-- the name of the exports file of a printed mount point
abbrev pub exports_file_name : List ℕ → List ℕ
exports_file_name mount = codes "exports:" ++ mount

-- this is not the name of the exports file of any mount point
abbrev pub NamesNoMount : List ℕ → Type 0
NamesNoMount name = (mount : List ℕ) → name ≡ exports_file_name mount → ⊥

-- the place of the mount point whose exports file has this name
abbrev pub exports_place : List Mount → List ℕ → Option ℕ
exports_place table name = position (λ mount. bytes_eq (exports_file_name (path_text mount.path)) name) table

-- The exports file of no mount point has the name of one of the seven.
abbrev pub ExportsFilesAreNotOfTheSeven : Type 0
ExportsFilesAreNotOfTheSeven = (mount : List ℕ) → is_of_seven (exports_file_name mount) ≡ false

-- So a file with such a name is that of no listed mount point.
abbrev pub TheSevenHaveNoPlace : Type 0
TheSevenHaveNoPlace = (table : List Mount) (name : List ℕ) → is_of_seven name ≡ true → exports_place table name ≡ None
