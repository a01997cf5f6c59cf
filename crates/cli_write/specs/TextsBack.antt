-- The texts that go back: those that newest revisions have, as `init` reads them. (this project's own)
use Rattle.std.specs.Prelude.{ℕ, ◌++◌, List, [], ◌∷◌, Option, map}
use Rattle.std.specs.List.{filter_map}
use Rattle.std.specs.Option.{option_map}
use Rattle.desk_text.specs.Path.{path_text}
use Rattle.desk_tables.specs.declared.filesystems.Mount.{Mount}
use Rattle.desk_policy.specs.SiteFile.{all_files, exports_file_name, file_name}
use Rattle.desk_core.specs.Head.{Newest, Revision}
use Rattle.desk_core.specs.Site.{text_in}
use Rattle.desk_split.specs.Joining.{StoredFile, joined}

-- a revision of an exports file
abbrev pub exports_file : Revision → StoredFile
exports_file revision = record { name = revision.file; rev = revision.rev; author = revision.author; text = revision.body }

-- the newest exports file of a printed mount point, if it has one
abbrev pub stored_exports : Newest → List ℕ → Option StoredFile
stored_exports newest mount = option_map exports_file (newest (exports_file_name mount))

-- those of these file systems, by mount point
abbrev pub exports_among : List Mount → Newest → List StoredFile
exports_among table newest = filter_map (λ mount. stored_exports newest (path_text mount.path)) table

-- The texts of the eight files, if these file systems are listed: of each of the seven the newest text, empty if it has none, and the
-- exports files of the file systems, joined.
abbrev pub texts_back : List Mount → Newest → List (List ℕ)
texts_back table newest = map (λ file. (text_in newest (file_name file)).body) all_files ++ joined (exports_among table newest) ∷ []
