-- The exports files that are read as one. (this project's own; mountd(8) reads its files one behind another)
use Rattle.std.specs.Prelude.{◌≡◌, ℕ, ◌++◌, List, [], ◌∷◌, Option, None, Some, codes, map, if◌then◌else◌}
use Rattle.std.specs.Option.{option_map}
use Rattle.std.specs.String.{string_bytes}
use Rattle.clap.specs.Words.{Row}
use Rattle.desk_findings.specs.declared.check_faults.Source.{Source}
use Rattle.desk_joined.specs.Joining.{IsJoined, NamedText, joined, origins_of}
use Rattle.desk_joined.specs.declared.joining.Joined.{Joined}
use Rattle.cli_words.specs.Words.{is_set}
use Rattle.cli_sources.specs.Subject.{and_words}
use Rattle.cli_sources.specs.TableFiles.{given_path, named}
use Rattle.cli_sources.specs.declared.exports_files.MoreFiles.{MoreFiles}
use Rattle.cli_sources.specs.declared.subject.Subject.{Subject}
use Rattle.cli_sources.specs.declared.subject.Subject.TheVariants.{File, Site}
use Rattle.cli_sources.specs.declared.table_files.TextFile.{TextFile}

-- the second exports file of a folder, if it is asked for
abbrev pub zfs_files : Subject → List Row → List (List ℕ × Option (List ℕ))
zfs_files (File file) rows = []
zfs_files (Site site) rows = if is_set (codes "zfs") rows then (codes "--zfs", Some (string_bytes site.zfs)) ∷ [] else []

-- a file of `--and`
abbrev pub and_file : List ℕ → List ℕ × Option (List ℕ)
and_file word = (codes "--and", Some word)

-- the exports files behind the first, in the order in which they are read
abbrev pub more_files : Subject → List Row → List (List ℕ × Option (List ℕ))
more_files subject rows = zfs_files subject rows ++ map and_file (and_words rows)

-- the same of these files
abbrev pub zfs_list : Option (List ℕ) → List (List ℕ × Option (List ℕ))
zfs_list None = []
zfs_list (Some path) = (codes "--zfs", Some path) ∷ []

abbrev pub more_list : MoreFiles → List (List ℕ × Option (List ℕ))
more_list files = zfs_list (option_map (λ path. path.now) files.zfs) ++ map (λ word. and_file word.now) files.and.now

abbrev pub exports_list : TextFile → MoreFiles → List (List ℕ × Option (List ℕ))
exports_list first more = named first ∷ more_list more

-- texts with the paths of their files
abbrev pub named_texts : List (List ℕ × Option (List ℕ)) → List (List ℕ) → List NamedText
named_texts [] texts = []
named_texts (file ∷ files) [] = []
named_texts (file ∷ files) (text ∷ texts) = record { path = given_path file; text = text } ∷ named_texts files texts

-- One text is read as it is. Several are joined, and the whole tells of which text each line is.
abbrev pub IsWhole : List NamedText → Joined → Type 0
IsWhole [] whole = ⊥
IsWhole (file ∷ []) whole = (string_bytes whole.text ≡ file.text) × (whole.origins ≡ [])
IsWhole (file ∷ next ∷ files) whole = IsJoined (file ∷ next ∷ files) whole

-- the same of a source, which is told by the path of the first file
abbrev pub IsWholeSource : List NamedText → Source → Type 0
IsWholeSource [] source = ⊥
IsWholeSource (file ∷ []) source = (source.path.now ≡ file.path) × (source.text.now ≡ file.text) × (source.origins.now ≡ [])
IsWholeSource (file ∷ next ∷ files) source =
    (source.path.now ≡ file.path) × (source.text.now ≡ joined (file ∷ next ∷ files)) × (source.origins.now ≡ origins_of (file ∷ next ∷ files))
