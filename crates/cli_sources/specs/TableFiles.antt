-- The files that a command reads: in which order, and as which sources; those of the tables among them. (this project's own)
use Rattle.std.specs.Prelude.{◌≡◌, ◌≤◌, ℕ, List, [], ◌∷◌, Option, None, Some, Result, Ok, Err, String, codes, count_by, length, map, unwrap_or}
use Rattle.std.specs.Option.{option_map}
use Rattle.std.specs.String.{string_bytes}
use Rattle.clap.specs.Words.{Row, first_of}
use Rattle.desk_origins.specs.declared.origins.Origin.{Origin}
use Rattle.desk_policy.specs.declared.per_table.PerTable.{PerTable}
use Rattle.desk_findings.specs.declared.check_faults.Source.{Source}
use Rattle.cli_output.specs.declared.failure.Failure.{Failure}
use Rattle.cli_files.specs.Files.{ReadsFiles, is_input_if_given}
use Rattle.cli_files.specs.declared.site_folder.SiteFiles.{SiteFiles}
use Rattle.cli_sources.specs.declared.table_files.TextFile.{TextFile}

-- a file with the argument that names it
abbrev pub named : TextFile → List ℕ × Option (List ℕ)
named file = (file.argument.now, option_map (λ path. path.now) file.path)

-- the file of a table: that of its option, if it is given, or else that of the folder, if there is one
abbrev pub table_file : List ℕ → Option (List ℕ) → Option (List ℕ) → List ℕ × Option (List ℕ)
table_file argument (Some file) path = (argument, Some file)
table_file argument None (Some path) = (codes "--site", Some path)
table_file argument None None = (argument, None)

-- the path of one of a folder's files
abbrev pub path_of : Option SiteFiles → (SiteFiles → List ℕ) → Option (List ℕ)
path_of folder which = option_map which folder

-- the files of the tables, each with the argument that names it, in the order in which they are read
abbrev pub table_files : Option SiteFiles → List Row → List (List ℕ × Option (List ℕ))
table_files folder rows =
    table_file (codes "--hosts") (first_of (codes "hosts") rows) (path_of folder (λ paths. string_bytes paths.hosts))
    ∷ table_file (codes "--networks") (first_of (codes "networks") rows) (path_of folder (λ paths. string_bytes paths.networks))
    ∷ table_file (codes "--passwd") (first_of (codes "passwd") rows) (path_of folder (λ paths. string_bytes paths.passwd))
    ∷ table_file (codes "--group") (first_of (codes "group") rows) (path_of folder (λ paths. string_bytes paths.group))
    ∷ table_file (codes "--netgroup") (first_of (codes "netgroup") rows) (path_of folder (λ paths. string_bytes paths.netgroup))
    ∷ []

-- how many of these files are to be standard input
abbrev pub input_count : List (List ℕ × Option (List ℕ)) → ℕ
input_count files = count_by (λ file. is_input_if_given file.1) files

-- what there is for each table, in that order
abbrev pub table_list : {X : Type 0} → PerTable X → List X
table_list tables = tables.hosts ∷ tables.networks ∷ tables.passwd ∷ tables.group ∷ tables.netgroup ∷ []

-- the text is not over the limit
abbrev pub IsShort : {A : Type 0} → String A → Type 0
IsShort text = length (string_bytes text) ≤ 16777216

-- the path of a file; of one that is not given the empty one, which no finding shows
abbrev pub given_path : List ℕ × Option (List ℕ) → List ℕ
given_path file = unwrap_or file.1 []

abbrev pub paths_in : List Source → List (List ℕ)
paths_in sources = map (λ (source : Source). source.path.now) sources

abbrev pub texts_in : List Source → List (List ℕ)
texts_in sources = map (λ (source : Source). source.text.now) sources

-- a file that is read alone has no others
abbrev pub no_origins : List ℕ × Option (List ℕ) → List Origin
no_origins file = []

abbrev pub origins_in : List Source → List (List Origin)
origins_in sources = map (λ (source : Source). source.origins.now) sources

-- a source is of one text
abbrev pub IsPlain : Source → Type 0
IsPlain source = source.origins.now ≡ []

-- these sources have the paths of these files, and the texts that are read from them, each alone
pub record AreRead (files : List (List ℕ × Option (List ℕ))) (known : Option (List ℕ)) (sources : List Source) : Type 0 where
  pub paths : paths_in sources ≡ map given_path files
  pub texts : ReadsFiles files known (Ok (texts_in sources))
  pub plain : origins_in sources ≡ map no_origins files

module _ {S : Type 0} where
  -- the sources of these files; or why one of them has no text, or that two of them are to be standard input
  abbrev pub ReadsSources : (S → List Source) → List (List ℕ × Option (List ℕ)) → Option (List ℕ) → Result S Failure → Type 0
  ReadsSources source_list files known (Ok sources) = AreRead files known (source_list sources)
  ReadsSources source_list files known (Err failure) = ReadsFiles files known (Err failure)
