-- The files of exports texts that are read as one, and of their tables. (this project's own)
use Rattle.std.specs.Prelude.{◌≡◌, ◌⊎◌, ℕ, ◌++◌, false, List, ◌∷◌, Option, Some, Result, Ok, Err, codes, drop, map, take}
use Rattle.std.specs.String.{string_bytes}
use Rattle.clap.specs.Words.{Row}
use Rattle.desk_text.specs.Lines.{IsReadable}
use Rattle.desk_policy.specs.PerTable.{EachTable}
use Rattle.desk_findings.specs.declared.check_text.WholeSources.{WholeSources}
use Rattle.cli_files.specs.Files.{ReadsFiles, name_input_twice}
use Rattle.cli_output.specs.declared.failure.Failure.{Failure}
use Rattle.cli_output.specs.declared.failure.Failure.TheVariants.{Memory}
use Rattle.cli_sources.specs.ExportsFiles.{IsWhole, IsWholeSource, exports_list, more_files, named_texts}
use Rattle.cli_sources.specs.Subject.{folder_of}
use Rattle.cli_sources.specs.TableFiles.{IsPlain, IsShort, given_path, named, paths_in, table_files, table_list, texts_in}
use Rattle.cli_sources.specs.declared.subject.Subject.{Subject}
use Rattle.cli_sources.specs.declared.subject.Subject.TheVariants.{File, Site}
use Rattle.cli_sources.specs.declared.whole_files.WholeFiles as code
use Rattle.cli_sources.specs.declared.whole_files.WholeTexts.{WholeTexts}

-- the file of the first exports text: the one that this argument names, or that of a folder
abbrev pub exports_file : Subject → List ℕ → List ℕ × Option (List ℕ)
exports_file (File file) argument = (argument, Some file.now)
exports_file (Site site) argument = (codes "--site", Some (string_bytes site.paths.exports))

-- the files in the order in which they are read: those of the five tables, and then those of the exports texts
abbrev pub whole_files : Subject → List ℕ → List Row → List (List ℕ × Option (List ℕ))
whole_files subject argument rows = table_files (folder_of subject) rows ++ exports_file subject argument ∷ more_files subject rows

-- these files, in that order
abbrev pub files_of : code.WholeFiles → List (List ℕ × Option (List ℕ))
files_of files = map named (table_list files.tables) ++ exports_list files.exports files.more

-- of these files those of the tables, and those of the exports texts
abbrev pub tables_among : List (List ℕ × Option (List ℕ)) → List (List ℕ × Option (List ℕ))
tables_among files = take 5 files

abbrev pub exports_among : List (List ℕ × Option (List ℕ)) → List (List ℕ × Option (List ℕ))
exports_among files = drop 5 files

-- the texts of the tables are those that are read, and the exports text is the whole of those that are
pub record AreTexts (files : List (List ℕ × Option (List ℕ))) (known : Option (List ℕ)) (texts : WholeTexts) : Type 0 where
  pub exports : List (List ℕ)
  pub read : ReadsFiles files known (Ok (map string_bytes (table_list texts.tables) ++ exports))
  pub whole : IsWhole (named_texts (exports_among files) exports) texts.exports

-- memory ran out for the whole; that two of the files are to be standard input is told before
abbrev pub LacksMemory : List (List ℕ × Option (List ℕ)) → Failure → Type 0
LacksMemory files failure = (failure ≡ Memory) × (name_input_twice files ≡ false)

-- the texts of these files; or why one of them has none, or that two of them are to be standard input, or that memory ran out
abbrev pub ReadsTexts : List (List ℕ × Option (List ℕ)) → Option (List ℕ) → Result WholeTexts Failure → Type 0
ReadsTexts files known (Ok texts) = AreTexts files known texts
ReadsTexts files known (Err failure) = ReadsFiles files known (Err failure) ⊎ LacksMemory files failure

-- The sources have the paths and the texts of these files. Several exports texts are read as one, which is told by the path of the first,
-- and whose origins say of which text each line is.
pub record AreReadWhole (files : List (List ℕ × Option (List ℕ))) (known : Option (List ℕ)) (sources : WholeSources) : Type 0 where
  pub exports : List (List ℕ)
  pub read : ReadsFiles files known (Ok (texts_in (table_list sources.tables) ++ exports))
  pub paths : paths_in (table_list sources.tables) ≡ map given_path (tables_among files)
  pub plain : EachTable IsPlain sources.tables
  pub whole : IsWholeSource (named_texts (exports_among files) exports) sources.exports

-- the sources of these files; or why there are none
abbrev pub ReadsWhole : List (List ℕ × Option (List ℕ)) → Option (List ℕ) → Result WholeSources Failure → Type 0
ReadsWhole files known (Ok sources) = AreReadWhole files known sources
ReadsWhole files known (Err failure) = ReadsFiles files known (Err failure) ⊎ LacksMemory files failure

-- no text is over the limit of its file, so that the whole can be read
pub record AreShort (texts : WholeTexts) : Type 0 where
  pub tables : EachTable IsShort texts.tables
  pub exports : IsReadable (string_bytes texts.exports.text)
