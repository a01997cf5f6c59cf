-- The files of two texts and of the tables beside them. (this project's own)
use Rattle.std.specs.Prelude.{◌≡◌, ◌⊎◌, ℕ, ◌-◌, ◌++◌, List, [], ◌∷◌, Option, None, Result, Ok, Err, length, map, slice_index_or, take}
use Rattle.std.specs.String.{string_bytes}
use Rattle.clap.specs.Words.{Row}
use Rattle.desk_text.specs.Lines.{IsReadable}
use Rattle.desk_policy.specs.PerTable.{EachTable}
use Rattle.desk_findings.specs.declared.check_text.WholeSources.{WholeSources}
use Rattle.cli_files.specs.Files.{ReadsFiles}
use Rattle.cli_output.specs.declared.failure.Failure.{Failure}
use Rattle.cli_sources.specs.ExportsFiles.{IsWhole, IsWholeSource, named_texts}
use Rattle.cli_sources.specs.TableFiles.{IsPlain, IsShort, given_path, named, paths_in, table_list, texts_in}
use Rattle.cli_sources.specs.WholeFiles.{LacksMemory, exports_among, files_of, tables_among, whole_files}
use Rattle.cli_sources.specs.declared.subject.Subject.{Subject}
use Rattle.cli_sources.specs.declared.two_files.TwoFiles as code
use Rattle.cli_sources.specs.declared.two_files.TwoSources.{TwoSources}
use Rattle.cli_sources.specs.declared.two_files.TwoTexts.{TwoTexts}

-- the files in the order in which they are read: those of the tables, and then the two
abbrev pub two_files : Subject → List ℕ → List Row → List ℕ × Option (List ℕ) → List (List ℕ × Option (List ℕ))
two_files subject argument rows second = whole_files subject argument rows ++ second ∷ []

-- these files, in that order
abbrev pub files_of_two : code.TwoFiles → List (List ℕ × Option (List ℕ))
files_of_two files = files_of files.whole ++ named files.second ∷ []

-- of these files those of the first exports texts: those behind the tables, but for the last
abbrev pub first_among : List (List ℕ × Option (List ℕ)) → List (List ℕ × Option (List ℕ))
first_among files = take (length files - 6) (exports_among files)

-- the path of the last
abbrev pub last_path : List (List ℕ × Option (List ℕ)) → List ℕ
last_path files = given_path (slice_index_or files (length files - 1) ([], None))

-- the texts of the tables and the second are those that are read, and the first is the whole of those that are
pub record AreTwoTexts (files : List (List ℕ × Option (List ℕ))) (known : Option (List ℕ)) (texts : TwoTexts) : Type 0 where
  pub exports : List (List ℕ)
  pub read : ReadsFiles files known (Ok (map string_bytes (table_list texts.tables) ++ exports ++ string_bytes texts.second ∷ []))
  pub whole : IsWhole (named_texts (first_among files) exports) texts.first

-- the texts of these files, or why there are none
abbrev pub ReadsTwoTexts : List (List ℕ × Option (List ℕ)) → Option (List ℕ) → Result TwoTexts Failure → Type 0
ReadsTwoTexts files known (Ok texts) = AreTwoTexts files known texts
ReadsTwoTexts files known (Err failure) = ReadsFiles files known (Err failure) ⊎ LacksMemory files failure

-- The sources have the paths and the texts of these files. Several first exports texts are read as one, which is told by the path of the
-- first, and whose origins say of which text each line is.
pub record AreReadTwo (files : List (List ℕ × Option (List ℕ))) (known : Option (List ℕ)) (sources : TwoSources) : Type 0 where
  pub exports : List (List ℕ)
  pub read : ReadsFiles files known (Ok (texts_in (table_list sources.tables) ++ exports ++ sources.second.text.now ∷ []))
  pub paths : paths_in (table_list sources.tables) ≡ map given_path (tables_among files)
  pub second : sources.second.path.now ≡ last_path files
  pub plain : EachTable IsPlain sources.tables
  pub alone : IsPlain sources.second
  pub whole : IsWholeSource (named_texts (first_among files) exports) sources.first

-- the sources of these files, or why there are none
abbrev pub ReadsTwo : List (List ℕ × Option (List ℕ)) → Option (List ℕ) → Result TwoSources Failure → Type 0
ReadsTwo files known (Ok sources) = AreReadTwo files known sources
ReadsTwo files known (Err failure) = ReadsFiles files known (Err failure) ⊎ LacksMemory files failure

-- no text is over the limit
pub record AreAllShort (texts : TwoTexts) : Type 0 where
  pub tables : EachTable IsShort texts.tables
  pub first : IsReadable (string_bytes texts.first.text)
  pub second : IsShort texts.second

-- the first, as an exports text with the tables
abbrev pub whole_first : TwoSources → WholeSources
whole_first sources = record { tables = sources.tables; exports = sources.first }

-- the second, with the same tables
abbrev pub whole_second : TwoSources → WholeSources
whole_second sources = record { tables = sources.tables; exports = sources.second }
