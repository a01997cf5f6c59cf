-- What `split` prints, by its two files. (this project's own)
use Rattle.std.specs.Prelude.{◌≡◌, ◌++◌, ℕ, List, [], ◌∷◌, Option, Some, Result, Ok, Err, MatchResult, codes}
use Rattle.std.specs.String.{string_bytes}
use Rattle.clap.specs.Words.{Row}
use Rattle.desk_split.specs.SplitFault.{split_fault_line}
use Rattle.desk_split.specs.declared.split_fault.SplitFault.{SplitFault}
use Rattle.desk_findings.specs.declared.check_faults.Source.{Source}
use Rattle.desk_check.specs.ToldFault.{TellsOfSplit}
use Rattle.cli_output.specs.Printed.{Prints}
use Rattle.cli_output.specs.declared.failure.Failure.{Failure}
use Rattle.cli_output.specs.declared.failure.Failure.TheVariants.{Memory}
use Rattle.cli_output.specs.declared.printed.Printed.{Printed}
use Rattle.cli_words.specs.Words.{After, ByWord}
use Rattle.cli_texts.specs.Printing.{PrintsAlone}
use Rattle.cli_texts.specs.SplitText.{split_answer}
use Rattle.cli_sources.specs.TableFiles.{IsShort, ReadsSources}
use Rattle.cli_texts.specs.declared.split_command.SplitSources.{SplitSources}
use Rattle.cli_texts.specs.declared.split_command.SplitTexts.{SplitTexts}

-- the files in the order in which they are read
abbrev pub split_files : List ℕ → List ℕ → List (List ℕ × Option (List ℕ))
split_files file filesystems = (codes "FILE", Some file) ∷ (codes "FILESYSTEMS", Some filesystems) ∷ []

-- the sources of these files, in that order
abbrev pub split_list : SplitSources → List Source
split_list sources = sources.file ∷ sources.filesystems ∷ []

-- their texts, in that order
abbrev pub split_texts : SplitTexts → List (List ℕ)
split_texts texts = string_bytes texts.file ∷ string_bytes texts.filesystems ∷ []

-- neither text is over the limit
pub record AreBothShort (texts : SplitTexts) : Type 0 where
  pub file : IsShort texts.file
  pub filesystems : IsShort texts.filesystems

-- a fault of one of the two texts is printed in a line, and standard error shows it as `check` does
pub record PrintsSplitFault (sources : SplitSources) (fault : SplitFault) (printed : Printed) : Type 0 where
  pub prints : Prints 3 (split_fault_line fault ++ 10 ∷ []) printed
  pub shows : TellsOfSplit sources.file sources.filesystems fault (string_bytes printed.note)

-- the texts of a split are printed, or its fault
abbrev pub PrintsSplit : SplitSources → Result (List ℕ) SplitFault → Printed → Type 0
PrintsSplit sources (Ok text) printed = PrintsAlone 0 text printed
PrintsSplit sources (Err fault) printed = PrintsSplitFault sources fault printed

-- the answer by the texts of the files; out of memory says nothing
abbrev pub AnswersTexts : SplitSources → Result Printed Failure → Type 0
AnswersTexts sources result =
    MatchResult result (PrintsSplit sources (split_answer sources.file.text.now sources.filesystems.text.now)) (λ failure. failure ≡ Memory)

-- the answer of `split` to its words
abbrev pub AnswersSplit : List Row → Option (List ℕ) → Result Printed Failure → Type 0
AnswersSplit rows known result =
    ByWord (codes "FILE") rows (λ file. ByWord (codes "FILESYSTEMS") rows (λ filesystems. After (ReadsSources split_list (split_files file filesystems) known) AnswersTexts)) result
