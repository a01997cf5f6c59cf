-- What is asked of an exports text with its tables and of a second text. (this project's own)
use Rattle.std.specs.Prelude.{ℕ, Bool, List, Option, Some, Result}
use Rattle.clap.specs.Words.{Row}
use Rattle.desk_tables.specs.declared.filesystems.Mount.{Mount}
use Rattle.cli_output.specs.declared.failure.Failure.{Failure}
use Rattle.cli_output.specs.declared.printed.Printed.{Printed}
use Rattle.cli_words.specs.Words.{After, AnswersBy}
use Rattle.cli_sources.specs.Subject.{word_at}
use Rattle.cli_sources.specs.Systems.{AfterSystems}
use Rattle.cli_sources.specs.TableFiles.{input_count}
use Rattle.cli_sources.specs.TwoFiles.{ReadsTwo, two_files}
use Rattle.cli_sources.specs.declared.subject.Subject.{Subject}
use Rattle.cli_sources.specs.declared.two_files.TwoSources.{TwoSources}

module _ (Answers : List Mount → TwoSources → Result Printed Failure → Type 0) where
  -- the answer with these file systems: the files are read after them
  abbrev pub AnswersFiles : List (List ℕ × Option (List ℕ)) → Option (List ℕ) → List Mount → Result Printed Failure → Type 0
  AnswersFiles files known table result = After (ReadsTwo files known) (Answers table) result

  -- the answer about the second text, which this word names: the file systems are read first
  abbrev pub AnswersSecond : Bool → List ℕ → List ℕ → List Row → Option (List ℕ) → Subject → List ℕ → Result Printed Failure → Type 0
  AnswersSecond json first second rows known subject word result =
      let files = two_files subject first rows (second, Some word) in AfterSystems json subject rows (input_count files) known (λ left. AnswersFiles files left) result

  -- The answer to what is asked, by the arguments that name the two texts; with `--site` the second is the first word. A fault of the file
  -- systems is printed as JSON, if that is asked.
  abbrev pub AnswersTwo : Bool → List ℕ → List ℕ → List Row → Option (List ℕ) → Subject → Result Printed Failure → Type 0
  AnswersTwo json first second rows known subject result = AnswersBy second (word_at subject first second rows) (AnswersSecond json first second rows known subject) result
