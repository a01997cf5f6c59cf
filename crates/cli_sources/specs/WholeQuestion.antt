-- What is asked of an exports text with its tables. (this project's own)
use Rattle.std.specs.Prelude.{ℕ, Bool, List, Option, Result, codes}
use Rattle.clap.specs.Words.{Row}
use Rattle.desk_tables.specs.declared.filesystems.Mount.{Mount}
use Rattle.desk_findings.specs.declared.check_text.WholeSources.{WholeSources}
use Rattle.cli_output.specs.declared.failure.Failure.{Failure}
use Rattle.cli_output.specs.declared.printed.Printed.{Printed}
use Rattle.cli_words.specs.Words.{After}
use Rattle.cli_sources.specs.Systems.{AfterSystems}
use Rattle.cli_sources.specs.TableFiles.{input_count}
use Rattle.cli_sources.specs.WholeFiles.{ReadsWhole, whole_files}
use Rattle.cli_sources.specs.declared.subject.Subject.{Subject}

module _ (Answers : List Mount → WholeSources → Result Printed Failure → Type 0) where
  -- the answer with these file systems: the files are read after them
  abbrev pub AnswersFiles : List (List ℕ × Option (List ℕ)) → Option (List ℕ) → List Mount → Result Printed Failure → Type 0
  AnswersFiles files known table result = After (ReadsWhole files known) (Answers table) result

  -- the answer to what is asked: the file systems are read first, whose fault is printed as JSON, if that is asked
  abbrev pub AnswersWhole : Bool → List Row → Option (List ℕ) → Subject → Result Printed Failure → Type 0
  AnswersWhole json rows known subject result =
      AfterSystems json subject rows (input_count (whole_files subject (codes "FILE") rows)) known
      (λ left. AnswersFiles (whole_files subject (codes "FILE") rows) left) result
