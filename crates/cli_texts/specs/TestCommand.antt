-- What `test` prints, by its words and files. (this project's own)
use Rattle.std.specs.Prelude.{◌≡◌, ℕ, false, List, Option, Some, Result, Ok, codes}
use Rattle.clap.specs.Words.{Row}
use Rattle.desk_tables.specs.declared.filesystems.Mount.{Mount}
use Rattle.desk_policy.specs.Policy.{Content}
use Rattle.desk_policy.specs.declared.parsing.SiteTables.{SiteTables}
use Rattle.desk_findings.specs.CheckText.{tables_of}
use Rattle.cli_output.specs.declared.failure.Failure.{Failure}
use Rattle.cli_output.specs.declared.printed.Printed.{Printed}
use Rattle.cli_expectations.specs.ReportForm.{GivesForm}
use Rattle.cli_expectations.specs.TestedPolicy.{Expected, PrintsTested}
use Rattle.cli_expectations.specs.declared.expectations_file.ReportForm.{ReportForm}
use Rattle.cli_words.specs.Words.{After, is_set}
use Rattle.cli_sources.specs.Subject.{ReadsSubject, places}
use Rattle.cli_texts.specs.FaultyTexts.{AnswersOrFault}
use Rattle.cli_sources.specs.TwoQuestion.{AnswersTwo}
use Rattle.cli_sources.specs.TwoFiles.{whole_first}
use Rattle.cli_texts.specs.WholeTables.{Writes, policy_of}
use Rattle.cli_sources.specs.declared.two_files.TwoSources.{TwoSources}

-- the second text, as one of expectations of the first
abbrev pub expected_in : ReportForm → TwoSources → Expected
expected_in form sources = record { path = sources.second.path.now; text = sources.second.text.now; form = form; exports = Some sources.first.path.now }

-- The first text is read as a policy, with these tables, and it is printed which expectations of the second it breaks; or the fault of
-- the second.
pub record PrintsExpected (table : List Mount) (form : ReportForm) (sources : TwoSources) (printed : Printed) : Type 0 where
  pub tables : SiteTables
  pub tables_are : tables_of sources.tables ≡ Ok tables
  pub policy : Content
  pub written : Writes (policy_of (whole_first sources) table) policy
  pub prints : PrintsTested tables policy (expected_in form sources) printed

-- the answer by the texts of the files; a fault of a table or of FILE comes before one of EXPECTATIONS
abbrev pub AnswersTexts : ReportForm → List Mount → TwoSources → Result Printed Failure → Type 0
AnswersTexts form table sources result = AnswersOrFault false (PrintsExpected table form sources) (whole_first sources) table result

-- the answer to words that ask for this form
abbrev pub AnswersTestBy : List Row → Option (List ℕ) → ReportForm → Result Printed Failure → Type 0
AnswersTestBy rows known form result =
    After (ReadsSubject (places (codes "FILE") (codes "EXPECTATIONS") (codes "FILE or MOUNT")) rows)
    (AnswersTwo (AnswersTexts form) false (codes "FILE") (codes "EXPECTATIONS") rows known) result

-- the answer of `test` to its words: a list and a log cannot both be asked for
abbrev pub AnswersTest : List Row → Option (List ℕ) → Result Printed Failure → Type 0
AnswersTest rows known result = After (GivesForm (is_set (codes "json") rows) (is_set (codes "sarif") rows)) (AnswersTestBy rows known) result
