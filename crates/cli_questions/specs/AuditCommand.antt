-- The answer of `audit`, by its words. (this project's own)
use Rattle.std.specs.Prelude.{◌≡◌, ℕ, Bool, true, false, codes, List, [], ◌∷◌, Option, Some, None, Result, Ok, Err, IsErrAnd}
use Rattle.std.specs.Option.{option_map}
use Rattle.std.specs.String.{string_bytes}
use Rattle.clap.specs.Words.{Row, first_of}
use Rattle.desk_service.specs.Questions.{ForeseeProposedSite, ForeseeSite, Question, Site}
use Rattle.cli_expectations.specs.ReportForm.{GivesForm}
use Rattle.cli_expectations.specs.TestedPolicy.{Expected}
use Rattle.cli_expectations.specs.declared.expectations_file.ReportForm.{ReportForm}
use Rattle.cli_output.specs.Failure.{IsMissing}
use Rattle.cli_output.specs.declared.failure.Failure.{Failure}
use Rattle.cli_output.specs.declared.failure.Failure.TheVariants.{BesideProposal}
use Rattle.cli_output.specs.declared.printed.Printed.{Printed}
use Rattle.cli_words.specs.Words.{After, ByWord, is_set}
use Rattle.cli_files.specs.Files.{ReadsFiles}
use Rattle.cli_questions.specs.Questions.{AnswersQuestion, Asked, Breaches}
use Rattle.cli_questions.specs.declared.audit_command.AuditTexts.{AuditTexts}
use Rattle.cli_questions.specs.declared.audit_command.AuditWords.{AuditWords as LentWords}

-- what the words name: DB, EXPECTATIONS, NAME and FILE, if these are given; and the form in which what is broken is printed
pub record AuditWords : Type 0 where
  pub db : List ℕ
  pub expectations : List ℕ
  pub form : ReportForm
  pub name : Option (List ℕ)
  pub file : Option (List ℕ)

-- the same by value
abbrev pub words_of : LentWords → AuditWords
words_of words = record {
  db = words.db.now;
  expectations = words.expectations.now;
  form = words.form;
  name = option_map (λ word. word.now) words.name;
  file = option_map (λ word. word.now) words.file;
}

-- the files in the order in which they are read: EXPECTATIONS, and FILE, if it is given
abbrev pub audit_files : AuditWords → List (List ℕ × Option (List ℕ))
audit_files words = (codes "EXPECTATIONS", Some words.expectations) ∷ (codes "FILE", words.file) ∷ []

-- their texts, in that order
abbrev pub texts_of : AuditTexts → List (List ℕ)
texts_of texts = string_bytes texts.expectations ∷ string_bytes texts.other ∷ []

-- the question that the words ask, with this text of FILE: on the site in force; or, if NAME is given, as it would be with the text of
-- FILE, or with that of the proposal if FILE is not given
abbrev pub question_on : Option (List ℕ) → Option (List ℕ) → List ℕ → Question
question_on None file text = Site
question_on (Some name) None text = ForeseeProposedSite name
question_on (Some name) (Some file) text = ForeseeSite name text

abbrev pub site_question : AuditWords → List ℕ → Question
site_question words text = question_on words.name words.file text

-- a question on a site, of which is printed which of these expectations it breaks
abbrev pub auditing : Question → Expected → Asked
auditing question expected = record { question = question; printer = Breaches expected; json = false }

-- a text as the expectations of a database
abbrev pub expected_by : AuditWords → List ℕ → Expected
expected_by words text = record { path = words.expectations; text = text; form = words.form; exports = None }

-- the answer by the text of EXPECTATIONS, and that of FILE
abbrev pub AnswersTexts : AuditWords → AuditTexts → Result Printed Failure → Type 0
AnswersTexts words texts result =
    AnswersQuestion words.db
    (auditing (site_question words (string_bytes texts.other)) (expected_by words (string_bytes texts.expectations))) result

-- the files have these texts, or it is said why one of them has none, or that both are to be standard input
abbrev pub ReadsTexts : AuditWords → Option (List ℕ) → Result AuditTexts Failure → Type 0
ReadsTexts words known (Ok texts) = ReadsFiles (audit_files words) known (Ok (texts_of texts))
ReadsTexts words known (Err failure) = ReadsFiles (audit_files words) known (Err failure)

-- the answer by the files: they are read before the database is
abbrev pub AnswersFiles : AuditWords → Option (List ℕ) → Result Printed Failure → Type 0
AnswersFiles words known result = After (ReadsTexts words known) (AnswersTexts words) result

-- the answer by which of NAME, FILE and `--proposal` are given: NAME with one of the others, or none of them
abbrev pub AnswersIf : Option (List ℕ) → Option (List ℕ) → Bool → AuditWords → Option (List ℕ) → Result Printed Failure → Type 0
AnswersIf None None false words known result = AnswersFiles words known result
AnswersIf (Some name) (Some file) false words known result = AnswersFiles words known result
AnswersIf (Some name) None true words known result = AnswersFiles words known result
AnswersIf name (Some file) true words known result = result ≡ Err BesideProposal
AnswersIf (Some name) None false words known result = IsErrAnd result (IsMissing (codes "FILE"))
AnswersIf None (Some file) false words known result = IsErrAnd result (IsMissing (codes "NAME"))
AnswersIf None None true words known result = IsErrAnd result (IsMissing (codes "NAME"))

abbrev pub AnswersBy : AuditWords → Bool → Option (List ℕ) → Result Printed Failure → Type 0
AnswersBy words proposal known result = AnswersIf words.name words.file proposal words known result

-- what the words of `audit` name, with this form and these DB and EXPECTATIONS
abbrev pub words_in : List Row → ReportForm → List ℕ → List ℕ → AuditWords
words_in rows form db expectations =
    record { db = db; expectations = expectations; form = form; name = first_of (codes "NAME") rows; file = first_of (codes "FILE") rows }

-- the answer to words that ask for this form
abbrev pub AnswersInForm : List Row → Option (List ℕ) → ReportForm → Result Printed Failure → Type 0
AnswersInForm rows known form result =
    ByWord (codes "DB") rows (λ db. ByWord (codes "EXPECTATIONS") rows (λ expectations. AnswersBy (words_in rows form db expectations) (is_set (codes "proposal") rows) known)) result

-- the answer of `audit` to its words: a list and a log cannot both be asked for
abbrev pub AnswersAudit : List Row → Option (List ℕ) → Result Printed Failure → Type 0
AnswersAudit rows known result = After (GivesForm (is_set (codes "json") rows) (is_set (codes "sarif") rows)) (AnswersInForm rows known) result
