-- What is asked of a database without changing it, and what is printed of the answers. (this project's own)
use Rattle.std.specs.Prelude.{◌⊎◌, ℕ, ◌==◌, Bool, true, false, List, [], None, Option, Result, Ok, Err, Some, codes, if◌then◌else◌}
use Rattle.std.specs.String.{string_bytes}
use Rattle.sqlite.specs.Effect.{Database}
use Rattle.desk_policy.specs.ListingPrints.{all_exports, all_terms, listing_text}
use Rattle.desk_policy.specs.Policy.{Content}
use Rattle.desk_who.specs.WhoPrints.{who_text}
use Rattle.desk_impact.specs.Report.{IsReport}
use Rattle.desk_impact.specs.declared.report.Report.{Report}
use Rattle.desk_store.specs.Desk.{History}
use Rattle.desk_store.specs.Open.{IsOurs, IsProject}
use Rattle.desk_service.specs.Foreseeing.{Foreseen, content_after}
use Rattle.desk_service.specs.Questions as given
use Rattle.desk_service.specs.Questions.{Answer as Given, AnswersByHistory, OfFile, Question, Text, question_of}
use Rattle.desk_service.specs.Sites.{WholeSite}
use Rattle.desk_service.specs.declared.refused.Refused.TheVariants as refused
use Rattle.desk_http_bodies.specs.Revisions.{file_data, proposal_data}
use Rattle.desk_http_bodies.specs.Verdicts.{verdict_data}
use Rattle.desk_json.specs.Exports.{all_exports_data}
use Rattle.desk_json.specs.Files.{files_data}
use Rattle.desk_json.specs.Log.{log_data}
use Rattle.cli_output.specs.Failure.{IsUnread}
use Rattle.cli_output.specs.Printed.{Prints}
use Rattle.cli_output.specs.ShownLines.{shown_lines}
use Rattle.cli_output.specs.declared.failure.Failure.{Failure}
use Rattle.cli_output.specs.declared.printed.Printed.{Printed}
use Rattle.cli_verdict.specs.ObjectLine.{data_line}
use Rattle.cli_verdict.specs.Ranges.{PrintsRanges}
use Rattle.cli_verdict.specs.TryText.{Answer, Answers, MountQuestion, PrintsTried, TellsVerdict, answer_on, mount_question_of}
use Rattle.cli_verdict.specs.declared.try_text.Tried.{Tried}
use Rattle.cli_desk.specs.RefusalLines.{Says}
use Rattle.cli_expectations.specs.TestedPolicy.{Expected, PrintsTested, expected_of}
use Rattle.cli_questions.specs.FileLines.{files_text}
use Rattle.cli_questions.specs.Objects.{PrintsChangesObject, SaysObject, listing_line, ranges_line, verdict_status}
use Rattle.cli_questions.specs.RevisionLines.{log_text}
use Rattle.cli_questions.specs.declared.answering.Asked.{Asked as LentAsked}
use Rattle.cli_questions.specs.declared.answering.Printer.{Printer as LentPrinter}
use Rattle.cli_questions.specs.declared.answering.Printer.TheVariants as lent

-- How an answer is printed: as it is; all exports, with their terms; what would change, with the changes that matter to
-- no client, too, if that is asked; and of a site which of these expectations it breaks, whether a client may mount a
-- path, or who may, by the rule of mountd(8) if that is asked.
pub data Printer : Type 0 where
  Plain : Printer
  Terms : Printer
  Changes : Bool → Printer
  Breaches : Expected → Printer
  Mounts : MountQuestion → Printer
  Ranges : List (List ℕ) → Bool → Printer

-- the same by value
abbrev pub printer_of : LentPrinter → Printer
printer_of lent.Plain = Plain
printer_of lent.Terms = Terms
printer_of (lent.Changes file all) = Changes all
printer_of (lent.Breaches file expected) = Breaches (expected_of expected)
printer_of (lent.Mounts question) = Mounts (mount_question_of question)
printer_of (lent.Ranges path mountd) = Ranges path.now mountd

-- a question, how its answer is printed, and whether as one object of JSON
pub record Asked : Type 0 where
  pub question : Question
  pub printer : Printer
  pub json : Bool

-- the same by value
abbrev pub asked_of : LentAsked → Asked
asked_of asked = record { question = question_of asked.question; printer = printer_of asked.printer; json = asked.json }

-- changes that matter to no client are printed, too
abbrev pub prints_all : Printer → Bool
prints_all (Changes all) = all
prints_all printer = false

-- the file that a question is on; empty if it is on none
abbrev pub file_in : Question → List ℕ
file_in (Text file rev) = file
file_in (OfFile file what) = file
file_in question = []

-- the answer to whether a client may mount a path is printed: status 0 if it grants the mount, else 1
abbrev pub PrintsVerdict : Answer → Printed → Type 0
PrintsVerdict tried printed = Prints (if tried.granted then 0 else 1) tried.text printed

-- the question whether a client may mount a path, if the printer has it
abbrev pub mount_in : Printer → Option MountQuestion
mount_in (Mounts question) = Some question
mount_in printer = None

-- why a mount is granted or denied is printed: with the verdict, to whom asks this; and else alone
abbrev pub PrintsWhy : Option MountQuestion → Content → List ℕ → Printed → Type 0
PrintsWhy (Some question) content reasons printed = (tried : Tried) × TellsVerdict (Some reasons) content question tried × PrintsTried tried printed
PrintsWhy None content reasons printed = Prints 0 (shown_lines reasons) printed

-- all exports of a policy as they are printed: as `terms` prints those of a text, to whom asks this; and else without
-- their terms
abbrev pub exports_text : Printer → Content → List ℕ
exports_text Terms content = all_terms content
exports_text printer content = all_exports content

-- the same as one object, if that is asked
abbrev pub exports_by : Bool → Printer → Content → List ℕ
exports_by true printer content = data_line (all_exports_data content)
exports_by false printer content = exports_text printer content

-- A site is printed: which expectations it breaks; the verdict by its policy; the ranges of its verdicts; or else all
-- its exports. Names are looked up in its own tables. (A question of a mount, and expectations, say themselves whether
-- it is as JSON.)
abbrev pub PrintsSite : Bool → WholeSite → Printer → Printed → Type 0
PrintsSite json site (Breaches expected) printed = PrintsTested site.tables site.content expected printed
PrintsSite json site (Mounts question) printed = (tried : Tried) × Answers site.tables site.content question tried × PrintsTried tried printed
PrintsSite json site (Ranges path mountd) printed = PrintsRanges mountd json site.content path printed
PrintsSite json site printer printed = Prints 0 (exports_by json printer site.content) printed

-- a report of what would change is printed as it is shown: status 0 if nothing changes for a client, else 1
pub record PrintsChanges (printer : Printer) (foreseen : Foreseen) (printed : Printed) : Type 0 where
  pub report : Report
  pub is : IsReport foreseen.before (content_after foreseen) (prints_all printer) report
  pub prints : Prints (if report.mattering == 0 then 0 else 1) (shown_lines (string_bytes report.text)) printed

-- An answer is printed in lines: a verdict as `try` does; a text as it is, of a revision or of a proposal; lists of
-- revisions, of ranges and of files in lines; what would change as a report; a site by the printer; and a refusal as its
-- line.
abbrev pub PrintsLines : Asked → Given → Printed → Type 0
PrintsLines asked (given.VerdictIs content verdict) printed = PrintsVerdict (answer_on content None verdict) printed
PrintsLines asked (given.WhyIs content reasons) printed = PrintsWhy (mount_in asked.printer) content reasons printed
PrintsLines asked (given.ListingIs content listing) printed = Prints 0 (listing_text content listing) printed
PrintsLines asked (given.ExportsAre content) printed = Prints 0 (exports_text asked.printer content) printed
PrintsLines asked (given.RangesAre content ranges) printed = Prints 0 (who_text content ranges) printed
PrintsLines asked (given.TextIs stored) printed = Prints 0 stored.body printed
PrintsLines asked (given.RevisionsAre revisions) printed = Prints 0 (log_text (file_in asked.question) revisions) printed
PrintsLines asked (given.ProposalIs proposal) printed = Prints 0 proposal.body printed
PrintsLines asked given.NoRevision printed = Says refused.NoRevision printed
PrintsLines asked (given.FilesAre listed) printed = Prints 0 (files_text listed) printed
PrintsLines asked (given.ForeseenIs foreseen) printed = PrintsChanges asked.printer foreseen printed
PrintsLines asked (given.SiteIs site) printed = PrintsSite false site asked.printer printed
PrintsLines asked (given.RefusedBy refusal) printed = Says (refused.Edit refusal) printed

-- An answer is printed as one object, which is that of HTTP where HTTP has one; the exit status is that of the same
-- answer in lines. (Reasons that are not asked with a verdict have no object.)
abbrev pub PrintsObject : Asked → Given → Printed → Type 0
PrintsObject asked (given.VerdictIs content verdict) printed = Prints (verdict_status verdict) (data_line (verdict_data content None verdict)) printed
PrintsObject asked (given.WhyIs content reasons) printed = PrintsWhy (mount_in asked.printer) content reasons printed
PrintsObject asked (given.ListingIs content listing) printed = Prints 0 (listing_line asked.question content listing) printed
PrintsObject asked (given.ExportsAre content) printed = Prints 0 (data_line (all_exports_data content)) printed
PrintsObject asked (given.RangesAre content ranges) printed = Prints 0 (ranges_line asked.question content ranges) printed
PrintsObject asked (given.TextIs stored) printed = Prints 0 (data_line (file_data (file_in asked.question) stored)) printed
PrintsObject asked (given.RevisionsAre revisions) printed = Prints 0 (data_line (log_data (file_in asked.question) revisions)) printed
PrintsObject asked (given.ProposalIs proposal) printed = Prints 0 (data_line (proposal_data (file_in asked.question) proposal)) printed
PrintsObject asked given.NoRevision printed = SaysObject refused.NoRevision printed
PrintsObject asked (given.FilesAre listed) printed = Prints 0 (data_line (files_data listed)) printed
PrintsObject asked (given.ForeseenIs foreseen) printed = PrintsChangesObject (prints_all asked.printer) foreseen printed
PrintsObject asked (given.SiteIs site) printed = PrintsSite true site asked.printer printed
PrintsObject asked (given.RefusedBy refusal) printed = SaysObject (refused.Edit refusal) printed

-- as one object, if that is asked, and else in lines
abbrev pub PrintsBy : Bool → Asked → Given → Printed → Type 0
PrintsBy true asked answer printed = PrintsObject asked answer printed
PrintsBy false asked answer printed = PrintsLines asked answer printed

abbrev pub PrintsAnswer : Asked → Given → Printed → Type 0
PrintsAnswer asked answer printed = PrintsBy asked.json asked answer printed

-- what is printed of a question by a history: its answer
abbrev pub PrintsByHistory : History → Asked → Printed → Type 0
PrintsByHistory history asked printed = (answer : Given) × AnswersByHistory history asked.question answer × PrintsAnswer asked answer printed

-- what is printed of a question on a database: that it is not one of this project, or the answer by each history that
-- it holds
abbrev pub PrintsByDatabase : Database → Asked → Printed → Type 0
PrintsByDatabase db asked printed = (Says refused.Schema printed × (IsOurs db → ⊥)) ⊎ (IsOurs db × ((history : History) → IsProject db history → PrintsByHistory history asked printed))

-- The answer to a question on the database at a path: by what it holds; or that SQLite does not open it or refused a
-- statement, or that it cannot be read. Out of memory says nothing.
abbrev pub AnswersQuestion : List ℕ → Asked → Result Printed Failure → Type 0
AnswersQuestion path asked (Ok printed) = Says refused.Store printed ⊎ ((db : Database) × PrintsByDatabase db asked printed)
AnswersQuestion path asked (Err failure) = IsUnread (codes "DB") path failure
