-- A text is printed as the answer that it is.
use Rattle.std.proofs.Common.{◌≡◌, ℕ, IfOk, List, ap, map, subst}
use Rattle.std.specs.String.{string_bytes}
use Rattle.desk_policy.specs.ListingPrints.{listing_text}
use Rattle.desk_policy.specs.Policy.{Content}
use Rattle.desk_policy.specs.declared.listings.Shown.{Shown}
use Rattle.desk_policy.specs.declared.verdict.Verdict.{Verdict}
use Rattle.desk_who.specs.Who.{range_value}
use Rattle.desk_who.specs.WhoPrints.{who_text}
use Rattle.desk_who.specs.declared.runs.Run.{Run}
use Rattle.desk_store.specs.declared.desk.Signature.{Signature}
use Rattle.desk_service.specs.Files.{files_of}
use Rattle.desk_service.specs.Questions.{ExportsAre, FilesAre, ListingIs, RangesAre, RevisionsAre, answer_of, question_of}
use Rattle.desk_service.specs.Sites.{site_of}
use Rattle.desk_service.specs.declared.questions.Answer.{Answer as LentAnswer}
use Rattle.cli_questions.specs.FileLines.{files_text}
use Rattle.cli_questions.specs.PrivateAnswering.{TriesToPrintWhy}
use Rattle.cli_questions.specs.Questions.{asked_of, exports_text, file_in, mount_in, printer_of}
use Rattle.cli_questions.specs.RevisionLines.{log_text}
use Rattle.cli_questions.proofs.DeskAnswers.{site_printed, text_printed, why_printed}
use Rattle.cli_questions.proofs.printing.print_lines.Goals as goal

pub returns-in-Listing : goal.returns-in-Listing
returns-in-Listing c =
    let bytes : List ℕ = listing_text c.in-Listing.policy.now c.in-Listing.listing.items in
    text_printed (asked_of c.args.asked) (answer_of (λ content. content) c.args.answer) (ListingIs c.in-Listing.policy.now c.in-Listing.listing.items) bytes c.print_text.result
    (ap (λ (answer : LentAnswer Content). answer_of (λ content. content) answer) c.in-Listing.is) (λ printed prints. prints)
    (c.print_text.ensures bytes
    (subst (λ (listing : List Shown). IfOk c.listing_text.result (λ text. string_bytes text ≡ listing_text c.in-Listing.policy.now listing)) c.as_slice.ensures.value c.listing_text.ensures))

pub returns-in-Exports : goal.returns-in-Exports
returns-in-Exports c =
    text_printed (asked_of c.args.asked) (answer_of (λ content. content) c.args.answer) (ExportsAre c.in-Exports.policy.now) (exports_text (printer_of c.args.asked.printer) c.in-Exports.policy.now) c.print_text-in-Exports.result
    (ap (λ (answer : LentAnswer Content). answer_of (λ content. content) answer) c.in-Exports.is) (λ printed prints. prints)
    (c.print_text-in-Exports.ensures (exports_text (printer_of c.args.asked.printer) c.in-Exports.policy.now) c.exports_text.ensures)

pub returns-in-Who : goal.returns-in-Who
returns-in-Who c =
    let bytes : List ℕ = who_text c.in-Who.policy.now (map range_value c.in-Who.ranges.items) in
    text_printed (asked_of c.args.asked) (answer_of (λ content. content) c.args.answer) (RangesAre c.in-Who.policy.now (map range_value c.in-Who.ranges.items)) bytes c.print_text-in-Who.result
    (ap (λ (answer : LentAnswer Content). answer_of (λ content. content) answer) c.in-Who.is) (λ printed prints. prints)
    (c.print_text-in-Who.ensures bytes
    (subst (λ (ranges : List (Run Verdict)). IfOk c.who_text.result (λ text. string_bytes text ≡ who_text c.in-Who.policy.now (map range_value ranges))) c.as_slice-in-Who.ensures.value c.who_text.ensures))

pub returns-in-Revisions : goal.returns-in-Revisions
returns-in-Revisions c =
    let file : List ℕ = file_in (question_of c.args.asked.question) in
    text_printed (asked_of c.args.asked) (answer_of (λ content. content) c.args.answer) (RevisionsAre c.in-Revisions.revisions) (log_text file c.in-Revisions.revisions) c.print_text-in-Revisions.result
    (ap (λ (answer : LentAnswer Content). answer_of (λ content. content) answer) c.in-Revisions.is) (λ printed prints. prints)
    (c.print_text-in-Revisions.ensures (log_text file c.in-Revisions.revisions)
    (subst (λ (name : List ℕ). IfOk c.log_text.result (λ text. string_bytes text ≡ log_text name c.in-Revisions.revisions)) c.name_in-in-Revisions.ensures
    (subst (λ (revisions : List Signature). IfOk c.log_text.result (λ text. string_bytes text ≡ log_text c.name_in-in-Revisions.result.now revisions)) c.as_slice-in-Revisions.ensures c.log_text.ensures)))

pub returns-in-Files : goal.returns-in-Files
returns-in-Files c =
    text_printed (asked_of c.args.asked) (answer_of (λ content. content) c.args.answer) (FilesAre (files_of c.in-Files.files)) (files_text (files_of c.in-Files.files)) c.print_text-in-Files.result
    (ap (λ (answer : LentAnswer Content). answer_of (λ content. content) answer) c.in-Files.is) (λ printed prints. prints)
    (c.print_text-in-Files.ensures (files_text (files_of c.in-Files.files)) c.files_text.ensures)

pub returns-in-Why : goal.returns-in-Why
returns-in-Why c =
    why_printed (asked_of c.args.asked) (answer_of (λ content. content) c.args.answer) c.in-Why.view.now (string_bytes c.in-Why.reasons) c.print_why.result
    (ap (λ (answer : LentAnswer Content). answer_of (λ content. content) answer) c.in-Why.is)
    (subst (λ (reasons : List ℕ). TriesToPrintWhy (mount_in (printer_of c.args.asked.printer)) c.in-Why.view.now reasons c.print_why.result) c.as_str.ensures.value c.print_why.ensures)

pub returns-in-Site : goal.returns-in-Site
returns-in-Site c =
    site_printed (asked_of c.args.asked) (answer_of (λ content. content) c.args.answer) (site_of (λ content. content) c.in-Site.site) c.print_site.result
    (ap (λ (answer : LentAnswer Content). answer_of (λ content. content) answer) c.in-Site.is) c.print_site.ensures
