-- An object is printed as the answer that it is.
use Rattle.std.proofs.Common.{◌≡◌, ℕ, IfOk, List, None, ap, map, subst}
use Rattle.std.specs.String.{string_bytes}
use Rattle.serde_json.specs.Written.{compact_text}
use Rattle.desk_policy.specs.Policy.{Content}
use Rattle.desk_policy.specs.Verdict.{verdict_result}
use Rattle.desk_policy.specs.declared.listings.Shown.{Shown}
use Rattle.desk_policy.specs.declared.verdict.Verdict.{Verdict}
use Rattle.desk_who.specs.Who.{range_value}
use Rattle.desk_who.specs.declared.runs.Run.{Run}
use Rattle.desk_store.specs.declared.desk.Signature.{Signature}
use Rattle.desk_service.specs.Files.{files_of}
use Rattle.desk_service.specs.Questions.{ExportsAre, FilesAre, ListingIs, ProposalIs, RangesAre, RevisionsAre, TextIs, VerdictIs, answer_of, question_of}
use Rattle.desk_service.specs.Sites.{site_of}
use Rattle.desk_service.specs.declared.questions.Answer.{Answer as LentAnswer}
use Rattle.desk_http_bodies.specs.Revisions.{file_data, proposal_data}
use Rattle.desk_http_bodies.specs.Verdicts.{verdict_data}
use Rattle.desk_json.specs.Exports.{all_exports_data}
use Rattle.desk_json.specs.Files.{files_data}
use Rattle.desk_json.specs.Log.{log_data}
use Rattle.cli_output.specs.Printed.{PrintsText}
use Rattle.cli_verdict.specs.ObjectLine.{data_line}
use Rattle.cli_questions.specs.Objects.{listing_line, ranges_line, verdict_status}
use Rattle.cli_questions.specs.PrivateAnswering.{TriesToPrintWhy}
use Rattle.cli_questions.specs.Questions.{asked_of, file_in, mount_in, printer_of}
use Rattle.cli_questions.proofs.DeskAnswers.{site_told, text_told, why_told}
use Rattle.cli_questions.proofs.objects.print_object.Goals as goal

pub returns-in-Verdict : goal.returns-in-Verdict
returns-in-Verdict c =
    let verdict = verdict_result c.in-Verdict.verdict in
    text_told (asked_of c.args.asked) (answer_of (λ content. content) c.args.answer) (VerdictIs c.in-Verdict.policy.now verdict) (verdict_status verdict) (data_line (verdict_data c.in-Verdict.policy.now None verdict)) c.print_verdict_object.result
    (ap (λ (answer : LentAnswer Content). answer_of (λ content. content) answer) c.in-Verdict.is) (λ printed prints. prints) c.print_verdict_object.ensures

pub returns-in-Why : goal.returns-in-Why
returns-in-Why c =
    why_told (asked_of c.args.asked) (answer_of (λ content. content) c.args.answer) c.in-Why.view.now (string_bytes c.in-Why.reasons) c.print_why.result
    (ap (λ (answer : LentAnswer Content). answer_of (λ content. content) answer) c.in-Why.is)
    (subst (λ (reasons : List ℕ). TriesToPrintWhy (mount_in (printer_of c.args.asked.printer)) c.in-Why.view.now reasons c.print_why.result) c.as_str.ensures.value c.print_why.ensures)

pub returns-in-Listing : goal.returns-in-Listing
returns-in-Listing c =
    let bytes : List ℕ = listing_line (question_of c.args.asked.question) c.in-Listing.policy.now c.in-Listing.listing.items in
    text_told (asked_of c.args.asked) (answer_of (λ content. content) c.args.answer) (ListingIs c.in-Listing.policy.now c.in-Listing.listing.items) 0 bytes c.print_text.result
    (ap (λ (answer : LentAnswer Content). answer_of (λ content. content) answer) c.in-Listing.is) (λ printed prints. prints)
    (c.print_text.ensures bytes
    (subst (λ (listing : List Shown). IfOk c.listing_line.result (λ text. string_bytes text ≡ listing_line (question_of c.args.asked.question) c.in-Listing.policy.now listing)) c.as_slice.ensures.value c.listing_line.ensures))

pub returns-in-Exports : goal.returns-in-Exports
returns-in-Exports c =
    let bytes : List ℕ = data_line (all_exports_data c.in-Exports.policy.now) in
    text_told (asked_of c.args.asked) (answer_of (λ content. content) c.args.answer) (ExportsAre c.in-Exports.policy.now) 0 bytes c.print_text-in-Exports.result
    (ap (λ (answer : LentAnswer Content). answer_of (λ content. content) answer) c.in-Exports.is) (λ printed prints. prints)
    (c.print_text-in-Exports.ensures bytes (c.line_of.ensures (compact_text (all_exports_data c.in-Exports.policy.now)) c.exports_object.ensures))

pub returns-in-Who : goal.returns-in-Who
returns-in-Who c =
    let bytes : List ℕ = ranges_line (question_of c.args.asked.question) c.in-Who.policy.now (map range_value c.in-Who.ranges.items) in
    text_told (asked_of c.args.asked) (answer_of (λ content. content) c.args.answer) (RangesAre c.in-Who.policy.now (map range_value c.in-Who.ranges.items)) 0 bytes c.print_text-in-Who.result
    (ap (λ (answer : LentAnswer Content). answer_of (λ content. content) answer) c.in-Who.is) (λ printed prints. prints)
    (c.print_text-in-Who.ensures bytes
    (subst (λ (ranges : List (Run Verdict)). IfOk c.ranges_line.result (λ text. string_bytes text ≡ ranges_line (question_of c.args.asked.question) c.in-Who.policy.now (map range_value ranges))) c.as_slice-in-Who.ensures.value c.ranges_line.ensures))

pub returns-in-Text : goal.returns-in-Text
returns-in-Text c =
    let file : List ℕ = file_in (question_of c.args.asked.question) in
    text_told (asked_of c.args.asked) (answer_of (λ content. content) c.args.answer) (TextIs c.in-Text.text) 0 (data_line (file_data file c.in-Text.text)) c.print_revision_object.result
    (ap (λ (answer : LentAnswer Content). answer_of (λ content. content) answer) c.in-Text.is) (λ printed prints. prints)
    (subst (λ (name : List ℕ). PrintsText 0 (data_line (file_data name c.in-Text.text)) c.print_revision_object.result) c.name_in.ensures c.print_revision_object.ensures)

pub returns-in-Revisions : goal.returns-in-Revisions
returns-in-Revisions c =
    let file : List ℕ = file_in (question_of c.args.asked.question) in
    let bytes : List ℕ = data_line (log_data file c.in-Revisions.revisions) in
    text_told (asked_of c.args.asked) (answer_of (λ content. content) c.args.answer) (RevisionsAre c.in-Revisions.revisions) 0 bytes c.print_text-in-Revisions.result
    (ap (λ (answer : LentAnswer Content). answer_of (λ content. content) answer) c.in-Revisions.is) (λ printed prints. prints)
    (c.print_text-in-Revisions.ensures bytes
    (c.line_of-in-Revisions.ensures (compact_text (log_data file c.in-Revisions.revisions))
    (subst (λ (name : List ℕ). IfOk c.log_object.result (λ text. string_bytes text ≡ compact_text (log_data name c.in-Revisions.revisions))) c.name_in-in-Revisions.ensures
    (subst (λ (revisions : List Signature). IfOk c.log_object.result (λ text. string_bytes text ≡ compact_text (log_data c.name_in-in-Revisions.result.now revisions))) c.as_slice-in-Revisions.ensures c.log_object.ensures))))

pub returns-in-Proposal : goal.returns-in-Proposal
returns-in-Proposal c =
    text_told (asked_of c.args.asked) (answer_of (λ content. content) c.args.answer) (ProposalIs c.in-Proposal.proposal.now) 0 (data_line (proposal_data (file_in (question_of c.args.asked.question)) c.in-Proposal.proposal.now)) c.print_proposal_object.result
    (ap (λ (answer : LentAnswer Content). answer_of (λ content. content) answer) c.in-Proposal.is) (λ printed prints. prints) c.print_proposal_object.ensures

pub returns-in-Files : goal.returns-in-Files
returns-in-Files c =
    let bytes : List ℕ = data_line (files_data (files_of c.in-Files.files)) in
    text_told (asked_of c.args.asked) (answer_of (λ content. content) c.args.answer) (FilesAre (files_of c.in-Files.files)) 0 bytes c.print_text-in-Files.result
    (ap (λ (answer : LentAnswer Content). answer_of (λ content. content) answer) c.in-Files.is) (λ printed prints. prints)
    (c.print_text-in-Files.ensures bytes (c.line_of-in-Files.ensures (compact_text (files_data (files_of c.in-Files.files))) c.files_object.ensures))

pub returns-in-Site : goal.returns-in-Site
returns-in-Site c =
    site_told (asked_of c.args.asked) (answer_of (λ content. content) c.args.answer) (site_of (λ content. content) c.in-Site.site) c.print_site.result
    (ap (λ (answer : LentAnswer Content). answer_of (λ content. content) answer) c.in-Site.is) c.print_site.ensures
