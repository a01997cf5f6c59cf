-- What is asked without changing anything, and the answers, as data. (this project's own)
use Rattle.std.specs.Prelude.{◌≡◌, ℕ, Bool, true, false, List, [], ◌∷◌, Option, Some, None, Result, map}
use Rattle.std.specs.String.{string_bytes}
use Rattle.sqlite_trees.specs.declared.store.Store.{Ghosts}
use Rattle.sqlite.specs.Held.{state}
use Rattle.desk_text.specs.Address.{number_of}
use Rattle.desk_policy.specs.Listings.{listing_of}
use Rattle.desk_policy.specs.Policy.{Content}
use Rattle.desk_policy.specs.Verdict.{Grant, verdict_of, verdict_result}
use Rattle.desk_policy.specs.declared.listings.Shown.{Shown as ShownSystem}
use Rattle.desk_policy.specs.declared.verdict.Denial.{Denial}
use Rattle.desk_why.specs.WhyPrints.{why_text}
use Rattle.desk_who.specs.Runs.{Run}
use Rattle.desk_who.specs.Who.{IsWho, range_value}
use Rattle.desk_core.specs.Head.{Newest, Revision}
use Rattle.desk_core.specs.History.{newest_of, revisions_of, standing_of}
use Rattle.desk_core.specs.Site.{IsInForce, site_in}
use Rattle.desk_core.specs.declared.edit.Refusal.{Refusal}
use Rattle.desk_core.specs.declared.proposal.Proposal.{Proposal as Pending}
use Rattle.desk_store.specs.Desk.{History, LeavesTables, Shown, StaysAsItWas, revision_at, signature_of}
use Rattle.desk_store.specs.declared.desk.Signature.{Signature}
use Rattle.desk_service.specs.Files.{AreListed, ListedFiles, files_of}
use Rattle.desk_service.specs.Foreseeing.{Foreseen, IsForeseen, IsRefusedText, foreseen_of}
use Rattle.desk_service.specs.Sites.{IsForeseenSite, IsSiteOf, WholeSite, site_of}
use Rattle.desk_service.specs.declared.questions.Answer.{Answer as LentAnswer}
use Rattle.desk_service.specs.declared.questions.Answer.TheVariants as lent_answer
use Rattle.desk_service.specs.declared.questions.FileQuestion.{FileQuestion}
use Rattle.desk_service.specs.declared.questions.FileQuestion.TheVariants as of_file
use Rattle.desk_service.specs.declared.questions.FileText.{FileText}
use Rattle.desk_service.specs.declared.questions.Looked.{Looked}
use Rattle.desk_service.specs.declared.questions.Looked.TheVariants as looked
use Rattle.desk_service.specs.declared.questions.Question.{Question as LentQuestion}
use Rattle.desk_service.specs.declared.questions.Question.TheVariants as lent

-- a question: by the policy in force, whether a client may mount a path, and why, what it may mount, all exports, and who may mount a
-- path; of a file, its text as of a revision or else the newest, the list of its revisions, and its proposal; which files there are; what
-- would be in force if a file had a text, or that of its proposal; and the whole site in force, or as it would be with such a text
pub data Question : Type 0 where
  Mount : ℕ → List (List ℕ) → Question
  Why : ℕ → List (List ℕ) → Question
  Listing : ℕ → Question
  Exports : Question
  Who : List (List ℕ) → Question
  Text : List ℕ → Option ℕ → Question
  OfFile : List ℕ → FileQuestion → Question
  Files : Question
  Foresee : List ℕ → List ℕ → Question
  ForeseeProposal : List ℕ → Question
  Site : Question
  ForeseeSite : List ℕ → List ℕ → Question
  ForeseeProposedSite : List ℕ → Question

-- a question by value
abbrev pub question_of : LentQuestion → Question
question_of (lent.Mount address path) = Mount (number_of address) path.now
question_of (lent.Why address path) = Why (number_of address) path.now
question_of (lent.Listing address) = Listing (number_of address)
question_of lent.Exports = Exports
question_of (lent.Who path) = Who path.now
question_of (lent.Text name rev) = Text name.now rev
question_of (lent.OfFile name what) = OfFile name.now what
question_of lent.Files = Files
question_of (lent.Foresee name text) = Foresee name.now text.now
question_of (lent.ForeseeProposal name) = ForeseeProposal name.now
question_of lent.Site = Site
question_of (lent.ForeseeSite name text) = ForeseeSite name.now text.now
question_of (lent.ForeseeProposedSite name) = ForeseeProposedSite name.now

-- an answer: by the policy in force, with that policy, a verdict, why it is so, what a client may mount, all exports, and the verdicts
-- on all clients by ranges; a text, a list of revisions, a proposal, or that there is none; the files; what is foreseen of a text, or why
-- the file cannot have it; and a whole site
pub data Answer : Type 0 where
  VerdictIs : Content → Result Grant Denial → Answer
  WhyIs : Content → List ℕ → Answer
  ListingIs : Content → List ShownSystem → Answer
  ExportsAre : Content → Answer
  RangesAre : Content → List (Run (Result Grant Denial)) → Answer
  TextIs : FileText → Answer
  RevisionsAre : List Signature → Answer
  ProposalIs : Pending → Answer
  NoRevision : Answer
  FilesAre : ListedFiles → Answer
  ForeseenIs : Foreseen → Answer
  SiteIs : WholeSite → Answer
  RefusedBy : Refusal → Answer

-- an answer by value
abbrev pub answer_of : {V : Type 0} → (V → Content) → LentAnswer V → Answer
answer_of in_force (lent_answer.Verdict policy verdict) = VerdictIs policy.now (verdict_result verdict)
answer_of in_force (lent_answer.Why view reasons) = WhyIs (in_force view.now) (string_bytes reasons)
answer_of in_force (lent_answer.Listing policy listing) = ListingIs policy.now listing.items
answer_of in_force (lent_answer.Exports policy) = ExportsAre policy.now
answer_of in_force (lent_answer.Who policy ranges) = RangesAre policy.now (map range_value ranges.items)
answer_of in_force (lent_answer.Text text) = TextIs text
answer_of in_force (lent_answer.Revisions revisions) = RevisionsAre revisions
answer_of in_force (lent_answer.Proposal proposal) = ProposalIs proposal.now
answer_of in_force lent_answer.NoRevision = NoRevision
answer_of in_force (lent_answer.Files listed) = FilesAre (files_of listed)
answer_of in_force (lent_answer.Foreseen foreseen) = ForeseenIs (foreseen_of in_force foreseen)
answer_of in_force (lent_answer.Site site) = SiteIs (site_of in_force site)
answer_of in_force (lent_answer.Refused refusal) = RefusedBy refusal

-- a policy that newest revisions put in force is so
abbrev pub TellsInForce : Newest → (Content → Type 0) → Type 0
TellsInForce newest Tells = (content : Content) × IsInForce (site_in newest) content × Tells content

-- a site that newest revisions put in force is so
abbrev pub TellsSite : Newest → (WholeSite → Type 0) → Type 0
TellsSite newest Tells = (site : WholeSite) × IsSiteOf (site_in newest) site × Tells site

-- the answer to why a client may mount a path, or may not, by the policy of a site, with the names that its tables know
abbrev pub why_in : WholeSite → ℕ → List (List ℕ) → Answer
why_in site address path = WhyIs site.content (why_text site.tables.netgroups site.tables.hosts site.content address path)

-- this is a policy, and a path has these ranges under it; there is just one list of them
abbrev pub AreRangesOf : Content → List (List ℕ) → Answer → Type 0
AreRangesOf content path (RangesAre own ranges) = (own ≡ content) × IsWho content path ranges
AreRangesOf content path answer = ⊥

-- who signed a file's revisions
abbrev pub signatures : List ℕ → History → List Signature
signatures file history = map signature_of (revisions_of file history)

-- the revision of a file that is asked for: that of this number, or else the newest
abbrev pub revision_asked : History → List ℕ → Option ℕ → Option Revision
revision_asked history file (Some rev) = revision_at history file rev
revision_asked history file None = newest_of history file

-- the text of a revision, with all that is told of it
abbrev pub text_of : Revision → FileText
text_of r = record { rev = r.rev; author = r.author; approver = r.approver; profile = r.profile; body = r.body }

-- the answer that a revision is, or that there is none
abbrev pub text_answer : Option Revision → Answer
text_answer (Some r) = TextIs (text_of r)
text_answer None = NoRevision

-- the answer that a list of revisions is, or that there is none
abbrev pub revisions_answer : List Signature → Answer
revisions_answer [] = NoRevision
revisions_answer (first ∷ others) = RevisionsAre (first ∷ others)

-- the answer that a proposal is, or that there is none
abbrev pub proposal_answer : Option Pending → Answer
proposal_answer (Some p) = ProposalIs p
proposal_answer None = NoRevision

-- these are the files of how files stand
abbrev pub AreFiles : History → Answer → Type 0
AreFiles history (FilesAre listed) = AreListed (standing_of history) listed
AreFiles history answer = ⊥

-- what is foreseen of a text of a file, which that proposal has, by newest revisions; or why the file cannot have it
abbrev pub ForeseesText : Newest → List ℕ → List ℕ → Option Pending → Answer → Type 0
ForeseesText newest file text proposal (ForeseenIs f) = IsForeseen newest file text proposal f
ForeseesText newest file text proposal (RefusedBy refusal) = IsRefusedText newest file text refusal
ForeseesText newest file text proposal answer = ⊥

-- what is foreseen of the text of a proposal; or that there is none
abbrev pub ForeseesProposal : Newest → List ℕ → Option Pending → Answer → Type 0
ForeseesProposal newest file (Some p) answer = ForeseesText newest file p.body (Some p) answer
ForeseesProposal newest file None answer = answer ≡ NoRevision

-- this is the site that newest revisions put in force
abbrev pub IsSite : Newest → Answer → Type 0
IsSite newest (SiteIs site) = IsSiteOf (site_in newest) site
IsSite newest answer = ⊥

-- the site with a text of a file, by newest revisions; or why the file cannot have it
abbrev pub ForeseesSite : Newest → List ℕ → List ℕ → Answer → Type 0
ForeseesSite newest file text (SiteIs site) = IsForeseenSite newest file text site
ForeseesSite newest file text (RefusedBy refusal) = IsRefusedText newest file text refusal
ForeseesSite newest file text answer = ⊥

-- the site with the text of a proposal; or that there is none
abbrev pub ForeseesProposedSite : Newest → List ℕ → Option Pending → Answer → Type 0
ForeseesProposedSite newest file (Some p) answer = ForeseesSite newest file p.body answer
ForeseesProposedSite newest file None answer = answer ≡ NoRevision

-- the answer to what is asked of a file by its name alone
abbrev pub AnswersOfFile : History → List ℕ → FileQuestion → Answer → Type 0
AnswersOfFile history file of_file.Revisions answer = answer ≡ revisions_answer (signatures file history)
AnswersOfFile history file of_file.Proposal answer = answer ≡ proposal_answer ((standing_of history).proposals file)

-- The answer to a question by a history: of the policy in force by it, or of what it has of files.
abbrev pub AnswersByHistory : History → Question → Answer → Type 0
AnswersByHistory history (Mount address path) answer = TellsInForce (newest_of history) (λ content. answer ≡ VerdictIs content (verdict_of content address path))
AnswersByHistory history (Why address path) answer = TellsSite (newest_of history) (λ site. answer ≡ why_in site address path)
AnswersByHistory history (Listing address) answer = TellsInForce (newest_of history) (λ content. answer ≡ ListingIs content (listing_of content address))
AnswersByHistory history Exports answer = TellsInForce (newest_of history) (λ content. answer ≡ ExportsAre content)
AnswersByHistory history (Who path) answer = TellsInForce (newest_of history) (λ content. AreRangesOf content path answer)
AnswersByHistory history (Text file rev) answer = answer ≡ text_answer (revision_asked history file rev)
AnswersByHistory history (OfFile file what) answer = AnswersOfFile history file what answer
AnswersByHistory history Files answer = AreFiles history answer
AnswersByHistory history (Foresee file text) answer = ForeseesText (newest_of history) file text None answer
AnswersByHistory history (ForeseeProposal file) answer = ForeseesProposal (newest_of history) file ((standing_of history).proposals file) answer
AnswersByHistory history Site answer = IsSite (newest_of history) answer
AnswersByHistory history (ForeseeSite file text) answer = ForeseesSite (newest_of history) file text answer
AnswersByHistory history (ForeseeProposedSite file) answer = ForeseesProposedSite (newest_of history) file ((standing_of history).proposals file) answer

-- a question takes statements: the text of a numbered revision and the list of revisions take two each, for what was
-- stored and for who approved it, and the second is not made if the first is refused; any other question takes none
abbrev pub takes_statements : Question → Bool
takes_statements (Text file (Some rev)) = true
takes_statements (OfFile file of_file.Revisions) = true
takes_statements question = false

-- the statements that a question takes were made
abbrev pub IsReady : Question → Looked → Type 0
IsReady question looked.Nothing = takes_statements question ≡ false
IsReady question found = Unit {0}

-- what the statements of a question found is its answer by a history
abbrev pub IsLookedUp : History → Question → Looked → Type 0
IsLookedUp history question looked.Nothing = Unit {0}
IsLookedUp history question (looked.Text text) = AnswersByHistory history question (TextIs text)
IsLookedUp history question (looked.Revisions revisions) = AnswersByHistory history question (RevisionsAre revisions)
IsLookedUp history question looked.NoRevision = AnswersByHistory history question NoRevision

-- A desk was only looked at: it is as it was, wherever it stood, and so are its tables and what a crash leaves.
abbrev pub OnlyLooks : {S V : Type 0} → Ghosts S → Shown S V → Shown S V → Type 0
OnlyLooks g old new = StaysAsItWas g old new × LeavesTables (state g old.conn) (state g new.conn)
