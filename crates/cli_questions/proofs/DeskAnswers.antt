-- What a desk on a copy answers is an answer by the database of the copy, for `answering`.
use Rattle.std.proofs.Common.{◌≡◌, ℕ, Bool, true, false, List, [], ◌∷◌, codes, inl, inr, Option, Some, None, Result, Ok, Err, ap, cond, refl, subst, sym}
use Rattle.sqlite_trees.specs.View.{doubt}
use Rattle.sqlite_trees.specs.declared.store.Store.{Ghosts}
use Rattle.desk_policy.specs.Policy.{Content}
use Rattle.desk_core.specs.Head.{Newest, Revision}
use Rattle.desk_core.specs.History.{newest_of, standing_of}
use Rattle.desk_core.specs.declared.proposal.Proposal.{Proposal as Pending}
use Rattle.desk_store.specs.Desk.{History, Shown, StandsAt}
use Rattle.desk_store.specs.Open.{IsOurs}
use Rattle.desk_store.specs.Rows.{IsOfTask}
use Rattle.desk_store.specs.declared.error.DeskError.{DeskError}
use Rattle.desk_store.specs.declared.error.DeskError.TheVariants as error
use Rattle.desk_store.specs.declared.error.StoreFault.{StoreFault}
use Rattle.desk_store.specs.declared.error.Task.TheVariants as task
use Rattle.desk_store.specs.declared.desk.Signature.{Signature}
use Rattle.desk_service.specs.Foreseeing.{Foreseen}
use Rattle.desk_service.specs.Questions.{Answer, AnswersByHistory, Exports, Files, Foresee, ForeseeProposal, ForeseeProposedSite, ForeseeSite, ForeseenIs, ForeseesProposal, ForeseesProposedSite, IsLookedUp, Listing, Mount, OfFile, Question, Site, SiteIs, Text, Who, Why, WhyIs, proposal_answer, revision_asked, revisions_answer, signatures, text_answer}
use Rattle.desk_service.specs.Sites.{WholeSite}
use Rattle.desk_service.specs.declared.questions.FileQuestion.TheVariants as of_file
use Rattle.desk_service.specs.declared.questions.Looked.{Looked}
use Rattle.desk_service.specs.declared.refused.Refused.TheVariants as refused
use Rattle.cli_output.specs.Failure.{IsUnread}
use Rattle.cli_output.specs.Printed.{Prints, PrintsText}
use Rattle.cli_output.specs.ShownLines.{shown_lines}
use Rattle.cli_output.specs.declared.failure.Failure.{Failure}
use Rattle.cli_output.specs.declared.printed.Printed.{Printed}
use Rattle.cli_verdict.specs.TryText.{MountQuestion}
use Rattle.cli_database_files.specs.Copy.{is_out_of_memory}
use Rattle.cli_desk.specs.Desks.{HasNoCopiedDesk, IsCopied}
use Rattle.cli_desk.specs.RefusalNotes.{IsRefusedBy, copy_error}
use Rattle.cli_desk.specs.RefusalLines.{IsRefused}
use Rattle.cli_questions.specs.PrivateAnswering.{AnswersOnDesk, AnswersWith, HasHistory, IsSound, TriesToPrint, TriesToPrintLines, TriesToPrintObject, TriesToPrintSite, TriesToPrintWhy}
use Rattle.cli_questions.specs.Questions.{AnswersQuestion, Asked, Breaches, Changes, Mounts, Plain, Printer, PrintsBy, PrintsLines, PrintsObject, PrintsSite, PrintsWhy, Ranges, Terms, exports_by, mount_in}

-- a connection whose disk told no lie
pub good_disk : (is_clean : Bool) → is_clean ≡ true → doubt is_clean ≡ 0
unfolding doubt
good_disk is_clean e = ap doubt e

-- a desk on a copy stands at some history
pub has_history : {S V : Type 0} (g : Ghosts S) (desk : Shown S V) → IsCopied g desk → HasHistory g desk
has_history g desk copied =
    let ours : IsOurs copied.0 = copied.1.0 in
    (ours.0, copied.1.1 ours.0 ours.1)

-- the answer of a desk on a copy is one by the database at a path
pub at_path : {S V : Type 0} (g : Ghosts S) (desk : Shown S V) (path : List ℕ) (asked : Asked) (result : Result Printed Failure) → IsCopied g desk → AnswersOnDesk g desk asked result → AnswersQuestion path asked result
at_path g desk path asked (Ok printed) copied (inl store) = inl store
at_path g desk path asked (Ok printed) copied (inr by) = inr (copied.0, inr (copied.1.0, λ history project. by history (copied.1.1 history project)))
at_path g desk path asked (Err failure) copied is = subst (IsUnread (codes "DB") path) (sym is) tt

-- there is no desk on a copy
pub no_desk : (path : List ℕ) (asked : Asked) (result : Result Printed Failure) → HasNoCopiedDesk path result → AnswersQuestion path asked result
no_desk path asked (Ok printed) (inl store) = inl store
no_desk path asked (Ok printed) (inr schema) = inr (schema.1.0, inl (schema.0, schema.1.1))
no_desk path asked (Err failure) unread = unread

-- the answer by what statements have found is an answer by the desk before them
pub after_statements : {S V : Type 0} (g : Ghosts S) (old new : Shown S V) (asked : Asked) (looked : Looked) (result : Result Printed Failure)
    → ((history : History) → StandsAt g old history [] → StandsAt g new history [])
    → ((history : History) → StandsAt g old history [] → IsLookedUp history asked.question looked)
    → AnswersWith g new asked looked result → AnswersOnDesk g old asked result
after_statements g old new asked looked (Ok printed) stands found by = inr (λ history stood. by history (stands history stood) (found history stood))
after_statements g old new asked looked (Err failure) stands found is = is

store_refused : {S V : Type 0} (g : Ghosts S) (desk : Shown S V) (asked : Asked) (result : Result Printed Failure) → IsRefused refused.Store result → AnswersOnDesk g desk asked result
store_refused g desk asked (Ok printed) is = inl is
store_refused g desk asked (Err failure) is = is

-- a statement was refused on a copy, or there was no memory
fault_refused : {S V : Type 0} (g : Ghosts S) (desk : Shown S V) (asked : Asked) (fault : StoreFault) (out : Bool) (result : Result Printed Failure) → IsRefusedBy (cond out error.Memory (error.Store fault)) result → AnswersOnDesk g desk asked result
fault_refused g desk asked fault true result tells = subst (AnswersOnDesk g desk asked) (sym tells) refl
fault_refused g desk asked fault false result tells = store_refused g desk asked result tells

-- the statements of a question fail
pub look_fails : {S V : Type 0} (g : Ghosts S) (desk : Shown S V) (asked : Asked) (failed : DeskError) (result : Result Printed Failure) → IsOfTask task.ReadRevisions failed → IsRefusedBy (copy_error failed) result → AnswersOnDesk g desk asked result
look_fails g desk asked (error.Store fault) result look tells = fault_refused g desk asked fault (is_out_of_memory fault.error) result tells
look_fails g desk asked error.Memory result look tells = subst (AnswersOnDesk g desk asked) (sym tells) refl
look_fails g desk asked error.Schema result (inl memory) tells = absurd (cc)
look_fails g desk asked error.Schema result (inr (fault, known, is)) tells = absurd (cc)
look_fails g desk asked (error.Refused refusal) result (inl memory) tells = absurd (cc)
look_fails g desk asked (error.Refused refusal) result (inr (fault, known, is)) tells = absurd (cc)

proposal_sound : (history : History) (file : List ℕ) (pending : Option Pending) (foreseen : Foreseen) → ForeseesProposal (newest_of history) file pending (ForeseenIs foreseen) → IsSound (ForeseenIs foreseen)
proposal_sound history file (Some p) foreseen by = (file, by.own)
proposal_sound history file None foreseen by = absurd (cc)

not_text : (found : Option Revision) (foreseen : Foreseen) → ForeseenIs foreseen ≡ text_answer found → ⊥
not_text (Some r) foreseen is = absurd (cc)
not_text None foreseen is = absurd (cc)

not_revisions : (found : List Signature) (foreseen : Foreseen) → ForeseenIs foreseen ≡ revisions_answer found → ⊥
not_revisions [] foreseen is = absurd (cc)
not_revisions (first ∷ others) foreseen is = absurd (cc)

not_proposal : (found : Option Pending) (foreseen : Foreseen) → ForeseenIs foreseen ≡ proposal_answer found → ⊥
not_proposal (Some p) foreseen is = absurd (cc)
not_proposal None foreseen is = absurd (cc)

not_proposed_site : (newest : Newest) (file : List ℕ) (pending : Option Pending) (foreseen : Foreseen) → ForeseesProposedSite newest file pending (ForeseenIs foreseen) → ⊥
not_proposed_site newest file (Some p) foreseen by = by
not_proposed_site newest file None foreseen by = absurd (cc)

foreseen_sound : (history : History) (question : Question) (foreseen : Foreseen) → AnswersByHistory history question (ForeseenIs foreseen) → IsSound (ForeseenIs foreseen)
foreseen_sound history (Mount address path) foreseen by = absurd (let e = by.2 in cc)
foreseen_sound history (Why address path) foreseen by = absurd (let e = by.2 in cc)
foreseen_sound history (Listing address) foreseen by = absurd (let e = by.2 in cc)
foreseen_sound history Exports foreseen by = absurd (let e = by.2 in cc)
foreseen_sound history (Who path) foreseen by = absurd by.2
foreseen_sound history (Text file rev) foreseen by = absurd (not_text (revision_asked history file rev) foreseen by)
foreseen_sound history (OfFile file of_file.Revisions) foreseen by = absurd (not_revisions (signatures file history) foreseen by)
foreseen_sound history (OfFile file of_file.Proposal) foreseen by = absurd (not_proposal ((standing_of history).proposals file) foreseen by)
foreseen_sound history Files foreseen by = absurd by
foreseen_sound history (Foresee file text) foreseen by = (file, by.own)
foreseen_sound history (ForeseeProposal file) foreseen by = proposal_sound history file ((standing_of history).proposals file) foreseen by
foreseen_sound history Site foreseen by = absurd by
foreseen_sound history (ForeseeSite file text) foreseen by = absurd by
foreseen_sound history (ForeseeProposedSite file) foreseen by = absurd (not_proposed_site (newest_of history) file ((standing_of history).proposals file) foreseen by)

-- what is foreseen is of the policy in force
pub sound : (history : History) (question : Question) (answer : Answer) → AnswersByHistory history question answer → IsSound answer
sound history question (ForeseenIs foreseen) by = foreseen_sound history question foreseen by
sound history question answer by = tt

-- an answer is printed
pub printed_by : {S V : Type 0} (g : Ghosts S) (desk : Shown S V) (asked : Asked) (looked : Looked) (answer : Answer) (result : Result Printed Failure)
    → ((history : History) → StandsAt g desk history [] → IsLookedUp history asked.question looked → AnswersByHistory history asked.question answer)
    → TriesToPrint asked answer result → AnswersWith g desk asked looked result
printed_by g desk asked looked answer (Ok printed) by prints = λ history stands found. (answer, by history stands found, prints)
printed_by g desk asked looked answer (Err failure) by prints = prints

-- an answer is printed as an object, if that is asked
pub object_printed : (asked : Asked) (answer : Answer) (result : Result Printed Failure) → asked.json ≡ true → TriesToPrintObject asked answer result → TriesToPrint asked answer result
object_printed asked answer (Ok printed) e is = subst (λ (json : Bool). PrintsBy json asked answer printed) (sym e) is
object_printed asked answer (Err failure) e is = is

-- and else in lines
pub lines_printed : (asked : Asked) (answer : Answer) (result : Result Printed Failure) → asked.json ≡ false → TriesToPrintLines asked answer result → TriesToPrint asked answer result
lines_printed asked answer (Ok printed) e is = subst (λ (json : Bool). PrintsBy json asked answer printed) (sym e) is
lines_printed asked answer (Err failure) e is = is

-- why a mount is granted or denied is printed, by the printer
pub why_printed : (asked : Asked) (answer : Answer) (content : Content) (reasons : List ℕ) (result : Result Printed Failure) → answer ≡ WhyIs content reasons
    → TriesToPrintWhy (mount_in asked.printer) content reasons result → TriesToPrintLines asked answer result
why_printed asked answer content reasons (Ok printed) e is = subst (λ (a : Answer). PrintsLines asked a printed) (sym e) is
why_printed asked answer content reasons (Err failure) e is = is

-- so it is where an object is asked for
pub why_told : (asked : Asked) (answer : Answer) (content : Content) (reasons : List ℕ) (result : Result Printed Failure) → answer ≡ WhyIs content reasons
    → TriesToPrintWhy (mount_in asked.printer) content reasons result → TriesToPrintObject asked answer result
why_told asked answer content reasons (Ok printed) e is = subst (λ (a : Answer). PrintsObject asked a printed) (sym e) is
why_told asked answer content reasons (Err failure) e is = is

-- the same, printed alone
pub alone : (content : Content) (reasons : List ℕ) (result : Result Printed Failure) → PrintsText 0 (shown_lines reasons) result → TriesToPrintWhy None content reasons result
alone content reasons (Ok printed) is = is
alone content reasons (Err failure) is = is

-- a printer that is not for sites
abbrev pub shows_exports : Printer → Bool
shows_exports Plain = true
shows_exports Terms = true
shows_exports (Changes all) = true
shows_exports (Breaches expected) = false
shows_exports (Mounts question) = false
shows_exports (Ranges path mountd) = false

exports_shown : (json : Bool) (site : WholeSite) (printer : Printer) (printed : Printed) → shows_exports printer ≡ true → Prints 0 (exports_by json printer site.content) printed → PrintsSite json site printer printed
exports_shown json site Plain printed e is = is
exports_shown json site Terms printed e is = is
exports_shown json site (Changes all) printed e is = is
exports_shown json site (Breaches expected) printed e is = absurd (cc)
exports_shown json site (Mounts question) printed e is = absurd (cc)
exports_shown json site (Ranges path mountd) printed e is = absurd (cc)

-- all exports of a site are printed
pub exports_printed : (json : Bool) (site : WholeSite) (printer : Printer) (result : Result Printed Failure) → shows_exports printer ≡ true → PrintsText 0 (exports_by json printer site.content) result → TriesToPrintSite json site printer result
exports_printed json site printer (Ok printed) e is = exports_shown json site printer printed e is
exports_printed json site printer (Err failure) e is = is

-- a site that is an answer is printed in lines
pub site_printed : (asked : Asked) (answer : Answer) (site : WholeSite) (result : Result Printed Failure) → answer ≡ SiteIs site → TriesToPrintSite false site asked.printer result → TriesToPrintLines asked answer result
site_printed asked answer site (Ok printed) e is = subst (λ (a : Answer). PrintsLines asked a printed) (sym e) is
site_printed asked answer site (Err failure) e is = is

-- the same as an object
pub site_told : (asked : Asked) (answer : Answer) (site : WholeSite) (result : Result Printed Failure) → answer ≡ SiteIs site → TriesToPrintSite true site asked.printer result → TriesToPrintObject asked answer result
site_told asked answer site (Ok printed) e is = subst (λ (a : Answer). PrintsObject asked a printed) (sym e) is
site_told asked answer site (Err failure) e is = is

-- a text that is an answer is printed
pub text_printed : (asked : Asked) (answer known : Answer) (bytes : List ℕ) (result : Result Printed Failure)
    → answer ≡ known → ((printed : Printed) → Prints 0 bytes printed → PrintsLines asked known printed)
    → PrintsText 0 bytes result → TriesToPrintLines asked answer result
text_printed asked answer known bytes (Ok printed) e is prints = subst (λ (a : Answer). PrintsLines asked a printed) (sym e) (is printed prints)
text_printed asked answer known bytes (Err failure) e is prints = prints

-- an object that is an answer is printed
pub text_told : (asked : Asked) (answer known : Answer) (status : ℕ) (bytes : List ℕ) (result : Result Printed Failure)
    → answer ≡ known → ((printed : Printed) → Prints status bytes printed → PrintsObject asked known printed)
    → PrintsText status bytes result → TriesToPrintObject asked answer result
text_told asked answer known status bytes (Ok printed) e is prints = subst (λ (a : Answer). PrintsObject asked a printed) (sym e) (is printed prints)
text_told asked answer known status bytes (Err failure) e is prints = prints
