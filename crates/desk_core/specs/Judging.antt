-- What an edit is answered: by the first case that holds, or else by the site with its text, and by whether the
-- file is guarded. (this project's own)
use Rattle.std.specs.Prelude.{◌≡◌, ◌⊎◌, ℕ, ◌+◌, ◌==◌, ◌&&◌, ◌||◌, Bool, true, false, not, List, [], ◌∷◌, Option, Some, None, Ok, ◌++◌, codes, is_none, is_some, length, map, nat_lt, if◌then◌else◌}
use Rattle.std.specs.Option.{option_map_or}
use Rattle.std.specs.Str.{bytes_eq}
use Rattle.sha2.specs.Sha256.{sha256}
use Rattle.desk_text.specs.Path.{path_text, read_path}
use Rattle.desk_tables.specs.Custodians.{digest_of}
use Rattle.desk_tables.specs.FileSystemsText.{is_guarded, keeps}
use Rattle.desk_tables.specs.declared.custodians.Custodian.{Custodian}
use Rattle.desk_tables.specs.declared.filesystems.Mount.{Mount}
use Rattle.desk_policy.specs.Site.{SiteTexts}
use Rattle.desk_policy.specs.SiteFault.{exports_name}
use Rattle.desk_policy.specs.SiteFile.{all_files, exports_place, file_name, is_of_seven}
use Rattle.desk_policy.specs.View.{HasFault}
use Rattle.desk_core.specs.Edit.{Already, Answer, Edit, Pending, Proposed, Refused, Stored, approved_revision, proposal_of, revision_of}
use Rattle.desk_core.specs.Head.{Newest, Revision, last_revision, longest_revision, newest_number, put}
use Rattle.desk_core.specs.Site.{IsConsistent, custodians_of, policy_of, site_in}
use Rattle.desk_core.specs.Standing.{Standing}
use Rattle.desk_core.specs.declared.edit.Refusal.{Refusal}
use Rattle.desk_core.specs.declared.edit.Refusal.TheVariants as refusal
use Rattle.desk_core.specs.declared.entry.Entry.{Entry}
use Rattle.desk_core.specs.declared.entry.Entry.TheVariants as entry
use Rattle.desk_core.specs.declared.judging.Case.{Case}
use Rattle.desk_core.specs.declared.judging.Case.TheVariants as case
use Rattle.desk_core.specs.declared.proposal.Proposal.{Proposal}

-- the names of the seven files that are not of one file system, in the order in which they are judged
abbrev pub seven : List (List ℕ)
seven = map file_name all_files

-- a file is one of the seven, or the exports file of a listed mount point
abbrev pub is_known : List Mount → List ℕ → Bool
is_known table file = if is_of_seven file then true else is_some (exports_place table file)

-- the name of the exports file of a path in printed form
abbrev pub IsExportsName : List ℕ → Type 0
IsExportsName file = (path : List (List ℕ)) × (read_path (path_text path) ≡ Ok path) × (file ≡ exports_name path)

-- a name that a file may have: that of one of the seven, or that of an exports file
abbrev pub IsFileName : List ℕ → Type 0
IsFileName file = (is_of_seven file ≡ true) ⊎ IsExportsName file

-- `site` keeps the seven, and by that alone no exports file; the custodians listed for a mount point keep its exports file
abbrev pub keeps_file : List Mount → List ℕ → List ℕ → Bool
keeps_file table caller file =
    if is_of_seven file then bytes_eq caller (codes "site")
    else option_map_or (keeps table caller) (exports_place table file) false

-- a file is guarded: it is the exports file of a mount point with the mark
abbrev pub is_guarded_file : List Mount → List ℕ → Bool
is_guarded_file table file = option_map_or (is_guarded table) (exports_place table file) false

-- the digest that is listed for a caller is that of the key
abbrev pub is_key : List ℕ → Option (List ℕ) → Bool
is_key key None = false
is_key key (Some listed) = bytes_eq listed (sha256 key)

-- a revision is of this custodian: its author, or who approved it
abbrev pub is_of : List ℕ → Revision → Bool
is_of name revision = bytes_eq revision.author name || option_map_or (bytes_eq name) revision.approver false

-- the newest revision is this edit, stored before: its caller is its author, or approved it
abbrev pub is_repeat : Edit → Option Revision → Bool
is_repeat e None = false
is_repeat e (Some revision) = revision.rev == e.base + 1 && (is_of e.caller revision && bytes_eq revision.body e.text)

-- a proposal has the base and the text of an edit
abbrev pub proposes : Edit → Proposal → Bool
proposes e proposal = proposal.base == e.base && bytes_eq proposal.body e.text

-- the file is guarded, and its proposal is this edit
abbrev pub is_pending : List Mount → Edit → Option Proposal → Bool
is_pending table e None = false
is_pending table e (Some proposal) = is_guarded_file table e.file && (proposes e proposal && bytes_eq proposal.author e.caller)

-- Why an edit is not allowed, in this order, each reason with whether it holds, by the custodians and file systems in force:
-- the caller is not listed; the key is not the caller's; there is no such file; the caller does not keep it; the text is too
-- long.
abbrev pub objections : List Custodian → List Mount → Edit → List (Bool × Refusal)
objections custodians table e =
    (is_none (digest_of custodians e.caller), refusal.UnknownCaller)
    ∷ (not (is_key e.key (digest_of custodians e.caller)), refusal.BadKey)
    ∷ (not (is_known table e.file), refusal.UnknownFile)
    ∷ (not (keeps_file table e.caller e.file), refusal.NotCustodian)
    ∷ (nat_lt longest_revision (length e.text), refusal.TooLarge)
    ∷ []

-- Why an edit cannot follow the file's newest revision, likewise: the base is not that revision's number; there is no further
-- number.
abbrev pub conflicts : Option Revision → Edit → List (Bool × Refusal)
conflicts newest e =
    (not (newest_number newest == e.base), refusal.Stale (newest_number newest))
    ∷ (e.base == last_revision, refusal.Full)
    ∷ []

-- reasons to refuse an edit, as cases
abbrev pub as_cases : List (Bool × Refusal) → List (Bool × Case)
as_cases reasons = map (λ reason. (reason.0, case.Refused reason.1)) reasons

-- All that is checked of an edit before the site with its text is, in this order, each case with whether it holds, by the
-- custodians and file systems in force and the file's newest revision and proposal: that it is not allowed; that the newest
-- revision is this edit; that the proposal is this edit; that it cannot follow the newest revision.
abbrev pub checks : List Custodian → List Mount → Option Revision → Option Proposal → Edit → List (Bool × Case)
checks custodians table newest proposal e =
    as_cases (objections custodians table e)
    ++ (is_repeat e newest, case.Already) ∷ (is_pending table e proposal, case.Pending) ∷ as_cases (conflicts newest e)

-- the first of these that holds, if one does
abbrev pub first_held : {A : Type 0} → List (Bool × A) → Option A
first_held [] = None
first_held (check ∷ later) = if check.0 then Some check.1 else first_held later

-- the answer in each case
abbrev pub answer_in : Option Revision → Edit → Case → Answer
answer_in newest e (case.Refused refused) = Refused refused
answer_in newest e case.Already = Already (e.base + 1)
answer_in newest e case.Pending = Pending (e.base + 1)

-- the file systems in force
abbrev pub table_in : Newest → List Mount
table_in newest = (policy_of (site_in newest)).table

-- the first case that holds, by the site in force before the edit
abbrev pub first_case : Standing → Edit → Option Case
first_case standing e = first_held (checks (custodians_of (site_in standing.newest)) (table_in standing.newest) (standing.newest e.file) (standing.proposals e.file) e)

-- the edit approves a proposal: it has its base and its text, and the proposal's author is another, who still keeps the
-- file
abbrev pub approves : List Mount → Edit → Proposal → Bool
approves table e proposal = proposes e proposal && (not (bytes_eq proposal.author e.caller) && keeps_file table proposal.author e.file)

-- the proposal that an edit approves, if there is one
abbrev pub approved : List Mount → Edit → Option Proposal → Option Proposal
approved table e None = None
approved table e (Some proposal) = if approves table e proposal then Some proposal else None

-- what is stored of an edit of a guarded file: the revision that is approved by it, or else a proposal
abbrev pub guarded_entry : Edit → Option Proposal → Entry
guarded_entry e None = entry.Proposed (proposal_of e)
guarded_entry e (Some proposal) = entry.Revised (approved_revision proposal e)

-- what is stored of an edit, by the file systems in force and the file's proposal
abbrev pub entry_by : List Mount → Edit → Option Proposal → Entry
entry_by table e proposal = if is_guarded_file table e.file then guarded_entry e (approved table e proposal) else entry.Revised (revision_of e)

-- what is stored of an edit that is stored, or proposed
abbrev pub entry_of : Standing → Edit → Entry
entry_of standing e = entry_by (table_in standing.newest) e (standing.proposals e.file)

-- the answer to an edit of which this is stored
abbrev pub answer_of : Entry → Answer
answer_of (entry.Revised revision) = Stored revision.rev
answer_of (entry.Proposed proposal) = Proposed (proposal.base + 1)

-- by the site with the edit's text: what there is to store is stored if that site is consistent, and else that site's
-- fault is reported
abbrev pub AnswersBySite : SiteTexts → Entry → Answer → Type 0
AnswersBySite site stored (Stored number) = (Stored number ≡ answer_of stored) × IsConsistent site
AnswersBySite site stored (Proposed number) = (Proposed number ≡ answer_of stored) × IsConsistent site
AnswersBySite site stored (Refused (refusal.Fault fault)) = HasFault site fault
AnswersBySite site stored other = ⊥

abbrev pub AnswersIn : Option Case → Standing → Edit → Answer → Type 0
AnswersIn (Some first) standing e answer = answer ≡ answer_in (standing.newest e.file) e first
AnswersIn None standing e answer = AnswersBySite (site_in (put standing.newest (revision_of e))) (entry_of standing e) answer

-- The answer to an edit, by how files stand before it: that of the first case that holds, or else by the site with the
-- edit's text.
abbrev pub Answers : Standing → Edit → Answer → Type 0
Answers standing e answer = AnswersIn (first_case standing e) standing e answer
