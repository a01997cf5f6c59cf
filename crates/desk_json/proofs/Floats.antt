-- No object has a float.
use Rattle.std.proofs.Common.{◌≡◌, ◌∙◌, ◌++◌, ℕ, Bool, false, List, [], ◌∷◌, Option, Some, None, Result, Ok, Err, IfOk, ap, length, map, refl}
use Rattle.std.specs.Prelude.{String, string_bytes}
use Rattle.std.specs.List.{flat_map, range_with_len}
use Rattle.std.specs.Option.{option_map}
use Rattle.std.specs.declared.alloc.AllocError.{AllocError}
use Rattle.std.specs.declared.alloc.Global.{Global}
use Rattle.std.proofs.lemmas.Bool.{or_parts}
use Rattle.serde_json.specs.Data.{Data, string}
use Rattle.serde_json.specs.View.{items_of}
use Rattle.serde_json.specs.Written.{compact_text, has_float, items_have_float}
use Rattle.desk_text.specs.Address.{addr_text}
use Rattle.desk_tables.specs.declared.credentials.Cred.{Cred}
use Rattle.desk_exports.specs.declared.entry.Clients.{Clients}
use Rattle.desk_exports.specs.declared.entry.Clients.TheVariants.{Hosts, Net, Net6, World}
use Rattle.desk_exports.specs.declared.entry.Entry.{Entry}
use Rattle.desk_exports.specs.declared.entry.Flavour.{Flavour}
use Rattle.desk_origins.specs.Origins.{origin_of}
use Rattle.desk_origins.specs.declared.origins.Origin.{Origin}
use Rattle.desk_policy.specs.Policy.{Content, rows_of}
use Rattle.desk_policy.specs.Prints.{mount_text}
use Rattle.desk_policy.specs.Verdict.{Grant}
use Rattle.desk_policy.specs.declared.verdict.Denial.{Denial}
use Rattle.desk_policy.specs.declared.verdict.Denial.TheVariants.{NoFileSystem, NoLine, NotListed}
use Rattle.desk_impact.specs.Impact.{TwoVerdicts}
use Rattle.desk_impact.specs.ListedChanges.{ListedPlace}
use Rattle.desk_impact.specs.Places.{Place}
use Rattle.desk_who.specs.Runs.{Run}
use Rattle.desk_core.specs.Listing.{name_by}
use Rattle.desk_core.specs.declared.proposal.Proposal.{Proposal}
use Rattle.desk_store.specs.declared.desk.Signature.{Signature}
use Rattle.desk_service.specs.Files.{ListedFile, ListedFiles}
use Rattle.desk_http_bodies.specs.Exports.{dir_data}
use Rattle.desk_http_bodies.specs.Ranges.{ended_range}
use Rattle.desk_http_bodies.specs.Verdicts.{flavour_data, verdict_data}
use Rattle.desk_json.specs.Changes.{change_data, changes_data, listed, place_data}
use Rattle.desk_json.specs.Exports.{all_exports_data, clients_data, line_data, system_lines}
use Rattle.desk_json.specs.Files.{file_data, files_data, listed_data, mark_word, proposed_data}
use Rattle.desk_json.specs.Log.{log_data, revision_data, signature_data, told_profile}
use Rattle.desk_json.specs.Named.{line_of, named_range, named_verdict, named_who, with_file, with_origin, with_own_line}
use Rattle.desk_json.specs.Why.{lines_of, reason_data, why_data, with_why}

-- ---- lists of values
list_has_none : {A : Type 0} (write : A → Data) → ((a : A) → has_float (write a) ≡ false) → (xs : List A) → items_have_float (items_of (map write xs)) ≡ false
list_has_none write each [] = refl
list_has_none write each (x ∷ xs) = rw (each x, list_has_none write each xs) refl

both_have_none : (xs ys : List Data) → items_have_float (items_of xs) ≡ false → items_have_float (items_of ys) ≡ false → items_have_float (items_of (xs ++ ys)) ≡ false
both_have_none [] ys none rest = rest
both_have_none (x ∷ xs) ys none rest =
    let parts = or_parts (has_float x) (items_have_float (items_of xs)) none in
    rw (parts.0, both_have_none xs ys parts.1 rest) refl

lists_have_none : {A : Type 0} (write : A → List Data) → ((a : A) → items_have_float (items_of (write a)) ≡ false) → (xs : List A)
    → items_have_float (items_of (flat_map write xs)) ≡ false
lists_have_none write each [] = refl
lists_have_none write each (x ∷ xs) = both_have_none (write x) (flat_map write xs) (each x) (lists_have_none write each xs)

-- what was written is the text of the data
pub text_is : (r : Result (String Global) AllocError) (v d : Data) → v ≡ d → has_float d ≡ false → IfOk r (λ s. has_float v ≡ false → string_bytes s ≡ compact_text v) → IfOk r (λ s. string_bytes s ≡ compact_text d)
text_is (Ok s) v d same none is = is (ap has_float same ∙ none) ∙ ap compact_text same
text_is (Err e) v d same none is = is

-- ---- verdicts
flavours_have_none : (flavours : List Flavour) → items_have_float (items_of (map flavour_data flavours)) ≡ false
flavours_have_none flavours = list_has_none flavour_data (λ f. refl) flavours

verdict_has_none : (content : Content) (own : Option Cred) (verdict : Result Grant Denial) → has_float (verdict_data content own verdict) ≡ false
verdict_has_none content None (Ok grant) = rw (flavours_have_none grant.terms.flavours) refl
verdict_has_none content (Some cred) (Ok grant) = rw (flavours_have_none grant.terms.flavours) refl
verdict_has_none content own (Err NoFileSystem) = refl
verdict_has_none content own (Err (NoLine fs)) = refl
verdict_has_none content own (Err (NotListed fs line)) = refl

-- ---- verdicts that name the file of a line
origin_has_none : (origin : Option Origin) (line : ℕ) (told : Data) → ((one : Origin) → has_float (with_own_line one line told) ≡ false) → has_float told ≡ false → has_float (with_origin origin line told) ≡ false
origin_has_none None line told own none = none
origin_has_none (Some origin) line told own none = own origin

pub named_has_none : (content : Content) (own : Option Cred) (verdict : Result Grant Denial) → has_float (named_verdict content own verdict) ≡ false
named_has_none content None (Ok grant) =
    origin_has_none (origin_of content.origins grant.line) grant.line (verdict_data content None (Ok grant))
    (λ one. rw (flavours_have_none grant.terms.flavours) refl) (verdict_has_none content None (Ok grant))
named_has_none content (Some cred) (Ok grant) =
    origin_has_none (origin_of content.origins grant.line) grant.line (verdict_data content (Some cred) (Ok grant))
    (λ one. rw (flavours_have_none grant.terms.flavours) refl) (verdict_has_none content (Some cred) (Ok grant))
named_has_none content own (Err NoFileSystem) = refl
named_has_none content own (Err (NoLine fs)) = refl
named_has_none content own (Err (NotListed fs line)) =
    origin_has_none (origin_of content.origins line) line (verdict_data content own (Err (NotListed fs line))) (λ one. refl) refl

ended_has_none : (content : Content) (first last : List ℕ) (verdict : Result Grant Denial) → has_float (with_file content.origins (line_of verdict) (ended_range content first last verdict)) ≡ false
ended_has_none content first last (Ok grant) =
    origin_has_none (origin_of content.origins grant.line) grant.line (ended_range content first last (Ok grant))
    (λ one. rw (flavours_have_none grant.terms.flavours) refl) (rw (flavours_have_none grant.terms.flavours) refl)
ended_has_none content first last (Err NoFileSystem) = refl
ended_has_none content first last (Err (NoLine fs)) = refl
ended_has_none content first last (Err (NotListed fs line)) =
    origin_has_none (origin_of content.origins line) line (ended_range content first last (Err (NotListed fs line))) (λ one. refl) refl

range_has_none : (content : Content) (range : Run (Result Grant Denial)) → has_float (named_range content range) ≡ false
range_has_none content range = ended_has_none content (addr_text range.first) (addr_text range.last) range.value

pub who_has_none : (content : Content) (path : List (List ℕ)) (ranges : List (Run (Result Grant Denial))) → has_float (named_who content path ranges) ≡ false
who_has_none content path ranges = rw (list_has_none (named_range content) (range_has_none content) ranges) refl

-- ---- verdicts with why
reasons_have_none : (reasons : List ℕ) → items_have_float (items_of (map reason_data (lines_of reasons))) ≡ false
reasons_have_none reasons = list_has_none reason_data (λ line. refl) (lines_of reasons)

-- what the reasons add
why_of : (origin : Option Origin) (line : ℕ) (told : Data) (reasons : List ℕ) → ((one : Origin) → has_float (with_why reasons (with_own_line one line told)) ≡ false)
    → has_float (with_why reasons told) ≡ false → has_float (with_why reasons (with_origin origin line told)) ≡ false
why_of None line told reasons own none = none
why_of (Some origin) line told reasons own none = own origin

pub why_has_none : (content : Content) (own : Option Cred) (verdict : Result Grant Denial) (reasons : List ℕ) → has_float (why_data content own verdict reasons) ≡ false
why_has_none content None (Ok grant) reasons =
    why_of (origin_of content.origins grant.line) grant.line (verdict_data content None (Ok grant)) reasons
    (λ one. rw (flavours_have_none grant.terms.flavours, reasons_have_none reasons) refl) (rw (flavours_have_none grant.terms.flavours, reasons_have_none reasons) refl)
why_has_none content (Some cred) (Ok grant) reasons =
    why_of (origin_of content.origins grant.line) grant.line (verdict_data content (Some cred) (Ok grant)) reasons
    (λ one. rw (flavours_have_none grant.terms.flavours, reasons_have_none reasons) refl) (rw (flavours_have_none grant.terms.flavours, reasons_have_none reasons) refl)
why_has_none content own (Err NoFileSystem) reasons = rw (reasons_have_none reasons) refl
why_has_none content own (Err (NoLine fs)) reasons = rw (reasons_have_none reasons) refl
why_has_none content own (Err (NotListed fs line)) reasons =
    why_of (origin_of content.origins line) line (verdict_data content own (Err (NotListed fs line))) reasons
    (λ one. rw (reasons_have_none reasons) refl) (rw (reasons_have_none reasons) refl)

-- ---- lines
clients_have_none : (clients : Clients) → items_have_float (items_of (clients_data clients)) ≡ false
clients_have_none (Hosts names) = list_has_none (λ name. string name) (λ name. refl) names
clients_have_none (Net net noted) = refl
clients_have_none (Net6 value) = refl
clients_have_none World = refl

line_has_none : (mount : List ℕ) (entry : Entry) → has_float (line_data mount entry) ≡ false
line_has_none mount entry = rw (clients_have_none entry.clients, list_has_none dir_data (λ d. refl) entry.dirs, flavours_have_none entry.terms.flavours) refl

system_has_none : (content : Content) (fs : ℕ) → items_have_float (items_of (system_lines content fs)) ≡ false
system_has_none content fs = list_has_none (λ row. line_data (mount_text content fs) row.entry) (λ row. line_has_none (mount_text content fs) row.entry) (rows_of content fs)

pub all_exports_have_none : (content : Content) → has_float (all_exports_data content) ≡ false
all_exports_have_none content = rw (lists_have_none (system_lines content) (system_has_none content) (range_with_len 0 (length content.table))) refl

-- ---- changes
change_has_none : (before after : Content) (place : Place) (change : Run TwoVerdicts) (matters : Bool) → has_float (change_data before after place change matters) ≡ false
change_has_none before after place change matters = rw (verdict_has_none after None change.value.after, verdict_has_none before None change.value.before) refl

place_has_none : (before after : Content) (all : Bool) (found : ListedPlace) → items_have_float (items_of (place_data before after all found)) ≡ false
place_has_none before after all found =
    list_has_none (λ one. change_data before after found.place one.change one.matters) (λ one. change_has_none before after found.place one.change one.matters) (listed all found.changes)

pub changes_have_none : (before after : Content) (all : Bool) (found : List ListedPlace) → has_float (changes_data before after all found) ≡ false
changes_have_none before after all found = rw (lists_have_none (place_data before after all) (place_has_none before after all) found) refl

-- ---- revisions
signature_has_none : (rev : ℕ) (author : List ℕ) (approver : Option (List ℕ)) (profile : Option ℕ) → has_float (signature_data rev author approver profile) ≡ false
signature_has_none rev author None None = refl
signature_has_none rev author None (Some profile) = refl
signature_has_none rev author (Some approver) None = refl
signature_has_none rev author (Some approver) (Some profile) = refl

pub log_has_none : (name : List ℕ) (revisions : List Signature) → has_float (log_data name revisions) ≡ false
log_has_none name revisions =
    rw (list_has_none (revision_data name) (λ r. signature_has_none r.rev r.author r.approver (told_profile name r.profile)) revisions) refl

-- ---- files
listed_has_none : (name : List ℕ) (mark author : Option (List ℕ)) (rev : Option ℕ) (proposal : Option Proposal)
    → has_float (listed_data name mark author rev (option_map proposed_data proposal)) ≡ false
listed_has_none name None None None None = refl
listed_has_none name None None None (Some proposal) = refl
listed_has_none name None None (Some rev) None = refl
listed_has_none name None None (Some rev) (Some proposal) = refl
listed_has_none name None (Some author) None None = refl
listed_has_none name None (Some author) None (Some proposal) = refl
listed_has_none name None (Some author) (Some rev) None = refl
listed_has_none name None (Some author) (Some rev) (Some proposal) = refl
listed_has_none name (Some mark) None None None = refl
listed_has_none name (Some mark) None None (Some proposal) = refl
listed_has_none name (Some mark) None (Some rev) None = refl
listed_has_none name (Some mark) None (Some rev) (Some proposal) = refl
listed_has_none name (Some mark) (Some author) None None = refl
listed_has_none name (Some mark) (Some author) None (Some proposal) = refl
listed_has_none name (Some mark) (Some author) (Some rev) None = refl
listed_has_none name (Some mark) (Some author) (Some rev) (Some proposal) = refl

file_has_none : (file : ListedFile) → has_float (file_data file) ≡ false
file_has_none file =
    listed_has_none (name_by file.newest file.proposal) (mark_word file.mark) (option_map (λ revision. revision.author) file.newest)
    (option_map (λ revision. revision.rev) file.newest) file.proposal

pub files_have_none : (listed : ListedFiles) → has_float (files_data listed) ≡ false
files_have_none listed = rw (list_has_none file_data file_has_none listed.files) refl
