-- No body has a float.
use Rattle.std.proofs.Common.{◌≡◌, ℕ, false, List, [], ◌∷◌, ◌++◌, codes, map, refl, ap, ◌∙◌, Option, Some, None, Result, Ok, Err, IfOk}
use Rattle.std.specs.Prelude.{String, string_bytes}
use Rattle.std.specs.declared.alloc.AllocError.{AllocError}
use Rattle.std.specs.declared.alloc.Global.{Global}
use Rattle.serde_json.specs.Data.{Data, string}
use Rattle.std.specs.Option.{option_map}
use Rattle.serde_json.specs.View.{items_of}
use Rattle.serde_json.specs.Written.{compact_text, has_float, items_have_float}
use Rattle.desk_tables.specs.declared.credentials.Cred.{Cred}
use Rattle.desk_exports.specs.declared.entry.Flavour.{Flavour}
use Rattle.desk_policy.specs.Policy.{Content}
use Rattle.desk_policy.specs.Verdict.{Grant}
use Rattle.desk_policy.specs.declared.listings.Shown.{Shown}
use Rattle.desk_policy.specs.declared.verdict.Denial.{Denial}
use Rattle.desk_policy.specs.declared.verdict.Denial.TheVariants.{NoFileSystem, NoLine, NotListed}
use Rattle.desk_policy.specs.SiteFault.{rule_number}
use Rattle.desk_text.specs.Address.{addr_text, number_of}
use Rattle.desk_who.specs.Runs.{Run}
use Rattle.desk_core.specs.declared.edit.Refusal.{Refusal}
use Rattle.desk_core.specs.declared.edit.Refusal.TheVariants as refusal
use Rattle.desk_store.specs.declared.desk.Signature.{Signature}
use Rattle.desk_service.specs.declared.questions.FileText.{FileText}
use Rattle.desk_http_bodies.specs.Edits.{refused_data}
use Rattle.desk_http_bodies.specs.Exports.{dir_data, exports_data, system_data}
use Rattle.desk_http_bodies.specs.Json.{count, entries, member_if}
use Rattle.desk_http_bodies.specs.Ranges.{ended_range, range_data, who_data}
use Rattle.desk_http_bodies.specs.Revisions.{file_data, revision_data, revisions_data}
use Rattle.desk_http_bodies.specs.Verdicts.{flavour_data, verdict_data}

-- a list whose values have none
pub list_has_none : {A : Type 0} (write : A → Data) → ((a : A) → has_float (write a) ≡ false) → (xs : List A) → items_have_float (items_of (map write xs)) ≡ false
list_has_none write each [] = refl
list_has_none write each (x ∷ xs) = rw (each x, list_has_none write each xs) refl

flavours_have_none : (flavours : List Flavour) → items_have_float (items_of (map flavour_data flavours)) ≡ false
flavours_have_none flavours = list_has_none flavour_data (λ f. refl) flavours

text_has_none : (name : List ℕ) (rev : ℕ) (author : List ℕ) (approver : Option (List ℕ)) (body : List ℕ) → has_float (entries (
    member_if (codes "approver") string approver
    ++ ((codes "author", string author) ∷ (codes "body", string body) ∷ (codes "name", string name) ∷ (codes "rev", count rev) ∷ []))) ≡ false
text_has_none name rev author None body = refl
text_has_none name rev author (Some approver) body = refl

pub file_has_none : (name : List ℕ) (text : FileText) → has_float (file_data name text) ≡ false
file_has_none name text = text_has_none name text.rev text.author text.approver text.body

pub revisions_have_none : (name : List ℕ) (revisions : List Signature) → has_float (revisions_data name revisions) ≡ false
revisions_have_none name revisions = rw (list_has_none revision_data (λ r. refl) revisions) refl

pub verdict_has_none : (content : Content) (own : Option Cred) (verdict : Result Grant Denial) → has_float (verdict_data content own verdict) ≡ false
verdict_has_none content None (Ok grant) = rw (flavours_have_none grant.terms.flavours) refl
verdict_has_none content (Some cred) (Ok grant) = rw (flavours_have_none grant.terms.flavours) refl
verdict_has_none content own (Err NoFileSystem) = refl
verdict_has_none content own (Err (NoLine fs)) = refl
verdict_has_none content own (Err (NotListed fs line)) = refl

system_has_none : (content : Content) (shown : Shown) → has_float (system_data content shown) ≡ false
system_has_none content shown =
    rw (list_has_none dir_data (λ d. refl) shown.dirs, flavours_have_none shown.terms.flavours, list_has_none count (λ n. refl) shown.lines) refl

pub exports_have_none : (content : Content) (address : ℕ) (systems : List Shown) → has_float (exports_data content address systems) ≡ false
exports_have_none content address systems = rw (list_has_none (system_data content) (system_has_none content) systems) refl

verdicts_have_none : (content : Content) (first last : List ℕ) (verdict : Result Grant Denial) → has_float (ended_range content first last verdict) ≡ false
verdicts_have_none content first last (Ok grant) = rw (flavours_have_none grant.terms.flavours) refl
verdicts_have_none content first last (Err NoFileSystem) = refl
verdicts_have_none content first last (Err (NoLine fs)) = refl
verdicts_have_none content first last (Err (NotListed fs line)) = refl

range_has_none : (content : Content) (range : Run (Result Grant Denial)) → has_float (range_data content range) ≡ false
range_has_none content range = verdicts_have_none content (addr_text range.first) (addr_text range.last) range.value

pub who_have_none : (content : Content) (path : List (List ℕ)) (ranges : List (Run (Result Grant Denial))) → has_float (who_data content path ranges) ≡ false
who_have_none content path ranges = rw (list_has_none (range_data content) (range_has_none content) ranges) refl

fault_has_none : (error file : List ℕ) (line number rule : ℕ) (address : Option (List ℕ)) (other : Option ℕ) → has_float (entries (
    member_if (codes "address") string address
    ++ ((codes "error", string error) ∷ (codes "file", string file) ∷ (codes "line", count line) ∷ (codes "number", count number)
    ∷ (member_if (codes "other") count other ++ ((codes "rule", count rule) ∷ []))))) ≡ false
fault_has_none error file line number rule None None = refl
fault_has_none error file line number rule None (Some other) = refl
fault_has_none error file line number rule (Some address) None = refl
fault_has_none error file line number rule (Some address) (Some other) = refl

pub refused_has_none : (r : Refusal) → has_float (refused_data r) ≡ false
refused_has_none (refusal.Fault fault) =
    fault_has_none (codes "Fault") fault.file fault.line 9 (rule_number fault.rule) (option_map (λ a. addr_text (number_of a)) fault.address) fault.other
refused_has_none refused = refl

-- what was written is the text of the data
pub text_is : (r : Result (String Global) AllocError) (v d : Data) → v ≡ d → has_float d ≡ false → IfOk r (λ s. has_float v ≡ false → string_bytes s ≡ compact_text v) → IfOk r (λ s. string_bytes s ≡ compact_text d)
text_is (Ok s) v d same none is = is (ap has_float same ∙ none) ∙ ap compact_text same
text_is (Err e) v d same none is = is
