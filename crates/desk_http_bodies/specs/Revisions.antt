-- The bodies of replies on the revisions of a file, and on its proposal. (this project's own)
use Rattle.std.specs.Prelude.{ℕ, List, [], ◌∷◌, ◌++◌, codes, map}
use Rattle.serde_json.specs.Data.{Data, string}
use Rattle.desk_core.specs.declared.proposal.Proposal.{Proposal}
use Rattle.desk_store.specs.declared.desk.Signature.{Signature}
use Rattle.desk_service.specs.declared.questions.FileText.{FileText}
use Rattle.desk_http_bodies.specs.Json.{count, entries, list, member_if}

-- a revision of a file: its name and number, its author, who approved it, if anybody did, and its text
abbrev pub file_data : List ℕ → FileText → Data
file_data name text = entries (
    member_if (codes "approver") string text.approver
    ++ ((codes "author", string text.author) ∷ (codes "body", string text.body) ∷ (codes "name", string name)
    ∷ (codes "rev", count text.rev) ∷ []))

-- the proposal of a file: its name, the number of the revision that it follows, its author, and its text
abbrev pub proposal_data : List ℕ → Proposal → Data
proposal_data name proposal = entries (
    (codes "author", string proposal.author) ∷ (codes "base", count proposal.base) ∷ (codes "body", string proposal.body)
    ∷ (codes "name", string name) ∷ [])

-- a revision by its number and author
abbrev pub revision_data : Signature → Data
revision_data s = entries ((codes "author", string s.author) ∷ (codes "rev", count s.rev) ∷ [])

-- the revisions of a file
abbrev pub revisions_data : List ℕ → List Signature → Data
revisions_data name revisions = entries ((codes "name", string name) ∷ (codes "revisions", list (map revision_data revisions)) ∷ [])
