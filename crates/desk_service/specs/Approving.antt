-- Edits whose text waits for a second custodian already: they name it by its SHA-256. (this project's own, over FIPS 180-4)
use Rattle.std.specs.Prelude.{ℕ, Bool, List, Option, Some, None, Result, Ok, Err, if◌then◌else◌}
use Rattle.std.specs.Str.{bytes_eq}
use Rattle.hex.specs.Hex.{encode_lower}
use Rattle.sha2.specs.Sha256.{sha256}
use Rattle.desk_core.specs.Edit.{Edit}
use Rattle.desk_core.specs.Standing.{Standing}
use Rattle.desk_core.specs.declared.proposal.Proposal.{Proposal}
use Rattle.desk_service.specs.declared.approving.Approval.{Approval as Lent}
use Rattle.desk_service.specs.declared.refused.Refused.{Refused}
use Rattle.desk_service.specs.declared.refused.Refused.TheVariants.{NoRevision, OtherProposal}

-- an edit of a file that has the text of its proposal: all of an edit but that text, and the digest of it
pub record Approval : Type 0 where
  pub file : List ℕ
  pub base : ℕ
  pub caller : List ℕ
  pub key : List ℕ
  pub digest : List ℕ

-- an approval by value
abbrev pub approval_of : Lent → Approval
approval_of a = record { file = a.file.now; base = a.base; caller = a.caller.now; key = a.key.now; digest = a.digest.now }

-- the edit that an approval is if this is the text
abbrev pub edit_with : Approval → List ℕ → Edit
edit_with a text = record { file = a.file; base = a.base; caller = a.caller; key = a.key; text = text }

-- the digest of a text: its SHA-256 in hexadecimal digits, the letters small
abbrev pub digest_of : List ℕ → List ℕ
digest_of text = encode_lower (sha256 text)

-- a text has this digest
abbrev pub has_digest : List ℕ → List ℕ → Bool
has_digest text digest = bytes_eq (digest_of text) digest

-- the text of a proposal with this digest; or that there is none, or one that has another
abbrev pub text_with : Option Proposal → List ℕ → Result (List ℕ) Refused
text_with None digest = Err NoRevision
text_with (Some proposal) digest = if has_digest proposal.body digest then Ok proposal.body else Err OtherProposal

-- the text of an approval, by how files stand; or why it has none
abbrev pub text_in : Standing → Approval → Result (List ℕ) Refused
text_in standing a = text_with (standing.proposals a.file) a.digest
