-- Edits, and what one may be answered. (this project's own)
use Rattle.std.specs.Prelude.{ℕ, ◌+◌, List, Option, None, Some, codes}
use Rattle.desk_exports.specs.declared.profile.Profile.TheVariants.{Two}
use Rattle.desk_core.specs.Head.{Revision}
use Rattle.desk_core.specs.declared.edit.Edit.{Edit as Lent}
use Rattle.desk_core.specs.declared.proposal.Proposal.{Proposal}
use Rattle.desk_core.specs.declared.edit.Refusal.{Refusal}
use Rattle.desk_core.specs.declared.edit.Refusal.TheVariants as refusal

-- an edit: a file, the number of the revision that it follows, who asks for it, with a key, and the new text
pub record Edit : Type 0 where
  pub file : List ℕ
  pub base : ℕ
  pub caller : List ℕ
  pub key : List ℕ
  pub text : List ℕ

-- the edit that is asked for by lent texts
abbrev pub asked : Lent → Edit
asked e = record { file = e.file.now; base = e.base; caller = e.caller.now; key = e.key.now; text = e.text.now }

-- the revision that an edit stores, by this author, and approved by this custodian if there is one
abbrev pub revision_by : Edit → List ℕ → Option (List ℕ) → Revision
revision_by e author approver = record { file = e.file; rev = e.base + 1; author = author; approver = approver; profile = Two; body = e.text }

-- the revision that an edit stores by itself: its caller is the author
abbrev pub revision_of : Edit → Revision
revision_of e = revision_by e e.caller None

-- the revision that an edit stores as the approval of a proposal: its author is the proposal's, and its caller approved it
abbrev pub approved_revision : Proposal → Edit → Revision
approved_revision proposal e = revision_by e proposal.author (Some e.caller)

-- the proposal that an edit makes
abbrev pub proposal_of : Edit → Proposal
proposal_of e = record { file = e.file; base = e.base; author = e.caller; body = e.text }

-- what an edit is answered: that it is stored as the revision of this number; that it is proposed as it; that this
-- revision is the edit itself, stored before; that the edit is proposed already; or that it is refused
pub data Answer : Type 0 where
  Stored : ℕ → Answer
  Proposed : ℕ → Answer
  Already : ℕ → Answer
  Pending : ℕ → Answer
  Refused : Refusal → Answer

-- the number and the name of a refusal; 6 is the number of a repeat, which is not a refusal
abbrev pub refusal_row : Refusal → ℕ × List ℕ
refusal_row refusal.UnknownCaller = (1, codes "UnknownCaller")
refusal_row refusal.BadKey = (2, codes "BadKey")
refusal_row refusal.UnknownFile = (3, codes "UnknownFile")
refusal_row refusal.NotCustodian = (4, codes "NotCustodian")
refusal_row refusal.TooLarge = (5, codes "TooLarge")
refusal_row (refusal.Stale newest) = (7, codes "Stale")
refusal_row refusal.Full = (8, codes "Full")
refusal_row (refusal.Fault fault) = (9, codes "Fault")

-- the number of a refusal
abbrev pub refusal_number : Refusal → ℕ
refusal_number refused = (refusal_row refused).0

-- the name of a refusal
abbrev pub refusal_name : Refusal → List ℕ
refusal_name refused = (refusal_row refused).1
