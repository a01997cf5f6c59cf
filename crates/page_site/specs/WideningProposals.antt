-- The proposals by which clients may do more. (this project's own)
use Rattle.std.specs.Prelude.{◌≡◌, ℕ, ◌<◌, ◌==◌, List, [], ◌∷◌, Option, Some, None, Result, Ok, Err, length, slice_index_or, if◌then◌else◌}
use Rattle.std.specs.List.{flat_map}
use Rattle.desk_policy.specs.Policy.{Content}
use Rattle.desk_policy.specs.declared.site_fault.SiteFault.{SiteFault}
use Rattle.page_places.specs.Widening.{AreSoManyIn}
use Rattle.page_summary.specs.Proposals.{ProposalValue}
use Rattle.page_site.specs.SystemParts.{waiting_for}
use Rattle.page_site.specs.WaitingProposals.{Waiting}

-- at how many of the changes by a proposal clients may do more: at none if it cannot be put in force
abbrev pub AreSoManyBy : Content → ℕ → Result Content SiteFault → ℕ → Type 0
AreSoManyBy content fs (Ok lines) count = AreSoManyIn content lines fs count
AreSoManyBy content fs (Err fault) count = count ≡ 0

-- what is told of a proposal, if by some of its changes clients may do more
abbrev pub row_if_any : Waiting → ℕ → List ProposalValue
row_if_any waiting count =
    if count == 0 then [] else record { fs = waiting.fs; author = waiting.proposal.author; count = count } ∷ []

pub record IsToldOf (content : Content) (waiting : Waiting) (rows : List ProposalValue) : Type 0 where
  pub count : ℕ
  pub are : AreSoManyBy content waiting.fs waiting.outcome count
  pub rows_are : rows ≡ row_if_any waiting count

-- the same of what waits for a file system, if something does
abbrev pub IsToldFor : Content → Option Waiting → List ProposalValue → Type 0
IsToldFor content None rows = rows ≡ []
IsToldFor content (Some waiting) rows = IsToldOf content waiting rows

-- The proposals by which clients may do more, in the order of the table of file systems.
pub record AreWidening (content : Content) (waiting : List Waiting) (rows : List ProposalValue) : Type 0 where
  pub told : List (List ProposalValue)
  pub count : length told ≡ length content.table
  pub each : (fs : ℕ) → fs < length content.table → IsToldFor content (waiting_for waiting fs) (slice_index_or told fs [])
  pub rows_are : rows ≡ flat_map (λ row. row) told
