-- What would be in force if a file had another text, as it is answered. (this project's own)
use Rattle.std.specs.Prelude.{◌≡◌, ℕ, ◌<◌, ◌≤◌, Bool, true, false, List, Option, None, Some, length}
use Rattle.std.specs.Option.{option_copied}
use Rattle.desk_policy.specs.Policy.{Content}
use Rattle.desk_policy.specs.View.{HasFault}
use Rattle.desk_core.specs.Foresight.{IsForesightOf, foreseen_content, with_text}
use Rattle.desk_core.specs.Head.{Newest, longest_revision}
use Rattle.desk_core.specs.Judging.{is_guarded_file, is_known, table_in}
use Rattle.desk_core.specs.Site.{IsInForce, site_in}
use Rattle.desk_core.specs.declared.edit.Refusal.{Refusal}
use Rattle.desk_core.specs.declared.edit.Refusal.TheVariants as refusal
use Rattle.desk_core.specs.declared.foresight.Foresight.{Foresight}
use Rattle.desk_core.specs.declared.foresight.Foresight.TheVariants as by_view
use Rattle.desk_core.specs.declared.proposal.Proposal.{Proposal}
use Rattle.desk_service.specs.declared.foreseeing.Foreseen.{Foreseen as LentForeseen}

-- what is foreseen, with the policies in the place of their views
abbrev pub foresight_of : {V : Type 0} → (V → Content) → Foresight V → Foresight Content
foresight_of in_force (by_view.Whole view) = by_view.Whole (in_force view)
foresight_of in_force (by_view.Lines fs view) = by_view.Lines fs (in_force view)

-- what is foreseen of a text: the policy in force, what would be in force in its place, the proposal that has the text, if that was
-- asked, and whether the file is guarded now
pub record Foreseen : Type 0 where
  pub before : Content
  pub foresight : Foresight Content
  pub proposal : Option Proposal
  pub guarded : Bool

-- the same by value
abbrev pub foreseen_of : {V : Type 0} → (V → Content) → LentForeseen V → Foreseen
foreseen_of in_force f =
    record { before = in_force f.before.now; foresight = foresight_of in_force f.foresight; proposal = option_copied f.proposal; guarded = f.guarded }

-- the policy that would be in force
abbrev pub content_after : Foreseen → Content
content_after f = foreseen_content (λ content. content) f.before f.foresight

-- By newest revisions, the file is one of the seven, or the exports file of a mount point that is listed now; and the text is no
-- longer than that of a revision may be.
pub record MayHave (newest : Newest) (file text : List ℕ) : Type 0 where
  pub known : is_known (table_in newest) file ≡ true
  pub short : length text ≤ longest_revision

-- What is foreseen of a text that a file may have: from the policy that newest revisions put in force, to that of the site with the text.
-- Of the exports file of a listed mount point the lines of its file system are foreseen alone.
pub record IsForeseen (newest : Newest) (file text : List ℕ) (proposal : Option Proposal) (f : Foreseen) : Type 0 where
  pub may : MayHave newest file text
  pub before : IsInForce (site_in newest) f.before
  pub after : IsInForce (site_in (with_text newest file text)) (content_after f)
  pub own : IsForesightOf (λ content. content) f.before file f.foresight
  pub proposal_is : f.proposal ≡ proposal
  pub guarded_is : f.guarded ≡ is_guarded_file (table_in newest) file

-- Why a file cannot have a text, by newest revisions: there is no such file; or else the text is too long; or else the site with it
-- has a fault.
abbrev pub IsRefusedText : Newest → List ℕ → List ℕ → Refusal → Type 0
IsRefusedText newest file text refusal.UnknownFile = is_known (table_in newest) file ≡ false
IsRefusedText newest file text refusal.TooLarge = (is_known (table_in newest) file ≡ true) × (longest_revision < length text)
IsRefusedText newest file text (refusal.Fault fault) = MayHave newest file text × HasFault (site_in (with_text newest file text)) fault
IsRefusedText newest file text other = ⊥

-- why a file cannot have a text, whatever the text says; or that it may have it
abbrev pub IsRefusedUnread : Newest → List ℕ → List ℕ → Option Refusal → Type 0
IsRefusedUnread newest file text (Some refusal) = IsRefusedText newest file text refusal
IsRefusedUnread newest file text None = MayHave newest file text
