-- What states and accepted edits show.
use Rattle.std.proofs.Common.{inl, inr}
use Rattle.std.specs.Prelude.{◌≡◌, ◌⊎◌, ℕ, List, refl}
use Rattle.std.specs.Coded.{Coded, code_by, coded×, coded⊎, coded_ℕ, coded_list}
use Rattle.desk_tables.specs.contracts.custodians.Custodian as custodian
use Rattle.desk_tables.specs.declared.custodians.Custodian.{Custodian}
use Rattle.desk_policy.specs.contracts.parsing.SiteTables as tables
use Rattle.desk_policy.specs.contracts.row.Row as row
use Rattle.desk_policy.specs.declared.parsing.SiteTables.{SiteTables}
use Rattle.desk_policy.specs.declared.row.Row.{Row}
use Rattle.desk_core.specs.contracts.entry.Entry as stored
use Rattle.desk_core.specs.contracts.head.Head as head
use Rattle.desk_core.specs.contracts.proposal.Proposal as proposal
use Rattle.desk_core.specs.declared.change.Change.{Change}
use Rattle.desk_core.specs.declared.change.Change.TheVariants as variant
use Rattle.desk_core.specs.declared.change.SiteInForce.{SiteInForce}
use Rattle.desk_core.specs.declared.entry.Entry.{Entry}
use Rattle.desk_core.specs.declared.head.Head.{Head}
use Rattle.desk_core.specs.declared.proposal.Proposal.{Proposal}

-- a state as its callers see it: the newest revision of each file, the proposals, and the view
pub record Kept (V : Type 0) : Type 0 where
  pub heads : List Head
  pub proposals : List Proposal
  pub view : V

abbrev pub kept_code : {V : Type 0} → Coded V → Coded (Kept V)
kept_code {V} view =
    code_by (List Head × (List Proposal × V)) (coded× (coded_list head.the_row.coded) (coded× (coded_list proposal.the_row.coded) view))
    (λ s. (s.heads, (s.proposals, s.view)))
    (λ p. record { heads = p.0; proposals = p.1.0; view = p.1.1 })
    (λ _. refl)

-- what an accepted edit puts in the place of what is in force: the site with its text, or the lines of one file system
pub data Changed (V : Type 0) : Type 0 where
  Whole : SiteInForce V → Changed V
  Lines : ℕ → List Row → Changed V

-- what a change shows: the site, or the lines of its part
abbrev pub shown : {V P : Type 0} → (P → List Row) → Change V P → Changed V
shown part_rows (variant.Whole made) = Whole made
shown part_rows (variant.Lines fs part) = Lines fs.0 (part_rows part)

abbrev Parts : Type 0 → Type 0
Parts V = (List Custodian × (SiteTables × V)) ⊎ (ℕ × List Row)

abbrev to_parts : {V : Type 0} → Changed V → Parts V
to_parts (Whole made) = inl (made.custodians, (made.tables, made.view))
to_parts (Lines fs rows) = inr (fs, rows)

abbrev from_parts : {V : Type 0} → Parts V → Changed V
from_parts (inl made) = Whole (record { custodians = made.0; tables = made.1.0; view = made.1.1 })
from_parts (inr lines) = Lines lines.0 lines.1

pub from_parts-to_parts : {V : Type 0} (it : Changed V) → from_parts (to_parts it) ≡ it
from_parts-to_parts (Whole made) = refl
from_parts-to_parts (Lines fs rows) = refl

abbrev pub changed_code : {V : Type 0} → Coded V → Coded (Changed V)
changed_code {V} view =
    code_by (Parts V)
    (coded⊎ (coded× (coded_list custodian.the_row.coded) (coded× tables.the_row.coded view)) (coded× coded_ℕ (coded_list row.the_row.coded)))
    to_parts from_parts from_parts-to_parts

-- what an accepted edit brings: what is to be stored, room for so many heads and so many proposals, and what it changes
pub record Ready (V : Type 0) : Type 0 where
  pub entry : Entry
  pub room : ℕ
  pub proposal_room : ℕ
  pub change : Changed V

abbrev pub ready_code : {V : Type 0} → Coded V → Coded (Ready V)
ready_code {V} view =
    code_by (Entry × (ℕ × (ℕ × Changed V))) (coded× stored.the_row.coded (coded× coded_ℕ (coded× coded_ℕ (changed_code view))))
    (λ a. (a.entry, (a.room, (a.proposal_room, a.change))))
    (λ p. record { entry = p.0; room = p.1.0; proposal_room = p.1.1.0; change = p.1.1.1 })
    (λ _. refl)
