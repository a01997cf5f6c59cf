-- What is found of a site is found in one way: each relation of this crate fixes what it says, and so do those that it is made of.
-- (this project's own)
use Rattle.std.specs.Prelude.{◌≡◌, ℕ, ◌≤◌, Bool, Contains, List, Option, Result, map}
use Rattle.desk_text.specs.declared.address.Addr.{Addr}
use Rattle.desk_policy.specs.Policy.{Content, rows_of}
use Rattle.desk_policy.specs.Verdict.{Grant}
use Rattle.desk_policy.specs.declared.row.Row.{Row}
use Rattle.desk_policy.specs.declared.verdict.Denial.{Denial}
use Rattle.desk_who.specs.Runs.{Run}
use Rattle.desk_impact.specs.Places.{AreInOrder, Place}
use Rattle.desk_impact.specs.Sections.{ArePlacesBelow, PlaceBreaches, PlaceFound}
use Rattle.page_data.specs.Classes.{AreClassesFrom, AreClassesOn, IsMostOn}
use Rattle.page_data.specs.Counts.{AreCounts, AreCountsFrom}
use Rattle.page_data.specs.Grants.{AreGrants, GrantsTo, HoldsOf}
use Rattle.page_data.specs.Groups.{AreGroups, AreSectionGroups}
use Rattle.page_data.specs.Laws.{IsSound}
use Rattle.page_data.specs.Lines.{AreLineReasons, IsToldOf}
use Rattle.page_data.specs.Opening.{AreOpenings}
use Rattle.page_data.specs.ReasonValues.{reason_value, reasons_value}
use Rattle.page_data.specs.Rows.{AreRowsOf, RowValue}
use Rattle.page_data.specs.Sections.{AreSections}
use Rattle.page_data.specs.Server.{AreServerReasons}
use Rattle.page_data.specs.Systems.{AreSystems, SystemValue}
use Rattle.page_data.specs.Tables.{IsTableBy, TableValue}
use Rattle.page_data.specs.Values.{AreRunsOfSome}
use Rattle.page_data.specs.declared.class.Class.{Class}
use Rattle.page_data.specs.declared.counts.Counts.{Counts}
use Rattle.page_data.specs.declared.grants.LineGrants.{LineGrants}
use Rattle.page_data.specs.declared.lines.LineReasons.{LineReasons}
use Rattle.page_data.specs.declared.opening.Opening.{Opening}
use Rattle.page_data.specs.declared.reasons.Reason.{Reason}

-- Places stand in one order, and what is found at them of a policy is found in one way: all verdicts, and where the server grants what
-- is denied.
pub record PlacesAreUnique : Type 0 where
  pub order : (given ordered others : List (List (List ℕ))) → AreInOrder given ordered → AreInOrder given others → ordered ≡ others
  pub places : (content : Content) (dir : List (List ℕ)) (places others : List Place) → ArePlacesBelow content dir places → ArePlacesBelow content dir others
      → places ≡ others
  pub sections : (content : Content) (sections others : List PlaceBreaches) → AreSections content sections → AreSections content others → sections ≡ others
  pub openings : (content : Content) (sections others : List (PlaceFound Opening)) → AreOpenings content sections → AreOpenings content others
      → sections ≡ others

-- The most that clients may is one class at each address, and has one list of runs; classes have one count of each.
pub record CountsAreUnique : Type 0 where
  pub most : (content : Content) (is_here : List (List ℕ) → Bool) (address : ℕ) (class other : Class) → IsMostOn content is_here address class
      → IsMostOn content is_here address other → class ≡ other
  pub classes : (content : Content) (is_here : List (List ℕ) → Bool) (runs others : List (Run Class)) → AreClassesOn content is_here runs
      → AreClassesOn content is_here others → runs ≡ others
  pub classes_from : (ranges : List (Run (Result Grant Denial))) (runs others : List (Run Class)) → AreRunsOfSome ranges → AreClassesFrom ranges runs
      → AreClassesFrom ranges others → runs ≡ others
  pub counts : (class_at other_at : ℕ → Class) (first last : ℕ) (counts others : Counts)
      → ((address : ℕ) → first ≤ address → address ≤ last → class_at address ≡ other_at address) → AreCounts class_at first last counts
      → AreCounts other_at first last others → counts ≡ others
  pub counts_from : (runs : List (Run Class)) (first last : ℕ) (counts others : Counts) → AreRunsOfSome runs → AreCountsFrom runs first last counts
      → AreCountsFrom runs first last others → counts ≡ others

-- Values have one list of groups, and verdicts one table.
pub record GroupsAreUnique : Type 0 where
  pub places : (content : Content) (places : List Place) (groups others : List (List Place)) → AreGroups content places groups
      → AreGroups content places others → groups ≡ others
  pub sections : (sections : List PlaceBreaches) (groups others : List (List PlaceBreaches)) → AreSectionGroups sections groups
      → AreSectionGroups sections others → groups ≡ others
  pub rows : (ranges : List (Run (Result Grant Denial))) (rows others : List RowValue) → AreRowsOf ranges rows → AreRowsOf ranges others → rows ≡ others
  pub tables : (ranges : List (Run (Result Grant Denial))) (table other : TableValue) → IsTableBy ranges table → IsTableBy ranges other → table ≡ other

-- A line grants something to one number of addresses, and each file system has one report.
pub record GrantsAreUnique : Type 0 where
  pub count : (content : Content) (fs line count other : ℕ) → HoldsOf (GrantsTo content fs line) count → HoldsOf (GrantsTo content fs line) other
      → count ≡ other
  pub grants : (content : Content) (fs : ℕ) (found others : List LineGrants) → AreGrants content fs found → AreGrants content fs others → found ≡ others
  pub systems : (content : Content) (systems others : List SystemValue) → AreSystems content systems → AreSystems content others → systems ≡ others

-- A line of a sound policy stands out for one list of reasons, by value.
pub record ReasonsAreUnique : Type 0 where
  pub server : (content : Content) (fs : ℕ) (row : Row) (reasons others : List Reason) → IsSound content fs → Contains (rows_of content fs) row
      → AreServerReasons content fs row reasons → AreServerReasons content fs row others → map reason_value reasons ≡ map reason_value others
  pub told : (content : Content) (fs : ℕ) (one other : LineReasons) → IsSound content fs → one.line ≡ other.line → IsToldOf content fs one
      → IsToldOf content fs other → reasons_value one ≡ reasons_value other
  pub lines : (content : Content) (fs : ℕ) (found others : List LineReasons) → IsSound content fs → AreLineReasons content fs found
      → AreLineReasons content fs others → map reasons_value found ≡ map reasons_value others

-- All of this is found in one way.
pub record WhatIsFoundIsUnique : Type 0 where
  pub places : PlacesAreUnique
  pub counts : CountsAreUnique
  pub groups : GroupsAreUnique
  pub grants : GrantsAreUnique
  pub reasons : ReasonsAreUnique
