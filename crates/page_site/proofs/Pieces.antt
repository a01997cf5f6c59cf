-- A page that gains texts, one after the other.
use Rattle.std.proofs.Common.{◌≡◌, ◌++◌, ◌-◌, ◌∙◌, ℕ, List, [], ap, append_assoc, length, refl}
use Rattle.desk_policy.specs.Policy.{Content}
use Rattle.desk_policy.specs.declared.parsing.SiteTables.{SiteTables}
use Rattle.desk_tables.specs.declared.filesystems.Mount.{Mount}
use Rattle.desk_core.specs.Standing.{Standing}
use Rattle.page_maps.specs.NetworkTable.{GainsNetworks, networks_text}
use Rattle.page_summary.specs.Sections.{section_end, section_start}
use Rattle.page_summary.specs.declared.sections.Section.{Section}
use Rattle.page_lists.specs.Files.{AddsFiles, files}
use Rattle.page_lists.specs.Hosts.{AddsHosts, hosts}
use Rattle.page_lists.specs.Netgroups.{AddsNetgroups, netgroups}
use Rattle.page_lists.specs.Warnings.{AddsWarnings, warnings}
use Rattle.page_summary.specs.Adding.{Adds}
use Rattle.page_site.specs.Page.{InSection}
use Rattle.page_site.specs.Pieces.{Gains, Just, Then, Told}

pub gains_just : (words old new : List ℕ) → new ≡ old ++ words → Gains (Just words) old new
gains_just words old new is = record { text = words; is = refl; added = is }

pub gains_told : {A : Type 0} (Is : A → Type 0) (words : A → List ℕ) (old new : List ℕ) → Adds Is words old new → Gains (Told Is words) old new
gains_told Is words old new adds = record { text = words adds.made; is = record { value = adds.made; is = adds.are; text_is = refl }; added = adds.added }

pub gains_then : {First Second : List ℕ → Type 0} {old between new : List ℕ} → Gains First old between → Gains Second between new → Gains (Then First Second) old new
gains_then {old = old} first second = record {
  text = first.text ++ second.text;
  is = record { first = first.text; second = second.text; is_first = first.is; is_second = second.is; text_is = refl };
  added = second.added ∙ ap (λ t. t ++ second.text) first.added ∙ append_assoc old first.text second.text;
}

-- a section begins and ends
pub gains_section : {Is : List ℕ → Type 0} (section : Section) (old begun told new : List ℕ) → begun ≡ old ++ section_start section → Gains Is begun told
    → new ≡ told ++ section_end → Gains (InSection section Is) old new
gains_section section old begun told new start is ended =
    gains_then (gains_just (section_start section) old begun start) (gains_then is (gains_just section_end told new ended))

-- what says of a page that it has a table behind the text before it says so of the table alone
pub gains_networks : (content : Content) (old new : List ℕ) → GainsNetworks content old new → Gains (GainsNetworks content []) old new
gains_networks content old new gains = record {
  text = networks_text content gains.listed (length gains.written - 64);
  is = record { written = gains.written; ordered = gains.ordered; listed = gains.listed; are = gains.are; text = refl };
  added = gains.text;
}

pub gains_warnings : (content : Content) (old new : List ℕ) → AddsWarnings content old new → Gains (AddsWarnings content []) old new
gains_warnings content old new adds = record {
  text = warnings adds.rows;
  is = record { rows = adds.rows; are = adds.are; added = refl };
  added = adds.added;
}

pub gains_netgroups : (content : Content) (tables : SiteTables) (old new : List ℕ) → AddsNetgroups content tables old new → Gains (AddsNetgroups content tables []) old new
gains_netgroups content tables old new adds = record {
  text = netgroups adds.rows;
  is = record { rows = adds.rows; are = adds.are; added = refl };
  added = adds.added;
}

pub gains_hosts : (content : Content) (tables : SiteTables) (old new : List ℕ) → AddsHosts content tables old new → Gains (AddsHosts content tables []) old new
gains_hosts content tables old new adds = record {
  text = hosts adds.rows;
  is = record { rows = adds.rows; are = adds.are; added = refl };
  added = adds.added;
}

pub gains_files : (table : List Mount) (standing : Standing) (old new : List ℕ) → AddsFiles table standing old new → Gains (AddsFiles table standing []) old new
gains_files table standing old new adds = record {
  text = files adds.rows;
  is = record { rows = adds.rows; are = adds.are; added = refl };
  added = adds.added;
}
