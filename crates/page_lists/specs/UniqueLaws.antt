-- What is listed of a site is told in one way. (this project's own)
use Rattle.std.specs.Prelude.{◌≡◌, ℕ, List}
use Rattle.desk_core.specs.Listing.{AreHeldFiles, HeldFile}
use Rattle.desk_core.specs.Standing.{Standing}
use Rattle.desk_policy.specs.Policy.{Content}
use Rattle.desk_policy.specs.declared.parsing.SiteTables.{SiteTables}
use Rattle.desk_tables.specs.declared.filesystems.Mount.{Mount}
use Rattle.page_lists.specs.Files.{AddsFiles}
use Rattle.page_lists.specs.Hosts.{AddsHosts}
use Rattle.page_lists.specs.Netgroups.{AddsNetgroups}
use Rattle.page_lists.specs.Warnings.{AddsWarnings}

-- Behind a text there is at most one table of the files of a site, one of its warnings, one of its netgroups and one of the names of hosts;
-- and there is one list of the files that have a revision or a proposal.
pub record ListsAreToldInOneWay : Type 0 where
  pub held : (standing : Standing) (files others : List HeldFile) → AreHeldFiles standing files → AreHeldFiles standing others → files ≡ others
  pub files : (table : List Mount) (standing : Standing) (old text other : List ℕ) → AddsFiles table standing old text → AddsFiles table standing old other → text ≡ other
  pub warnings : (content : Content) (old text other : List ℕ) → AddsWarnings content old text → AddsWarnings content old other → text ≡ other
  pub netgroups : (content : Content) (tables : SiteTables) (old text other : List ℕ) → AddsNetgroups content tables old text → AddsNetgroups content tables old other → text ≡ other
  pub hosts : (content : Content) (tables : SiteTables) (old text other : List ℕ) → AddsHosts content tables old text → AddsHosts content tables old other → text ≡ other
