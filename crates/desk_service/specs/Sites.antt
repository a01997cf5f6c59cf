-- The whole site, in force or as it would be with another text of a file, as it is answered. (this project's own)
use Rattle.std.specs.Prelude.{◌≡◌, ℕ, List, Ok}
use Rattle.desk_policy.specs.Parsing.{read_site_tables}
use Rattle.desk_policy.specs.Policy.{Content}
use Rattle.desk_policy.specs.Site.{SiteTexts}
use Rattle.desk_policy.specs.declared.parsing.SiteTables.{SiteTables}
use Rattle.desk_core.specs.Foresight.{with_text}
use Rattle.desk_core.specs.Head.{Newest}
use Rattle.desk_core.specs.Site.{IsInForce, site_in}
use Rattle.desk_service.specs.Foreseeing.{MayHave}
use Rattle.desk_service.specs.declared.sites.WholeSite.{WholeSite as LentSite}
use Rattle.desk_service.specs.declared.sites.WholeSite.TheVariants as lent

-- a site: its policy, and the tables that its exports files are read with
pub record WholeSite : Type 0 where
  pub content : Content
  pub tables : SiteTables

-- the same by value
abbrev pub site_of : {V : Type 0} → (V → Content) → LentSite V → WholeSite
site_of in_force (lent.InForce view tables) = record { content = in_force view.now; tables = tables.now }
site_of in_force (lent.Foreseen site) = record { content = in_force site.view; tables = site.tables }

-- the policy of a site is in force by these texts, and its tables are those of the texts
pub record IsSiteOf (texts : SiteTexts) (site : WholeSite) : Type 0 where
  pub content : IsInForce texts site.content
  pub tables : read_site_tables texts ≡ Ok site.tables

-- the site with a text that the file may have, by newest revisions
pub record IsForeseenSite (newest : Newest) (file text : List ℕ) (site : WholeSite) : Type 0 where
  pub may : MayHave newest file text
  pub is : IsSiteOf (site_in (with_text newest file text)) site
